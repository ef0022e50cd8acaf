-- A conversion by the name of the wanted edition is the conversion by its number. Assumes nothing.
use Rattle.std.proofs.Common.{ℕ, Bool, true, false, cond, eqb, List, ◌≡◌, refl, Result, Ok, Err}
use Rattle.refusals.specs.declared.Refusal.{Refusal}
use Rattle.refusals.specs.declared.Refusal.TheVariants as why
use Rattle.editions.specs.declared.Edition.{Edition}
use Rattle.editions.specs.declared.Edition.TheVariants.{First, Second}
use Rattle.editions.specs.Edition.{edition_of, other, read_as, answer, buffer}
use Rattle.host_editions.specs.Conversion.{conversion_of, conversion, buffer_after}
use Rattle.host_editions.specs.declared.Conversion.{Conversion}

abbrev pub by_name : Result Edition Refusal → List ℕ → ℕ → List ℕ → ℕ → Conversion
by_name (Ok e) s at out place = conversion_of (answer e (read_as (other e) s at) out place)
by_name (Err r) s at out place = conversion_of (Err r)

abbrev pub buffer_by_name : Result Edition Refusal → List ℕ → ℕ → List ℕ → ℕ → List ℕ
buffer_by_name (Ok e) s at out place = buffer e (read_as (other e) s at) out place
buffer_by_name (Err r) s at out place = out

pub answer_by : (n : ℕ) (s : List ℕ) (at : ℕ) (out : List ℕ) (place : ℕ) → conversion n s at out place ≡ by_name (edition_of n) s at out place
unfolding conversion
answer_by n s at out place = go (eqb n 1) (eqb n 2)
  where
    go : (a b : Bool) →
        cond a (by_name (Ok First) s at out place) (cond b (by_name (Ok Second) s at out place) (by_name (Err why.UnknownRequest) s at out place))
        ≡ by_name (cond a (Ok First) (cond b (Ok Second) (Err why.UnknownRequest))) s at out place
    go true b = refl
    go false true = refl
    go false false = refl

pub buffer_by : (n : ℕ) (s : List ℕ) (at : ℕ) (out : List ℕ) (place : ℕ) → buffer_after n s at out place ≡ buffer_by_name (edition_of n) s at out place
unfolding buffer_after
buffer_by n s at out place = go (eqb n 1) (eqb n 2)
  where
    go : (a b : Bool) →
        cond a (buffer_by_name (Ok First) s at out place) (cond b (buffer_by_name (Ok Second) s at out place) out)
        ≡ buffer_by_name (cond a (Ok First) (cond b (Ok Second) (Err why.UnknownRequest))) s at out place
    go true b = refl
    go false true = refl
    go false false = refl
