-- `convert_file`: an input's answer, and that the bytes which were read decide it. Assumes nothing.
use mathlib.Core.Path.{◌≡◌, refl, sym, ◌∙◌}
use mathlib.Core.Bool.{Bool, true, false, cond}
use mathlib.Core.List.{List, [], ◌∷◌, ◌++◌, append-nil}
use Prim.Native.Nat.{ℕ, ◌<◌, ◌≤◌}
use native.Mathlib.Omega.{arith}
use borrow.Author.Tests.{le-leb, lt-leb, leb-true, leb-false}
use lib.Dec.{eqb, leb}
use lib.ListN.{length, take, get_or, length-append}
use lib.Seq.{take-append_seam}
use Rattle.std.specs.Prelude.{Result, Ok, Err}
use Rattle.std.specs.Result.{is_ok}
use Rattle.refusals.specs.declared.Refusal.TheVariants as why
use Rattle.fields.specs.Bytes.{put_at}
use Rattle.lines.proofs.PutLaw.{put_long}
use Rattle.editions.specs.declared.Edition.{Edition}
use Rattle.editions.specs.declared.Edition.TheVariants.{First, Second}
use Rattle.editions.specs.Edition.{edition_of}
use Rattle.replay.specs.Recording.{Ending, ends, stops}
use Rattle.replay.specs.Sizes.{decisive}
use Rattle.edition.specs.declared.Refused.{Refused}
use Rattle.edition.specs.declared.Refused.TheVariants.{NoEdition, TooLong}
use Rattle.edition.specs.Conversion.{Conversion, answer_to, converted, nothing, conversion, AnswersWhole}
use Rattle.edition.proofs.Reading.{left_short}
use Rattle.edition.proofs.Law.{all, whole}

-- what is written has room, and is as long as the answer says
record Sized (s : List ℕ) (c : Conversion) : Type 0 where
  fits : length c.bytes ≤ length s
  size : (n : ℕ) → c.answer ≡ Ok n → n ≡ length c.bytes

sized_one : (s : List ℕ) (b : Bool) (x y : Conversion) → Sized s x → Sized s y → Sized s (cond b x y)
sized_one s true x y f g = f
sized_one s false x y f g = g

sized_nothing : (s : List ℕ) (why : Refused) → Sized s (nothing why)
sized_nothing s why = record { fits = omega arith; size = λ n q. absurd cc }

sized_converted : (s : List ℕ) (wanted : Edition) → Sized s (converted wanted s)
unfolding converted
sized_converted s wanted =
    record {
      fits = omega (arith, left_short (length s) wanted s 1);
      size = go (all wanted s).ending;
    }
  where
    go : (e : Ending) (n : ℕ) → answer_to (whole wanted s) (length (all wanted s).calls) e ≡ Ok n → n ≡ length (whole wanted s)
    go ends n q = let same : length (whole wanted s) ≡ n = cc in sym same
    go (stops why) n q = absurd cc

sized : (s : List ℕ) → Sized s (conversion s)
unfolding conversion
sized s =
    sized_one s (leb decisive (length s)) _ _ (sized_nothing s TooLong)
    (sized_one s (eqb (get_or s 0 0) 1) _ _ (sized_converted s First)
    (sized_one s (eqb (get_or s 0 0) 2) _ _ (sized_converted s Second) (sized_nothing s NoEdition)))

-- the bytes that were read decide
whole_input : (s rest : List ℕ) → (length s < decisive → rest ≡ []) → conversion (s ++ rest) ≡ conversion s
unfolding conversion
whole_input s rest h = go (leb decisive (length s)) refl
  where
    go : (b : Bool) → leb decisive (length s) ≡ b → conversion (s ++ rest) ≡ conversion s
    go true e =
        let l : decisive ≤ length s = leb-true decisive (length s) e in
        let m : decisive ≤ length (s ++ rest) = omega (arith, length-append s rest) in
        rw (e, le-leb decisive (length (s ++ rest)) m)
    go false e =
        let l : length s < decisive = leb-false decisive (length s) e in
        rw (h l, append-nil s)

pub converts : (s before after : List ℕ) (r : Result ℕ Refused) (c : Conversion) → length s ≤ length before → conversion s ≡ c
    → r ≡ c.answer → after ≡ put_at before 0 c.bytes → AnswersWhole s before after r
converts s before after r c room e a b =
    let f : Sized s c = rw e at (sized s) in
    let long : length after ≡ length before = rw b (put_long before 0 c.bytes (omega (arith, f.fits))) in
    let out : (n : ℕ) → r ≡ Ok n → take n after ≡ c.bytes = λ n q. rw (b, f.size n (sym a ∙ q)) (take-append_seam c.bytes _) in
    record {
      whole =
          λ rest h.
          let w : conversion (s ++ rest) ≡ c = whole_input s rest h ∙ e in
          record {
            answer = rw w a;
            buffer = rw w b;
            output = λ n q. rw w (out n q);
            within = λ n q. omega (arith, f.size n (sym a ∙ q), f.fits);
          };
    }

pub is_empty : (s : List ℕ) → length s ≤ 0 → conversion s ≡ nothing NoEdition
unfolding conversion
is_empty [] l = refl
is_empty (x ∷ s) l = absurd (omega arith)

module _ (s : List ℕ) where
  pub is_long : decisive ≤ length s → conversion s ≡ nothing TooLong
  unfolding conversion
  is_long h = rw (le-leb decisive (length s) h)

  module _ (h : length s < decisive) where
    pub is_wanted : (wanted : Edition) → edition_of (get_or s 0 0) ≡ Ok wanted → conversion s ≡ converted wanted s
    unfolding conversion
    is_wanted wanted q = rw (lt-leb decisive (length s) h) (go (eqb (get_or s 0 0) 1) (eqb (get_or s 0 0) 2) q)
      where
        go : (a b : Bool) → cond a (Ok First) (cond b (Ok Second) (Err why.UnknownRequest)) ≡ Ok wanted
            → cond a (converted First s) (cond b (converted Second s) (nothing NoEdition)) ≡ converted wanted s
        go true b q = let e : First ≡ wanted = cc in rw e refl
        go false true q = let e : Second ≡ wanted = cc in rw e refl
        go false false q = absurd cc

    pub is_neither : is_ok (edition_of (get_or s 0 0)) ≡ false → conversion s ≡ nothing NoEdition
    unfolding conversion
    is_neither q = rw (lt-leb decisive (length s) h) (go (eqb (get_or s 0 0) 1) (eqb (get_or s 0 0) 2) q)
      where
        go : (a b : Bool) → is_ok (cond a (Ok First) (cond b (Ok Second) (Err why.UnknownRequest))) ≡ false
            → cond a (converted First s) (cond b (converted Second s) (nothing NoEdition)) ≡ nothing NoEdition
        go true b q = absurd cc
        go false true q = absurd cc
        go false false q = refl
