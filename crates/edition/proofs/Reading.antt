-- The calls of records, from a place on. Assumes nothing.
use mathlib.Core.Path.{◌≡◌, refl}
use mathlib.Core.Bool.{Bool, true, false}
use mathlib.Core.List.{List}
use Prim.Native.Nat.{ℕ, zero, suc, ◌+◌, ◌-◌, ◌<◌, ◌≤◌}
use native.Mathlib.Omega.{arith}
use borrow.Author.Tests.{le-leb, lt-leb, leb-true, leb-false}
use lib.Dec.{leb}
use lib.ListN.{length, length-append}
use Rattle.std.specs.Prelude.{Result, Ok, Err}
use Rattle.refusals.specs.declared.Refusal.{Refusal}
use Rattle.records.specs.declared.call.ReadCall.{ReadCall}
use Rattle.editions.specs.declared.Edition.{Edition}
use Rattle.editions.specs.Edition.{read_as, record_as, other}
use Rattle.edition_laws.proofs.EditionBack.{edition_laws, edition_within, edition_same}
use Rattle.replay.specs.Recording.{ends, stops, no_calls, with_call}
use Rattle.edition.specs.Conversion.{read_records, records_of}

module _ (e : Edition) (s : List ℕ) (at : ℕ) where
  pub read_over : (n : ℕ) → length s ≤ at → read_records n e s at ≡ no_calls ends
  unfolding read_records
  read_over zero h = refl
  read_over (suc n) h = rw (le-leb (length s) at h)

  pub read_bad : (n : ℕ) (why : Refusal) → at < length s → read_as e s at ≡ Err why → read_records (suc n) e s at ≡ no_calls (stops why)
  unfolding read_records
  read_bad n why h q = rw (lt-leb (length s) at h, q)

  pub read_call_lem : (n : ℕ) (r : ReadCall) → at < length s → read_as e s at ≡ Ok r
      → read_records (suc n) e s at ≡ with_call (record { place = at; call = r.call }) (read_records n e s r.next)
  unfolding read_records
  read_call_lem n r h q = rw (lt-leb (length s) at h, q)

-- what is written of the records from a place on
abbrev pub left : ℕ → Edition → List ℕ → ℕ → List ℕ
left n wanted s at = records_of wanted (read_records n (other wanted) s at).calls

-- is no longer than what is read
pub left_short : (n : ℕ) (wanted : Edition) (s : List ℕ) (at : ℕ) → length (left n wanted s at) ≤ length s - at
unfolding read_records records_of
left_short zero wanted s at = omega arith
left_short (suc n) wanted s at = go (leb (length s) at) refl (read_as (other wanted) s at) refl (left_short n wanted s)
  where
    go : (b : Bool) → leb (length s) at ≡ b → (a : Result ReadCall Refusal) → read_as (other wanted) s at ≡ a
        → ((next : ℕ) → length (left n wanted s next) ≤ length s - next) → length (left (suc n) wanted s at) ≤ length s - at
    go true h a q ih = rw (read_over (other wanted) s at (suc n) (leb-true (length s) at h)) (omega arith)
    go false h (Err why) q ih = rw (read_bad (other wanted) s at n why (leb-false (length s) at h) q) (omega arith)
    go false h (Ok r) q ih =
        let short : at + length (record_as (other wanted) r.call) ≤ r.next = ((edition_laws (other wanted)).again s at r.call r.next q).0 in
        let inside : r.next ≤ length s = edition_within (other wanted) s at r.call r.next q in
        rw (read_call_lem (other wanted) s at n r (leb-false (length s) at h) q)
        (simp length-append (omega (arith, ih r.next, edition_same (other wanted) wanted r.call)))
