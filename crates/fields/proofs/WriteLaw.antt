-- Each outcome of a write. Assumes nothing.
use Rattle.std.specs.Prelude.{Ok, Err}
use mathlib.Core.Path.{◌≡◌}
use mathlib.Core.List.{List}
use Prim.Native.Nat.{ℕ, ◌+◌, ◌-◌, ◌<◌, ◌≤◌}
use native.Mathlib.Omega.{arith}
use borrow.Author.Tests.{le-leb, lt-leb}
use borrow.Rule.Slice.PartMut.{put_mid}
use lib.ListN.{length, drop, take}
use Rattle.refusals.specs.declared.Refusal.TheVariants as refusal
use Rattle.fields.specs.Bytes.{put_at}
use Rattle.fields.specs.Writing.{answer_of, buffer_of}
use Rattle.fields.proofs.FieldLaw.{put_lent}

module _ (out : List ℕ) (at : ℕ) (bs : List ℕ) (size : ℕ) (is : size ≡ length bs) where
  pub refused : length out < at + size → (Err refusal.TooLittleRoom ≡ answer_of out at bs) × (out ≡ buffer_of out at bs)
  unfolding answer_of buffer_of
  refused h =
      let no : length out < at + length bs = omega arith in
      (rw (lt-leb (at + length bs) (length out) no), rw (lt-leb (at + length bs) (length out) no))

  pub accepted : at + size ≤ length out → (p : List ℕ) → p ≡ put_at (take (length out - at) (drop at out)) 0 bs
      → (Ok (at + size) ≡ answer_of out at bs) × (put_mid at (length out - at) out p ≡ buffer_of out at bs)
  unfolding answer_of buffer_of
  accepted h p e =
      let yes : at + length bs ≤ length out = omega arith in
      (rw (le-leb (at + length bs) (length out) yes, is), rw (le-leb (at + length bs) (length out) yes) (put_lent out p at bs (omega arith) e))
