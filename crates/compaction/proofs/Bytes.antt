-- Bytes put into a buffer and moved toward its front. Assumes nothing.
use mathlib.Core.Path.{◌≡◌, sym, ◌∙◌}
use mathlib.Core.List.{List, ◌++◌, append_assoc, append-nil}
use Prim.Native.Nat.{ℕ, ◌+◌, ◌-◌, ◌≤◌}
use native.Mathlib.Omega.{arith}
use borrow.Rule.Slice.PartMut.{put_mid, Post-is}
use lib.ListN.{length, take, drop, replicate, length-append, length-drop, take-append-drop}
use lib.Seq.{drop-length, length-take-le, take_at, drop_at, drop-drop}
use Rattle.std.specs.List.{copy_within}
use Rattle.fields.specs.Bytes.{put_at}
use Rattle.compaction.specs.Code.Steps.{Moved}

module _ (s : List ℕ) (to : ℕ) (bs : List ℕ) (h : to + length bs ≤ length s) where
  head_long : length (take to s ++ bs) ≡ to + length bs
  head_long = length-append (take to s) bs ∙ omega (arith, length-take-le to s (omega arith))

  regroup : put_at s to bs ≡ (take to s ++ bs) ++ drop (to + length bs) s
  regroup = sym (append_assoc (take to s) bs (drop (to + length bs) s))

  pub put_rest : drop (to + length bs) (put_at s to bs) ≡ drop (to + length bs) s
  put_rest = rw regroup (drop_at (take to s ++ bs) (drop (to + length bs) s) (to + length bs) head_long)

  pub put_head : take (to + length bs) (put_at s to bs) ≡ take to s ++ bs
  put_head = rw regroup (take_at (take to s ++ bs) (drop (to + length bs) s) (to + length bs) head_long)

-- bytes that stand where they are put
pub put_same : (s : List ℕ) (at n : ℕ) → at + n ≤ length s → put_at s at (take n (drop at s)) ≡ s
put_same s at n h =
    let size : length (take n (drop at s)) ≡ n = length-take-le n (drop at s) (simp length-drop (omega arith)) in
    rw (size, ← drop-drop n at s, take-append-drop n (drop at s)) (take-append-drop at s)

-- ---- `keep`

pub moved_record : (to from next : ℕ) (s after : List ℕ) → from ≤ next → next ≤ length s → after ≡ put_at s to (take (next - from) (drop from s))
    → Moved to (take (next - from) (drop from s)) s after (to + (next - from))
moved_record to from next s after o h q =
    let size : length (take (next - from) (drop from s)) ≡ next - from = length-take-le (next - from) (drop from s) (simp length-drop (omega arith)) in
    record { bytes = q; place = omega (arith, size) }

-- a record that already stands there
pub moved_already : (to from next : ℕ) (s : List ℕ) → to ≡ from → from ≤ next → next ≤ length s
    → Moved to (take (next - from) (drop from s)) s s (to + (next - from))
moved_already to from next s q o h = moved_record to from next s s o h (sym (rw q (put_same s from (next - from) (omega arith))))

-- what `copy_within` leaves
pub moved_within : (to from next : ℕ) (s : List ℕ) → from ≤ next → next ≤ length s
    → Moved to (take (next - from) (drop from s)) s (copy_within s from next to) (to + (next - from))
moved_within to from next s o h =
    let size : length (take (next - from) (drop from s)) ≡ next - from = length-take-le (next - from) (drop from s) (simp length-drop (omega arith)) in
    moved_record to from next s _ o h (rw size (append_assoc (take to s) _ _))

-- what `fill` leaves of a part that is lent from a place on
pub filled : (s part : List ℕ) (r : ℕ) → r ≤ length s → part ≡ replicate (length (take (length s - r) (drop r s))) 0
    → put_mid r (length s - r) s part ≡ take r s ++ replicate (length s - r) 0
filled s part r h e =
    let size : length (take (length s - r) (drop r s)) ≡ length s - r = length-take-le (length s - r) (drop r s) (simp length-drop (omega arith)) in
    rw (Post-is r (length s) s h, drop-length s, append-nil part, e, size)
