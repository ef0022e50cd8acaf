-- Bytes put one after another from the front of a part on. Assumes nothing.
use mathlib.Core.Path.{◌≡◌, refl, sym, ap, ◌∙◌}
use mathlib.Core.List.{List, [], ◌∷◌, ◌++◌, append_assoc, append-nil}
use Prim.Native.Nat.{ℕ, ◌+◌, ◌-◌, ◌<◌, ◌≤◌}
use native.Mathlib.Omega.{arith}
use native.Mathlib.Nat.{zero-add}
use native.Mathlib.Numerals.{add-one}
use borrow.Rule.Slice.PartMut.{put_mid, Post-is}
use lib.ListN.{length, set, take, drop, length-append, length-drop}
use lib.Seq.{set_split, length-take-le, drop-drop, take_at, drop_at, drop-length}
use Rattle.std.proofs.lemmas.List.{take_rest}
use Rattle.fields.specs.Bytes.{put_at}
use Rattle.lines.specs.Line.{Puts}

pub put_long : (s : List ℕ) (at : ℕ) (bs : List ℕ) → at + length bs ≤ length s → length (put_at s at bs) ≡ length s
put_long s at bs h =
    simp (length-append, length-drop) (omega (arith, length-take-le at s (omega arith)))

-- bytes put at a place, and then more after them
pub put_then : (s : List ℕ) (at : ℕ) (a b : List ℕ) → at + length a ≤ length s → put_at (put_at s at a) (at + length a) b ≡ put_at s at (a ++ b)
put_then s at a b h =
    let front : length (take at s ++ a) ≡ at + length a = simp length-append (omega (arith, length-take-le at s (omega arith))) in
    let whole : put_at s at a ≡ (take at s ++ a) ++ drop (at + length a) s = sym (append_assoc (take at s) a _) in
    let size : at + length (a ++ b) ≡ at + length a + length b = simp length-append (omega arith) in
    let last : drop (at + length a + length b) (put_at s at a) ≡ drop (at + length a + length b) s =
    sym (drop-drop (length b) (at + length a) _) ∙ rw (whole, drop_at _ _ _ front) (drop-drop (length b) (at + length a) s) in
    rw (last, whole, take_at _ _ _ front, size, append_assoc (take at s) a _, append_assoc a b _) refl

-- nothing is put
pub puts_none : (s : List ℕ) → Puts [] s s 0
puts_none s = record { bytes = refl; size = refl }

module _ {before after bs : List ℕ} {at : ℕ} (p : Puts bs before after at) where
  pub long_after : length bs ≤ length before → length after ≡ length before
  long_after h = rw p.bytes (put_long before 0 bs (omega arith))

  -- room for more after what was put
  pub room_after : (n : ℕ) → length bs + n ≤ length before → n ≤ length (take (length after - at) (drop at after))
  room_after n h = rw (take_rest after at) (simp length-drop (omega (arith, p.size, long_after (omega arith))))

  more_at : (new : List ℕ) → length bs + length new ≤ length before → Puts (bs ++ new) before (put_at after at new) (at + length new)
  more_at new h =
      record {
        bytes =
            let place : at ≡ 0 + length bs = omega (arith, p.size) in
            ap (λ (s : List ℕ). put_at s at new) p.bytes ∙ ap (λ (k : ℕ). put_at (put_at before 0 bs) k new) place ∙ put_then before 0 bs new (omega arith);
        size = omega (arith, length-append bs new, p.size);
      }

  -- what another writer put at the front of the rest
  pub puts_more : (new lent : List ℕ) (r : ℕ) → length bs + length new ≤ length before → Puts new (take (length after - at) (drop at after)) lent r
      → Puts (bs ++ new) before (put_mid at (length after - at) after lent) (at + r)
  puts_more new lent r h q =
      let whole : put_mid at (length after - at) after lent ≡ take at after ++ lent = rw (Post-is at (length after) after (omega (arith, p.size, long_after (omega arith))), drop-length after, append-nil lent) in
      rw (whole, q.bytes, q.size, take_rest after at, zero-add (length new), drop-drop (length new) at after) (more_at new h)

  -- one byte more
  pub puts_byte : (x : ℕ) → length bs + 1 ≤ length before → Puts (bs ++ (x ∷ [])) before (set after at x) (at + 1)
  puts_byte x h =
      let in_after : at < length after = omega (arith, p.size, long_after (omega arith)) in
      rw (set_split after at x in_after, ← add-one at) (more_at (x ∷ []) h)

-- a part at the front, filled
pub puts_front : (bs part : List ℕ) (k : ℕ) → k ≡ length bs → Puts bs part (bs ++ drop k part) k
puts_front bs part k e = record { bytes = rw (zero-add (length bs), e); size = e }

-- a byte, and what a writer put after it
pub byte_more : {part lent new : List ℕ} {x r : ℕ} → 1 + length new ≤ length part → Puts new (take (length (set part 0 x) - 1) (drop 1 (set part 0 x))) lent r
    → Puts (x ∷ new) part (put_mid 1 (length (set part 0 x) - 1) (set part 0 x) lent) (1 + r)
byte_more {part} {lent} {new} {x} {r} h q = puts_more (puts_byte (puts_none part) x (omega arith)) new lent r (omega arith) q

-- what one piece after another asks for
pub ruleset puts = (room_after, puts_more, byte_more)
