-- The laws of a record from four facts about it, and what a write leaves untouched. Assumes nothing.
use mathlib.Core.Path.{◌≡◌, refl, sym, ap, ◌∙◌}
use mathlib.Core.Bool.{Bool, true, false}
use mathlib.Core.List.{List, [], ◌++◌, append-nil}
use Prim.Native.Nat.{ℕ, ◌+◌, ◌≤◌}
use native.Mathlib.Omega.{arith}
use borrow.Author.Tests.{leb-true}
use lib.ListN.{length, take, drop, length-append, length-drop}
use lib.Seq.{take_at, drop_at, drop-drop, length-take-le}
use Rattle.fields.specs.Bytes.{has_bytes, put_at}
use Rattle.fields.specs.Writing.{buffer_of}
use Rattle.fields.specs.Laws.{Laws, Untouched}

module _ {Value Answer : Type 0} (F32 : Value → Type 0) (bytes : Value → List ℕ) (read : List ℕ → ℕ → Answer) (got : Value → ℕ → Answer)
    -- wherever the record stands, with anything after it
    (stands : (s : List ℕ) (at : ℕ) (v : Value) (rest : List ℕ) → at ≤ length s → drop at s ≡ bytes v ++ rest → F32 v
    → read s at ≡ got v (at + length (bytes v)))
    (held : (s : List ℕ) (at : ℕ) (v : Value) (next : ℕ) → read s at ≡ got v next → F32 v)
    (no_longer : (s : List ℕ) (at : ℕ) (v : Value) (next : ℕ) → read s at ≡ got v next → at + length (bytes v) ≤ next)
    (one : (v w : Value) (m n : ℕ) → got v m ≡ got w n → v ≡ w) where
  alone : (v : Value) → F32 v → read (bytes v) 0 ≡ got v (length (bytes v))
  alone v f = let z : 0 + length (bytes v) ≡ length (bytes v) = omega arith in rw z at (stands (bytes v) 0 v [] (omega arith) (sym (append-nil (bytes v))) f)

  written : (out : List ℕ) (at : ℕ) (v : Value) → F32 v → has_bytes out at (length (bytes v)) ≡ true
      → read (buffer_of out at (bytes v)) at ≡ got v (at + length (bytes v))
  unfolding buffer_of
  written out at v f e =
      let h : at + length (bytes v) ≤ length out = leb-true _ _ e in
      let l : length (take at out) ≡ at = length-take-le at out (omega arith) in
      rw e
      (stands (put_at out at (bytes v)) at v (drop (at + length (bytes v)) out)
      (simp length-append (omega arith))
      (drop_at (take at out) (bytes v ++ drop (at + length (bytes v)) out) at l) f)

  same_bytes : (v w : Value) → F32 v → F32 w → bytes v ≡ bytes w → v ≡ w
  same_bytes v w f g e = one v w (length (bytes v)) (length (bytes w)) (sym (alone v f) ∙ ap (λ (s : List ℕ). read s 0) e ∙ alone w g)

  pub laws : Laws F32 bytes read got
  laws =
      record {
        back = written;
        again = λ s at v next e. (no_longer s at v next e, alone v (held s at v next e));
        same = λ v w f g. (same_bytes v w f g, λ (e : v ≡ w). ap bytes e);
      }

-- ---- what a write leaves untouched

module _ (out : List ℕ) (at : ℕ) (bs : List ℕ) (h : at + length bs ≤ length out) where
  front : length (take at out) ≡ at
  front = length-take-le at out (omega arith)

  put_before : take at (put_at out at bs) ≡ take at out
  put_before = take_at (take at out) (bs ++ drop (at + length bs) out) at front

  put_after : drop (at + length bs) (put_at out at bs) ≡ drop (at + length bs) out
  put_after =
      sym (drop-drop (length bs) at (put_at out at bs))
      ∙ ap (drop (length bs)) (drop_at (take at out) (bs ++ drop (at + length bs) out) at front)
      ∙ drop_at bs (drop (at + length bs) out) (length bs) refl

  put_long : length (put_at out at bs) ≡ length out
  put_long = simp (length-append, length-drop) (omega (arith, front))

pub untouched : (out : List ℕ) (at : ℕ) (bs : List ℕ) → Untouched out at bs
unfolding buffer_of
untouched out at bs = go (has_bytes out at (length bs)) refl
  where
    go : (b : Bool) → has_bytes out at (length bs) ≡ b → Untouched out at bs
    go true e =
        let h : at + length bs ≤ length out = leb-true _ _ e in
        record { before = rw e (put_before out at bs h); after = rw e (put_after out at bs h); long = rw e (put_long out at bs h) }
    go false e = record { before = rw e; after = rw e; long = rw e }
