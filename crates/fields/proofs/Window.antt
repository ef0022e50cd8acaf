-- A reader sees a record's own bytes: two strings that begin alike are read alike. Assumes nothing.
use mathlib.Core.Path.{◌≡◌, refl, sym, ap, ◌∙◌}
use mathlib.Core.Bool.{Bool, true, false, cond}
use mathlib.Core.List.{List, [], ◌∷◌}
use Prim.Native.Nat.{ℕ, zero, suc, ◌+◌, ◌-◌, ◌/◌, ◌≤◌}
use native.Mathlib.Omega.{arith}
use native.Mathlib.Nat.{sub-zero, zero-sub, suc-sub-suc}
use borrow.Author.Tests.{le-leb, lt-leb, leb-true, leb-false}
use lib.Dec.{leb}
use lib.ListN.{length, take, drop, length-drop}
use lib.Seq.{get_or-take, take-nil, take_all, length-take-le}
use Rattle.fields.specs.Bytes.{number_at, has_bytes}
use Rattle.fields.specs.Fields.{Field, stands, size_of, values_at}

pub drop_take : {A : Type 0} (i n : ℕ) (l : List A) → drop i (take n l) ≡ take (n - i) (drop i l)
drop_take zero n l = rw (sub-zero n)
drop_take (suc i) zero l = rw (zero-sub (suc i))
drop_take (suc i) (suc n) [] = rw (take-nil (suc n - suc i))
drop_take (suc i) (suc n) (x ∷ xs) = rw (suc-sub-suc n i) (drop_take i n xs)

-- a number, and values, that lie in the first n bytes
pub number_take : (k n : ℕ) (s : List ℕ) → k ≤ n → number_at k (take n s) ≡ number_at k s
unfolding number_at
number_take zero n s h = refl
number_take (suc k) n s h = rw (get_or-take n s 0 0 (omega arith), drop_take 1 n s, number_take k (n - 1) (drop 1 s) (omega arith))

values_take : (fs : List Field) (m n : ℕ) (s : List ℕ) → size_of fs m ≤ n → values_at fs m (take n s) ≡ values_at fs m s
unfolding values_at size_of
values_take [] m n s h = refl
values_take (f ∷ fs) m n s h = go (stands m) (λ (j : ℕ) (r : List ℕ). values_take fs (m / 2) j r) h
  where
    go : (b : Bool)
        → ((j : ℕ) (r : List ℕ) → size_of fs (m / 2) ≤ j → values_at fs (m / 2) (take j r) ≡ values_at fs (m / 2) r)
        → cond b f.bytes 0 + size_of fs (m / 2) ≤ n
        → cond b (number_at f.bytes (take n s) ∷ values_at fs (m / 2) (drop f.bytes (take n s))) (f.missing ∷ values_at fs (m / 2) (take n s))
        ≡ cond b (number_at f.bytes s ∷ values_at fs (m / 2) (drop f.bytes s)) (f.missing ∷ values_at fs (m / 2) s)
    go true ih l = rw (number_take f.bytes n s (omega arith), drop_take f.bytes n s, ih (n - f.bytes) (drop f.bytes s) (omega arith))
    go false ih l = rw (ih n s (omega arith))

room_take : (n k : ℕ) (s : List ℕ) → k ≤ n → has_bytes (take n s) 0 k ≡ has_bytes s 0 k
room_take n k s h = go (leb n (length s)) refl
  where
    go : (b : Bool) → leb n (length s) ≡ b → has_bytes (take n s) 0 k ≡ has_bytes s 0 k
    go true e =
        let l : n ≤ length s = leb-true n (length s) e in
        rw (length-take-le n s l, le-leb (0 + k) n (omega arith), le-leb (0 + k) (length s) (omega arith))
    go false e = rw (take_all n s (omega (arith, leb-false n (length s) e)))

-- the first n bytes of s and t are alike; a map has w bytes
module _ (w n : ℕ) (s t : List ℕ) (alike : take n s ≡ take n t) (whole : w ≤ n) where
  pub same_map : number_at w s ≡ number_at w t
  same_map = sym (number_take w n s whole) ∙ ap (number_at w) alike ∙ number_take w n t whole

  pub same_room : (k : ℕ) → k ≤ n → has_bytes s 0 k ≡ has_bytes t 0 k
  same_room k h = sym (room_take n k s h) ∙ ap (λ (l : List ℕ). has_bytes l 0 k) alike ∙ room_take n k t h

  pub same_values : (fs : List Field) (m : ℕ) → w + size_of fs m ≤ n → values_at fs m (drop w s) ≡ values_at fs m (drop w t)
  same_values fs m h =
      let from : (r : List ℕ) → values_at fs m (drop w r) ≡ values_at fs m (drop w (take n r)) =
      λ (r : List ℕ). sym (rw (drop_take w n r) (values_take fs m (n - w) (drop w r) (omega arith))) in
      from s ∙ ap (λ (l : List ℕ). values_at fs m (drop w l)) alike ∙ sym (from t)

-- room from a place on is room in the rest
pub room_at : (s : List ℕ) (at k : ℕ) → at ≤ length s → has_bytes s at k ≡ has_bytes (drop at s) 0 k
room_at s at k h = go (leb (0 + k) (length (drop at s))) refl
  where
    go : (b : Bool) → leb (0 + k) (length (drop at s)) ≡ b → leb (at + k) (length s) ≡ b
    go true e = le-leb (at + k) (length s) (omega (arith, leb-true (0 + k) (length (drop at s)) e, length-drop at s))
    go false e = lt-leb (at + k) (length s) (omega (arith, leb-false (0 + k) (length (drop at s)) e, length-drop at s))
