-- What `nearest_root` makes of n = m * 4 ^ (h + 1): v * 2 ^ h smallest values, where v is the whole number nearest to the root of m. Assumes nothing.
-- 0x1000000 is 2 ^ 24, 0x2000000 is 2 ^ 25, 0x400000000000 is 2 ^ 46, 0x1000000000000 is 2 ^ 48.
use mathlib.Core.Path.{◌≡◌, refl, sym, ap, ◌∙◌, subst}
use Prim.Native.Nat.{ℕ, suc, ◌+◌, ◌-◌, ◌*◌, ◌/◌, ◌%◌, ◌^◌, ◌≤◌, ◌<◌, compare, Ordering}
use native.Mathlib.Nat.{le_antisymm, le_of_suc-le-suc, le_trans, le_of_eq, lt_of_lt_of_le, lt_of_le_of_lt, lt_of_not-le, not-le_of_lt, mul_assoc}
use native.Mathlib.Nat.{mul_comm, mul_left_comm, mul-mul-mul_comm, suc-mul, two-mul, mul-le-mul_right, mul-lt-mul_of_pos_right, mul-pos, div-add-mod'}
use native.Mathlib.Nat.{mod-lt, le-div_iff_mul-le, div-lt_iff_lt-mul, zero-lt-suc}
use native.Mathlib.Omega.{arith}
use mathlib.Core.Bool.{false, not}
use lib.Dec.{T, is_le, compare_is_eq, eqb, leb→le, nleb→lt, eqb→eq, eqb_refl}
use lib.Arith.{lt_of_le-ne}
use lib.Pow.{pow-add, pow_pos, pow_mono, shl_lt}
use lib.Ieee.{Float, binary32, size, nearest, round}
use lib.Ieee.Digits.{size-lt, size-le}
use lib.Ieee.Exact.{HasValue}
use lib.Ieee.Nearest.{closest, closest_same}
use lib.Ieee.Scale.{grid, round_val}
use Rattle.arithmetic.specs.Root.{nearest_root}
use Rattle.arithmetic.proofs.root.Squares.{NearestWhole, square_suc, square_twice, sticky, sticky_above, sticky_below, sticky_ge}

-- ---- what `compare` says
abbrev Cmp : Ordering → ℕ → ℕ → Type 0
Cmp Ordering.lt a b = a < b
Cmp Ordering.eq a b = a ≡ b
Cmp Ordering.gt a b = b < a

cmp : (a b : ℕ) → Cmp (compare a b) a b
cmp a b = go (compare a b) (leb→le a b) (nleb→lt a b) (eqb→eq a b) (λ (e : a ≡ b). subst (λ (x : ℕ). T (eqb a x)) e (eqb_refl a))
  where
    go : (o : Ordering) → (T (is_le o) → a ≤ b) → (T (not (is_le o)) → b < a) → (T (compare_is_eq o) → a ≡ b) → (a ≡ b → T (compare_is_eq o)) → Cmp o a b
    go Ordering.lt h k e n = lt_of_le-ne (h tt) n
    go Ordering.eq h k e n = e tt
    go Ordering.gt h k e n = k tt

-- ---- the fraction a / b rounds to v where it lies within a half of v
module _ (a b v : ℕ) (B : 0 < b) (lo : v * b + v * b < a + a + b) (hi : a + a < v * b + v * b + b) where
  -- w is the whole part, and r / b the rest
  more : (w x : ℕ) → w < x → w * b + b ≤ x * b
  more w x h = le_trans (le_of_eq (sym (suc-mul w b))) (mul-le-mul_right b h)

  by : (w r : ℕ) (o : Ordering) → w * b + r ≡ a → r < b → Cmp o (r * 2) b → nearest w o ≡ v
  by w r Ordering.lt e l c =
      le_antisymm
      (le_of_suc-le-suc (lt_of_not-le (λ (g : suc v ≤ w). not-le_of_lt hi (omega (arith, more v w g)))))
      (le_of_suc-le-suc (lt_of_not-le (λ (g : suc w ≤ v). not-le_of_lt lo (omega (arith, more w v g)))))
  by w r Ordering.eq e l c = absurd (not-le_of_lt hi (omega (arith, more w v above)))
    where
      above : w < v
      above = lt_of_not-le (λ (g : v ≤ w). not-le_of_lt hi (omega (arith, mul-le-mul_right b g)))
  by w r Ordering.gt e l c =
      le_antisymm above (le_of_suc-le-suc (lt_of_not-le (λ (g : suc (suc w) ≤ v). not-le_of_lt lo (omega (arith, more (suc w) v g, suc-mul w b)))))
    where
      above : w < v
      above = lt_of_not-le (λ (g : v ≤ w). not-le_of_lt hi (omega (arith, mul-le-mul_right b g)))

  pub closest_is : closest a b ≡ v
  closest_is = by (a / b) (a % b) (compare (a % b * 2) b) (div-add-mod' a b) (mod-lt a B) (cmp (a % b * 2) b)

-- ---- `nearest_root`
pub nearest_is : (n : ℕ) → nearest_root binary32 n ≡ round binary32 false (sticky n) (2 ^ 151)
unfolding nearest_root
nearest_is n = refl

size_exact : (j n : ℕ) → 2 ^ j ≤ n → n < 2 ^ suc j → size n ≡ suc j
size_exact j n lo hi = le_antisymm (size-le n (suc j) hi) (lt_of_not-le (λ (g : size n ≤ j). not-le_of_lt (lt_of_lt_of_le (size-lt n) (pow_mono g)) lo))

-- `omega` reads no number of more than 38 digits, so 2 ^ 149 is a variable u here
quarter_le : (p w u : ℕ) → 4 * p ≤ w → p * (4 * u) ≤ w * u
quarter_le p w u h = le_trans (le_of_eq (mul_left_comm p 4 u ∙ sym (mul_assoc 4 p u))) (mul-le-mul_right u h)

quarter_lt : (p w u : ℕ) → 0 < u → w < 4 * p → w * u < p * (4 * u)
quarter_lt p w u U h = lt_of_lt_of_le (mul-lt-mul_of_pos_right h U) (le_of_eq (mul_assoc 4 p u ∙ mul_left_comm 4 p u))

cancel : (w p u : ℕ) → 0 < u → 0 < p → closest (w * u) (4 * u * p) ≡ closest w (4 * p)
cancel w p u U P =
    closest_same (w * u) (4 * u * p) w (4 * p) (mul-pos (mul-pos (zero-lt-suc 3) U) P) (mul-pos (zero-lt-suc 3) P)
    (simp (mul_assoc, mul_comm, mul_left_comm))

-- the root of n lies within a half of v * 2 ^ h smallest values, that is, of 2 * v * 2 ^ h of n's units; l is 2 * v - 1
module _ (n h v l : ℕ) (L : suc l ≡ 2 * v) (H : h ≤ 200) (small : v < 0x1000000)
    (lo : 0x1000000 * 2 ^ h * (0x1000000 * 2 ^ h) ≤ n) (hi : n < 0x2000000 * 2 ^ h * (0x2000000 * 2 ^ h))
    (after : l * 2 ^ h * (l * 2 ^ h) < n) (before : n < suc (2 * v) * 2 ^ h * (suc (2 * v) * 2 ^ h)) where
  w_size : size (sticky n * 2 ^ 149 / 2 ^ 151) ≡ suc (23 + h)
  w_size =
      size_exact (23 + h) (sticky n * 2 ^ 149 / 2 ^ 151)
      ((le-div_iff_mul-le (pow_pos 151)).1 (quarter_le (2 ^ (23 + h)) (sticky n) (2 ^ 149) (omega (arith, pow-add 2 23 h, sticky_ge n (0x1000000 * 2 ^ h) lo))))
      ((div-lt_iff_lt-mul (pow_pos 151)).1
      (quarter_lt (2 ^ suc (23 + h)) (sticky n) (2 ^ 149) (pow_pos 149)
      (omega (arith, ap (λ (x : ℕ). 2 ^ x) same, pow-add 2 24 h, sticky_below n (0x2000000 * 2 ^ h) hi))))
    where
      same : suc (23 + h) ≡ 24 + h
      same = omega arith

  dropped : size (sticky n * 2 ^ 149 / 2 ^ 151) - 24 ≡ h
  dropped = omega (arith, w_size)

  twice : 2 * v * 2 ^ h ≡ 2 * (v * 2 ^ h)
  twice = mul_assoc 2 v (2 ^ h)

  under : l * 2 ^ h + 2 ^ h ≡ 2 * (v * 2 ^ h)
  under = sym (suc-mul l (2 ^ h)) ∙ ap (λ (x : ℕ). x * 2 ^ h) L ∙ twice

  over : suc (2 * v) * 2 ^ h ≡ 2 * (v * 2 ^ h) + 2 ^ h
  over = suc-mul (2 * v) (2 ^ h) ∙ ap (λ (x : ℕ). x + 2 ^ h) twice

  kept_is : closest (sticky n * 2 ^ 149) (2 ^ 151 * 2 ^ h) ≡ v
  kept_is =
      cancel (sticky n) (2 ^ h) (2 ^ 149) (pow_pos 149) (pow_pos h)
      ∙ closest_is (sticky n) (4 * 2 ^ h) v (mul-pos (zero-lt-suc 3) (pow_pos h))
      (omega (arith, mul_left_comm v 4 (2 ^ h), under, sticky_above n (l * 2 ^ h) after))
      (omega (arith, mul_left_comm v 4 (2 ^ h), over, sticky_below n (suc (2 * v) * 2 ^ h) before))

  grid_is : grid binary32 (sticky n) (2 ^ 151) ≡ v * 2 ^ h
  grid_is = ap (λ (k : ℕ). closest (sticky n * 2 ^ 149) (2 ^ 151 * 2 ^ k) * 2 ^ k) dropped ∙ ap (λ (x : ℕ). x * 2 ^ h) kept_is

  room : 24 + h ≤ 277
  room = omega arith

  pub rounded : HasValue (nearest_root binary32 n) false (v * 2 ^ h) (2 ^ 149)
  rounded =
      subst (λ (x : Float). HasValue x false (v * 2 ^ h) (2 ^ 149)) (sym (nearest_is n))
      (subst (λ (g : ℕ). HasValue (round binary32 false (sticky n) (2 ^ 151)) false g (2 ^ 149)) grid_is
      (round_val binary32 (sticky n) (2 ^ 151) (subst (λ (g : ℕ). g < 2 ^ 277) (sym grid_is) (lt_of_lt_of_le (shl_lt 24 h small) (pow_mono room)))))

-- ---- from m to n = m * 2 ^ (2 * h + 2)
quadruple : (m h : ℕ) → m * 2 ^ (2 * h + 2) ≡ 4 * m * (2 ^ h * 2 ^ h)
quadruple m h =
    ap (λ (x : ℕ). m * x) (pow-add 2 (2 * h) 2 ∙ ap (λ (x : ℕ). 2 ^ x * 4) (two-mul h) ∙ ap (λ (x : ℕ). x * 4) (pow-add 2 h h) ∙ mul_comm (2 ^ h * 2 ^ h) 4)
    ∙ sym (mul_assoc m 4 (2 ^ h * 2 ^ h)) ∙ ap (λ (x : ℕ). x * (2 ^ h * 2 ^ h)) (mul_comm m 4)

module _ (m h : ℕ) where
  square_lt : (t : ℕ) → t * t < 4 * m → t * 2 ^ h * (t * 2 ^ h) < m * 2 ^ (2 * h + 2)
  square_lt t h' =
      lt_of_le_of_lt (le_of_eq (mul-mul-mul_comm t (2 ^ h) t (2 ^ h)))
      (lt_of_lt_of_le (mul-lt-mul_of_pos_right h' (mul-pos (pow_pos h) (pow_pos h))) (le_of_eq (sym (quadruple m h))))

  square_le : (t : ℕ) → t * t ≤ 4 * m → t * 2 ^ h * (t * 2 ^ h) ≤ m * 2 ^ (2 * h + 2)
  square_le t h' = le_trans (le_of_eq (mul-mul-mul_comm t (2 ^ h) t (2 ^ h))) (le_trans (mul-le-mul_right (2 ^ h * 2 ^ h) h') (le_of_eq (sym (quadruple m h))))

  square_gt : (t : ℕ) → 4 * m < t * t → m * 2 ^ (2 * h + 2) < t * 2 ^ h * (t * 2 ^ h)
  square_gt t h' =
      lt_of_le_of_lt (le_of_eq (quadruple m h))
      (lt_of_lt_of_le (mul-lt-mul_of_pos_right h' (mul-pos (pow_pos h) (pow_pos h))) (le_of_eq (sym (mul-mul-mul_comm t (2 ^ h) t (2 ^ h)))))

-- so the root of n = m * 2 ^ (2 * h + 2) lies between (2 * v - 1) * 2 ^ h and (2 * v + 1) * 2 ^ h
pub root_after : (m h v l : ℕ) → suc l ≡ 2 * v → NearestWhole m v → l * 2 ^ h * (l * 2 ^ h) < m * 2 ^ (2 * h + 2)
root_after m h v l L near =
    let sl : l * l + 2 * l + 1 ≡ 4 * (v * v) = sym (square_suc l) ∙ ap (λ (x : ℕ). x * x) L ∙ square_twice v in
    let a : v * v < m + v = near.above_lower in
    square_lt m h l (omega arith)

pub root_before : (m h v : ℕ) → NearestWhole m v → m * 2 ^ (2 * h + 2) < suc (2 * v) * 2 ^ h * (suc (2 * v) * 2 ^ h)
root_before m h v near =
    let su : suc (2 * v) * suc (2 * v) ≡ 4 * (v * v) + 2 * (2 * v) + 1 = square_suc (2 * v) ∙ ap (λ (x : ℕ). x + 2 * (2 * v) + 1) (square_twice v) in
    let b : m ≤ v * v + v = near.below_upper in
    square_gt m h (suc (2 * v)) (omega arith)

pub root_least : (m h : ℕ) → 0x400000000000 ≤ m → 0x1000000 * 2 ^ h * (0x1000000 * 2 ^ h) ≤ m * 2 ^ (2 * h + 2)
root_least m h lo = square_le m h 0x1000000 (omega arith)

pub value : (m h v : ℕ) → h ≤ 200 → 0 < v → v < 0x1000000 → 0x400000000000 ≤ m → m < 0x1000000000000 → NearestWhole m v →
    HasValue (nearest_root binary32 (m * 2 ^ (2 * h + 2))) false (v * 2 ^ h) (2 ^ 149)
value m h v H pos small lo hi near =
    let L : suc (2 * v - 1) ≡ 2 * v = omega arith in
    rounded (m * 2 ^ (2 * h + 2)) h v (2 * v - 1) L H small (root_least m h lo) (square_gt m h 0x2000000 (omega arith))
    (root_after m h v (2 * v - 1) L near) (root_before m h v near)
