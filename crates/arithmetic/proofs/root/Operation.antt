-- The language's own square root gives `root_of`. It takes the root to 2271 binary places, `root_of` to 150; no value of binary32 and no
-- point half way between two lies between neighbours of the 150 places, so both round alike. Assumes nothing.
use mathlib.Core.Path.{◌≡◌, refl, sym, ap, ◌∙◌}
use mathlib.Core.Bool.{Bool, true, false, cond, true≢false}
use Prim.Native.Nat.{ℕ, zero, suc, ◌+◌, ◌-◌, ◌*◌, ◌/◌, ◌^◌, ◌≤◌, ◌<◌}
use native.Mathlib.Nat.{le_refl, le_antisymm, le_of_suc-le-suc, le_trans, le_of_eq, lt_of_lt_of_le, lt_of_le_of_lt, mul_assoc}
use native.Mathlib.Nat.{mul-mul-mul_comm, mul-pos, mul-le-mul_right, mul-lt-mul_of_pos_right, eq_of_mul-eq-mul_right}
use native.Mathlib.Nat.{le-div_iff_mul-le, div-lt_iff_lt-mul}
use native.Mathlib.Omega.{arith}
use lib.Dec.{T, eqb, eqb→eq}
use lib.Pow.{pow_pos}
use lib.Arith.{lt_of_le-ne}
use borrow.Author.Tests.{eqb-true, eqb-false, eq-eqb}
use Rattle.std.proofs.Common.{add-one, add-zero}
use lib.Ieee.{Float, nan, inf, fin, binary32, up, down, size, round, units, sqrt, root_below, root_twice}
use lib.Ieee.Fits.{down_pos}
use lib.Ieee.Exact.{HasValue}
use lib.Ieee.Root.{Root, whole_part}
use lib.Ieee.Nearest.{closest}
use lib.Ieee.Scale.{round_same}
use Rattle.arithmetic.specs.Root.{floor_root, nearest_root}
use Rattle.arithmetic.proofs.root.Squares.{Floor, floor_is, root_lt, root_le}
use Rattle.arithmetic.proofs.root.Rounded.{closest_is}
use Rattle.arithmetic.proofs.root.Whole.{quotient, nothing}

-- ---- a fraction strictly between r and r + 1 of 2 ^ -150 rounds by r alone

-- what is dropped of half r, and what is left, to the nearest
abbrev drop : ℕ → ℕ
drop r = size (r / 2) - 24

abbrev left : ℕ → ℕ
left r = (r + 2 ^ drop r) / (2 * 2 ^ drop r)

-- v is the whole number nearest to each fraction n / (b * p) with n / b strictly between half of r and half of r + 1
nearest_above : (r v b p n : ℕ) → v * (2 * p) ≤ r + p → r * b < 2 * n → v * (b * p) + v * (b * p) < n + n + b * p
nearest_above r v b p n h l = omega (arith, mul-le-mul_right b h)

nearest_below : (r v b p n : ℕ) → r + p < suc v * (2 * p) → 2 * n < suc r * b → n + n < v * (b * p) + v * (b * p) + b * p
nearest_below r v b p n h l = omega (arith, mul-le-mul_right b h)

module _ (r a b u : ℕ) (B : 0 < b) (lo : r * b < 2 * (a * u)) (hi : 2 * (a * u) < suc r * b) where
  whole : a * u / b ≡ r / 2
  whole =
      let l : suc r ≤ 2 * suc (r / 2) = omega arith in
      let k : 2 * (r / 2) ≤ r = omega arith in
      le_antisymm (le_of_suc-le-suc ((div-lt_iff_lt-mul B).1 (omega (arith, mul-le-mul_right b l)))) ((le-div_iff_mul-le B).1 (omega (arith, mul-le-mul_right b k)))

  kept : (k : ℕ) → closest (a * u) (b * 2 ^ k) ≡ (r + 2 ^ k) / (2 * 2 ^ k)
  kept k =
      let p = 2 ^ k in
      let P = mul-pos {m = 2} (omega arith) (pow_pos k) in
      let v = (r + p) / (2 * p) in
      closest_is (a * u) (b * p) v (mul-pos B (pow_pos k)) (nearest_above r v b p (a * u) ((le-div_iff_mul-le P).0 (le_refl v)) lo)
      (nearest_below r v b p (a * u) ((div-lt_iff_lt-mul P).0 (le_refl (suc v))) hi)

between : (r a b : ℕ) → 0 < b → r * b < 2 * (a * 2 ^ 149) → 2 * (a * 2 ^ 149) < suc r * b → round binary32 false a b ≡ units binary32 false (left r) (drop r)
unfolding round
between r a b B lo hi =
    ap (λ (n : ℕ). units binary32 false (closest (a * 2 ^ 149) (b * 2 ^ (size n - 24))) (size n - 24)) (whole r a b (2 ^ 149) B lo hi)
    ∙ ap (λ (v : ℕ). units binary32 false v (drop r)) (kept r a b (2 ^ 149) B lo hi (drop r))

-- ---- the whole parts of a root at 2 ^ -150 and at a finer step

-- twice the root where it is whole, and else the odd number between twice its neighbours
abbrev doubled : ℕ → ℕ → ℕ
doubled r n = 2 * r + cond (eqb (r * r) n) 0 1

scaled : (r p : ℕ) → r * p * (r * p) ≡ r * r * (p * p)
scaled r p = mul-mul-mul_comm r p r p

-- `omega` reads no number of more than 38 digits, so 2 ^ 149 is a variable u here
cross : (r p u : ℕ) → 2 * (r * p) * u ≡ (2 * r + 0) * (u * p)
cross r p u = omega arith

up_from : (r p a u : ℕ) → 0 < u → 2 * (r * p) < a → r * (4 * u * p) < 2 * (a * u)
up_from r p a u U h = omega (arith, mul-lt-mul_of_pos_right h U)

down_from : (r p a u : ℕ) → 0 < u → a < 2 * (r * p) → 2 * (a * u) < r * (4 * u * p)
down_from r p a u U h = omega (arith, mul-lt-mul_of_pos_right h U)

module _ (n p r s : ℕ) (P : 0 < p) (f : Floor n r) (g : Root s (n * (p * p))) where
  at_least : r * p ≤ s
  at_least =
      le_of_suc-le-suc (root_lt (r * p) (suc s)
      (lt_of_le_of_lt (le_of_eq (scaled r p)) (lt_of_le_of_lt (mul-le-mul_right (p * p) f.0) (lt_of_lt_of_le g.1 (le_of_eq (ap (λ (x : ℕ). x * x) (add-one s)))))))

  below : s < suc r * p
  below =
      root_lt s (suc r * p)
      (lt_of_le_of_lt g.0 (lt_of_lt_of_le (mul-lt-mul_of_pos_right f.1 (mul-pos P P)) (le_of_eq (sym (scaled (suc r) p)))))

  exact : r * r ≡ n → s ≡ r * p
  exact e = le_antisymm (root_le s (r * p) (le_trans g.0 (le_of_eq (ap (λ (x : ℕ). x * (p * p)) (sym e) ∙ sym (scaled r p))))) at_least

  apart : (r * r ≡ n → ⊥) → s * s ≡ n * (p * p) → r * p < s
  apart h e =
      lt_of_le-ne at_least
      (λ (q : r * p ≡ s). h (eq_of_mul-eq-mul_right (p * p) (mul-pos P P) (r * r) n (sym (scaled r p) ∙ ap (λ (x : ℕ). x * x) q ∙ e)))

  more : (r * r ≡ n → ⊥) → 2 * (r * p) < doubled s (n * (p * p))
  more h = go (eqb (s * s) (n * (p * p))) (eqb→eq (s * s) (n * (p * p)))
    where
      go : (b : Bool) → (T b → s * s ≡ n * (p * p)) → 2 * (r * p) < 2 * s + cond b 0 1
      go true e = omega (arith, apart h (e tt))
      go false e = omega (arith, at_least)

  less : doubled s (n * (p * p)) < 2 * (suc r * p)
  less = go (eqb (s * s) (n * (p * p)))
    where
      go : (b : Bool) → 2 * s + cond b 0 1 < 2 * (suc r * p)
      go true = omega (arith, below)
      go false = omega (arith, below)

  twice : r * r ≡ n → doubled s (n * (p * p)) ≡ 2 * (r * p)
  twice e =
      let square : s * s ≡ n * (p * p) = ap (λ (x : ℕ). x * x) (exact e) ∙ scaled r p ∙ ap (λ (x : ℕ). x * (p * p)) e in
      ap (λ (b : Bool). 2 * s + cond b 0 1) (eq-eqb (s * s) (n * (p * p)) square) ∙ ap (λ (x : ℕ). 2 * x + 0) (exact e) ∙ add-zero (2 * (r * p))

  finer : round binary32 false (doubled s (n * (p * p))) (2 ^ 151 * p) ≡ round binary32 false (doubled r n) (2 ^ 151)
  finer = go (eqb (r * r) n) (eqb-true (r * r) n) (eqb-false (r * r) n)
    where
      go :
          (b : Bool) → (b ≡ true → r * r ≡ n) → (b ≡ false → r * r ≡ n → ⊥) →
          round binary32 false (doubled s (n * (p * p))) (2 ^ 151 * p) ≡ round binary32 false (2 * r + cond b 0 1) (2 ^ 151)
      go true e h = ap (λ (x : ℕ). round binary32 false x (2 ^ 151 * p)) (twice (e refl)) ∙ round_same binary32 false (2 * (r * p)) (2 ^ 151 * p) (2 * r + 0) (2 ^ 151) (mul-pos (pow_pos 151) P) (pow_pos 151) (cross r p (2 ^ 151))
      go false e h =
          between r (doubled s (n * (p * p))) (2 ^ 151 * p) (mul-pos (pow_pos 151) P) (up_from r p (doubled s (n * (p * p))) (2 ^ 149) (pow_pos 149) (more (h refl)))
          (down_from (suc r) p (doubled s (n * (p * p))) (2 ^ 149) (pow_pos 149) less)
          ∙ sym (between r (2 * r + 1) (2 ^ 151) (pow_pos 151) (up_from r 1 (2 * r + 1) (2 ^ 149) (pow_pos 149) (omega arith))
          (down_from (suc r) 1 (2 * r + 1) (2 ^ 149) (pow_pos 149) (omega arith)))

-- ---- the operation, of a value above zero by its size in units of the smallest value
pub operation_of_value : (x : Float) (n : ℕ) → HasValue x false n (2 ^ 149) → 0 < n → sqrt binary32 x ≡ nearest_root binary32 (n * 2 ^ 151)
unfolding sqrt root_twice nearest_root
operation_of_value nan n h N = absurd h
operation_of_value (inf s) n h N = absurd h
operation_of_value (fin s zero e) n h N = absurd (nothing (up e) n (down e) (2 ^ 149) h.1 N (down_pos e))
operation_of_value (fin true (suc m) e) n h N = absurd (true≢false h.0)
operation_of_value (fin false (suc m) e) n h N =
    let k = n * 2 ^ 151 in
    ap (λ (x : ℕ). round binary32 false (root_twice x) (2 ^ 2272))
    (quotient (suc m * up e) n (down e) (2 ^ 149) (2 ^ 4393) (down_pos e) h.1 ∙ sym (mul_assoc n (2 ^ 151) (2 ^ 4242)))
    ∙ finer k (2 ^ 2121) (floor_root k) (root_below (size (k * 2 ^ 4242)) (k * 2 ^ 4242)) (pow_pos 2121) (floor_is k) (whole_part (k * 2 ^ 4242))
