-- A value that binary32 holds is not changed by rounding; so the remainder of a smaller number is that number. Assumes nothing.
use mathlib.Core.Path.{◌≡◌, refl, sym, ap, ◌∙◌, subst}
use mathlib.Core.Bool.{Bool, true, false, ◌&&◌}
use Prim.Native.Nat.{ℕ, zero, suc, ◌+◌, ◌-◌, ◌*◌, ◌%◌, ◌^◌, ◌≤◌, ◌<◌}
use native.Mathlib.Nat.{le_trans, le_of_suc-le-suc, lt_of_lt_of_le, lt_of_not-le, lt_irrefl, mul-one, mul_assoc, mul_comm, mul_left_comm}
use native.Mathlib.Nat.{mul_right_comm, mul-pos, zero-mul, mul-lt-mul_of_pos_right, lt_of_mul-lt-mul_right, mod-eq_of_lt}
use native.Mathlib.Omega.{arith}
use lib.Dec.{T, leb, ltb, eqb, leb→le, ltb→lt}
use lib.IntN.{ℤ, pos, negsuc}
use lib.Pow.{pow-add, pow_pos, pow_mono, pow-lt}
use borrow.Author.Tests.{ltb-true}
use lib.Ieee.{Float, nan, inf, fin, binary32, up, down, fits, lt, round, of_bits, rem}
use lib.Ieee.Fits.{and_l, and_r, down_pos, round-fits}
use lib.Ieee.Exact.{round_exact}
use lib.Ieee.Scale.{round_same}
use lib.Ieee.Digits.{back}
use Rattle.arithmetic.specs.Constants.{tau, ◌%ᶠ◌}
use Rattle.arithmetic.specs.Order.{size}
use Rattle.arithmetic.proofs.Bounds.{never}
use Rattle.arithmetic.proofs.root.Patterns.{same_value}

-- ---- a value in units of 2 ^ -149: m * 2 ^ j
pub place : (m : ℕ) (e : ℤ) → down e ≤ 2 ^ 149 → (j : ℕ) × (m * up e * 2 ^ 149 ≡ m * 2 ^ j * down e)
place m (pos a) h = (a + 149, mul_assoc m (2 ^ a) (2 ^ 149) ∙ ap (λ (x : ℕ). m * x) (sym (pow-add 2 a 149)) ∙ sym (mul-one (m * 2 ^ (a + 149))))
place m (negsuc a) h =
    let l : suc a ≤ 149 =
    le_of_suc-le-suc (lt_of_not-le (λ (g : 150 ≤ suc a). lt_irrefl (2 ^ 149)
    (lt_of_lt_of_le (pow-lt {i = 149} {j = 150} (omega arith)) (le_trans (pow_mono g) h)))) in
    let q : 2 ^ 149 ≡ 2 ^ (149 - suc a) * 2 ^ suc a = ap (λ (x : ℕ). 2 ^ x) (sym (back 149 (suc a) l)) ∙ pow-add 2 (149 - suc a) (suc a) in
    (149 - suc a, ap (λ (x : ℕ). x * 2 ^ 149) (mul-one m) ∙ ap (λ (x : ℕ). m * x) q ∙ sym (mul_assoc m (2 ^ (149 - suc a)) (2 ^ suc a)))

below_top : (a p d u w : ℕ) → 0 < d → 0 < u → a * u ≡ p * d → a < w * d → p < u * w
below_top a p d u w D U e h =
    lt_of_mul-lt-mul_right d
    (subst (λ (x : ℕ). x < u * w * d) e (subst (λ (x : ℕ). a * u < x) (simp (mul_assoc, mul_comm, mul_left_comm)) (mul-lt-mul_of_pos_right h U)))

-- the four tests of `fits`
abbrev is_odd : ℕ → Bool
is_odd m = eqb (m % 2) 1

abbrev few : ℕ → Bool
few m = ltb m (2 ^ 24)

abbrev coarse : ℤ → Bool
coarse e = leb (down e) (2 ^ 149)

abbrev bounded : ℕ → ℤ → Bool
bounded m e = ltb (m * up e) (2 ^ 128 * down e)

module _ (s : Bool) (m : ℕ) (e : ℤ) (h : T (fits binary32 (fin s (suc m) e))) where
  parts : T (is_odd (suc m) && few (suc m) && coarse e && bounded (suc m) e)
  unfolding fits
  parts = h

  first_three : T (is_odd (suc m) && few (suc m) && coarse e)
  first_three = and_l (is_odd (suc m) && few (suc m) && coarse e) (bounded (suc m) e) parts

  pub few_digits : suc m < 2 ^ 24
  few_digits = ltb→lt (suc m) (2 ^ 24) (and_r (is_odd (suc m)) (few (suc m)) (and_l (is_odd (suc m) && few (suc m)) (coarse e) first_three))

  pub not_too_small : down e ≤ 2 ^ 149
  not_too_small = leb→le (down e) (2 ^ 149) (and_r (is_odd (suc m) && few (suc m)) (coarse e) first_three)

  pub not_too_large : suc m * up e < 2 ^ 128 * down e
  not_too_large = ltb→lt (suc m * up e) (2 ^ 128 * down e) (and_r (is_odd (suc m) && few (suc m) && coarse e) (bounded (suc m) e) parts)

-- the same value, by its units
by_units : (s : Bool) (m : ℕ) (e : ℤ) (j c : ℕ) → T (fits binary32 (fin s m e)) → 0 < c → m * up e * 2 ^ 149 ≡ m * 2 ^ j * down e → m < 2 ^ 24 →
    m * 2 ^ j < 2 ^ 277 → round binary32 s (m * up e * c) (down e * c) ≡ fin s m e
by_units s m e j c h C p small fine =
    round_same binary32 s (m * up e * c) (down e * c) (m * 2 ^ j) (2 ^ 149) (mul-pos (down_pos e) C) (pow_pos 149)
    (mul_right_comm (m * up e) c (2 ^ 149) ∙ ap (λ (x : ℕ). x * c) p ∙ mul_assoc (m * 2 ^ j) (down e) c)
    ∙ same_value binary32 s (round binary32 s (m * 2 ^ j) (2 ^ 149)) (fin s m e) (m * 2 ^ j) (round-fits binary32 s (m * 2 ^ j) (2 ^ 149)) h
    (round_exact binary32 s (m * 2 ^ j) (2 ^ 149) m j (pow_pos 149) small fine refl) (refl, p)

-- a value that fits is its own rounding, over any denominator
pub round_own : (s : Bool) (m : ℕ) (e : ℤ) (c : ℕ) → T (fits binary32 (fin s m e)) → 0 < c → round binary32 s (m * up e * c) (down e * c) ≡ fin s m e
round_own s zero e c h C =
    by_units s 0 e 0 c h C (ap (λ (x : ℕ). x * 2 ^ 149) (zero-mul (up e)) ∙ zero-mul (2 ^ 149) ∙ sym (zero-mul (down e))) (pow_pos 24) (pow_pos 277)
round_own s (suc m) e c h C =
    let p = place (suc m) e (not_too_small s m e h) in
    by_units s (suc m) e p.0 c h C p.1 (few_digits s m e h)
    (subst (λ (x : ℕ). suc m * 2 ^ p.0 < x) (sym (pow-add 2 149 128))
    (below_top (suc m * up e) (suc m * 2 ^ p.0) (down e) (2 ^ 149) (2 ^ 128) (down_pos e) (pow_pos 149) p.1 (not_too_large s m e h)))

pub tau_is : tau ≡ fin false 13176795 (negsuc 20)
unfolding of_bits
tau_is = refl

rem_below : (s : Bool) (m n : ℕ) (e d : ℤ) → T (fits binary32 (fin s m e)) → eqb n 0 ≡ false → m * up e * down d < n * up d * down e →
    fin s m e ≡ rem binary32 (fin s m e) (fin false n d)
unfolding rem
rem_below s m n e d h z l = sym (rw (z, mod-eq_of_lt l) (round_own s m e (down d) h (down_pos d)))

-- below TAU in size, the remainder by TAU is the number itself
pub rem_short : (r : Float) → T (fits binary32 r) → lt (size r) tau ≡ true → r ≡ r %ᶠ tau
unfolding size lt
rem_short nan h l = never l
rem_short (inf s) h l = never (rw tau_is at l)
rem_short (fin s m e) h l = rw tau_is (rem_below s m 13176795 e (negsuc 20) h refl (ltb-true _ _ (rw tau_is at l)))
