-- The arctangent of a number above 0 is finite and above 0: each operation of it is bounded by a fraction. Assumes nothing.
use mathlib.Core.Path.{◌≡◌, refl, sym, ap, ◌∙◌, subst}
use mathlib.Core.Bool.{Bool, true, false, cond}
use Prim.Native.Nat.{ℕ, zero, suc, ◌*◌, ◌^◌, ◌≤◌, ◌<◌}
use native.Mathlib.Nat.{le_trans, le_of_eq, lt_irrefl, one-mul, mul-le-mul_right, mul-pos, pow-suc}
use native.Mathlib.Omega.{arith}
use lib.Dec.{T, ltb, eqb, eqb→eq, eqb-suc-zero}
use lib.IntN.{ℤ, pos, negsuc}
use lib.Pow.{pow_pos}
use lib.Ieee.{Float, nan, inf, fin, binary32, up, down, odd, units, round, add, sub, mul, div, neg, lt, le, eq, is_nan, fits, of_bits}
use lib.Ieee.Fits.{round_is, up_pos, down_pos}
use lib.Ieee.Exact.{HasValue}
use borrow.Author.Tests.{ltb-true, ltb-false}
use Rattle.std.proofs.lemmas.Bool.{or_parts}
use Rattle.std.proofs.lemmas.Float.{T_from_true}
use Rattle.arithmetic.specs.Constants.{◌+ᶠ◌, ◌-ᶠ◌, ◌·ᶠ◌, ◌/ᶠ◌, n0, n1, frac_pi2, frac_pi4}
use Rattle.arithmetic.specs.Order.{finite, size, negative}
use Rattle.arithmetic.specs.Trigonometry.{series, part, arctangent_of_size, arctangent}
use Rattle.arithmetic.specs.Trigonometry.{series_end, third, fifth, seventh, ninth, eleventh, thirteenth, fifteenth}
use Rattle.arithmetic.proofs.Bounds.{never, never', plain, le_of_not_lt, finite_number}
use Rattle.arithmetic.proofs.Bounds.{le_of_lt, lt_right, equal_not_above}
use Rattle.arithmetic.proofs.Sums.{le_not_lt, sum_rounds}
use Rattle.arithmetic.proofs.Rounding.{not_too_small}
use Rattle.arithmetic.proofs.Signs.{size_number, size_unsigned}
use Rattle.arithmetic.proofs.Within.{Within, AtLeast, within_finite, weaker, fewer, is_above, not_zero, none, held, le_within, le_least}
use Rattle.arithmetic.proofs.Within.{rounds_within, mul_within, add_within, sub_within, add_least, sub_least, both_least, mul_least, div_within}

-- ---- the constants, in eighths and sixteenths
coefficients :
    Within 3 8 third × Within 3 8 fifth × Within 3 8 seventh × Within 3 8 ninth × Within 3 8 eleventh × Within 3 8 thirteenth × Within 1 2 fifteenth
unfolding of_bits div
coefficients = (omega arith, omega arith, omega arith, omega arith, omega arith, omega arith, omega arith)

one : Within 8 8 n1 × AtLeast 8 8 n1
unfolding of_bits
one = (omega arith, omega arith)

quarter : Within 13 16 frac_pi4 × AtLeast 12 16 frac_pi4
unfolding of_bits
quarter = (omega arith, omega arith)

half : Within 26 16 frac_pi2 × AtLeast 25 16 frac_pi2
unfolding of_bits
half = (omega arith, omega arith)

one_is : n1 ≡ fin false 1 (pos 0)
unfolding of_bits
one_is = refl

-- ---- the series, of a w up to 1/2 in size: z is at most 1/4, each coefficient 3/8, each bracket 1/2, and the last from 7/8 to 9/8
term : (c z t : Float) → Within 3 8 c → Within 1 4 z → Within 1 2 t → Within 1 2 (c -ᶠ z ·ᶠ t)
term c z t p q h =
    weaker 4 8 1 2 (c -ᶠ z ·ᶠ t) (omega arith) (omega arith)
    (sub_within 3 1 8 c (z ·ᶠ t) (omega arith) (held 4 3 (omega arith) (omega arith)) p
    (mul_within 1 4 1 2 z t (omega arith) (held 1 3 (omega arith) (omega arith)) q h))

-- z·(1/3 - z·(1/5 - ..)))
abbrev lessened : Float → Float
lessened z = z ·ᶠ (third -ᶠ z ·ᶠ (fifth -ᶠ z ·ᶠ (seventh -ᶠ z ·ᶠ (ninth -ᶠ z ·ᶠ (eleventh -ᶠ z ·ᶠ (thirteenth -ᶠ z ·ᶠ fifteenth))))))

module _ (w : Float) (h : Within 1 2 w) where
  lessened_within : Within 1 8 (lessened (w ·ᶠ w))
  lessened_within =
      let z = w ·ᶠ w in
      let k = coefficients in
      let q : Within 1 4 (w ·ᶠ w) = mul_within 1 2 1 2 w w (omega arith) (held 1 2 (omega arith) (omega arith)) h h in
      mul_within 1 4 1 2 z _ (omega arith) (held 1 3 (omega arith) (omega arith)) q
      (term third z _ k.0 q
      (term fifth z _ k.1 q
      (term seventh z _ k.2 q
      (term ninth z _ k.3 q
      (term eleventh z _ k.4 q
      (term thirteenth z fifteenth k.5 q k.6))))))

  factor_within : Within 9 8 (n1 -ᶠ lessened (w ·ᶠ w))
  factor_within = sub_within 8 1 8 n1 _ (omega arith) (held 9 3 (omega arith) (omega arith)) one.0 lessened_within

  factor_least : AtLeast 7 8 (n1 -ᶠ lessened (w ·ᶠ w))
  factor_least = sub_least 7 1 8 n1 _ (omega arith) (omega arith) (held 7 3 (omega arith) (omega arith)) one.1 lessened_within

  series_within : Within 9 16 (series w)
  unfolding series
  series_within = mul_within 1 2 9 8 w _ (omega arith) (held 9 4 (omega arith) (omega arith)) h factor_within

-- the smallest f32 times 7/8 is rounded to itself
smallest : HasValue (round binary32 false 7 (2 ^ 152)) false 1 (2 ^ 149)
unfolding round
smallest = (refl, refl)

-- a number above 0 is at least the smallest
not_below_smallest : (m : ℕ) (e : ℤ) → T (fits binary32 (fin false (suc m) e)) → 1 * down e ≤ suc m * up e * 2 ^ 149
not_below_smallest m e h =
    le_trans (le_of_eq (one-mul (down e)))
    (le_trans (not_too_small false m e h)
    (le_trans (le_of_eq (sym (one-mul (2 ^ 149)))) (mul-le-mul_right (2 ^ 149) (mul-pos {m = suc m} (omega arith) (up_pos e)))))

series_above : (m : ℕ) (e : ℤ) → T (fits binary32 (fin false (suc m) e)) → Within 1 2 (fin false (suc m) e) → lt n0 (series (fin false (suc m) e)) ≡ true
unfolding series
series_above m e f h =
    is_above 1 (2 ^ 149) _ (omega arith)
    (mul_least 1 (2 ^ 149) 7 8 1 (2 ^ 149) (fin false (suc m) e) _ (pow_pos 152) (omega arith) (omega arith) (omega arith) smallest
    (not_below_smallest m e f) (factor_least (fin false (suc m) e) h))

-- ---- part of a u up to 1 with no sign: past 3/8, (u - 1)/(u + 1) is at most 5/8 over 11/8 in size; part is at most 22/16
-- 0x2000000 is 2 ^ 25
end_value : HasValue series_end false 13898701 0x2000000
unfolding of_bits
end_value = (refl, refl)

end_number_lem : is_nan series_end ≡ false
unfolding of_bits is_nan
end_number_lem = refl

module _ (m : ℕ) (e : ℤ) where
  abbrev u : Float
  u = fin false m e

  up_to_end : le u series_end ≡ true → Within 1 2 u
  up_to_end h = weaker 13898701 0x2000000 1 2 u (omega arith) (omega arith) (le_within series_end 13898701 0x2000000 (plain m e) end_value (T_from_true _ h))

  past_end : le u series_end ≡ false → AtLeast 3 8 u
  unfolding le is_nan
  past_end h =
      fewer 13898701 0x2000000 3 8 u (omega arith) (omega arith)
      (le_least series_end 13898701 0x2000000 (plain m e) (omega arith) end_value
      (T_from_true (le series_end u) (le_of_not_lt u series_end refl end_number_lem (or_parts (lt u series_end) (eq u series_end) h).0)))

  module _ (h : Within 1 1 (fin false m e)) where
    less_one : AtLeast 3 8 u → Within 5 8 (u -ᶠ n1)
    unfolding sub neg add
    less_one l =
        rw one_is
        (rounds_within _ _ _ (down e * 1) 5 8 (mul-pos (down_pos e) (omega arith)) (omega arith) (held 5 3 (omega arith) (omega arith))
        (omega (arith, h)) (omega (arith, l))
        (sum_rounds binary32 false (m * up e * 1) true (1 * down e) (down e * 1)))

    plus_one : AtLeast 3 8 u → AtLeast 11 8 (u +ᶠ n1)
    plus_one l = both_least 3 8 8 u n1 (omega arith) (omega arith) (held 11 3 (omega arith) (omega arith)) l one.1

    turned : AtLeast 3 8 u → Within 9 16 (series ((u -ᶠ n1) /ᶠ (u +ᶠ n1)))
    turned l =
        series_within _
        (div_within 5 11 8 1 2 (u -ᶠ n1) (u +ᶠ n1) (omega arith) (omega arith) (omega arith) (held 1 1 (omega arith) (omega arith)) (omega arith) (less_one l)
        (plus_one l))

    part_within : Within 22 16 (part u)
    unfolding part
    part_within = go (le u series_end) refl
      where
        go : (b : Bool) → le u series_end ≡ b → Within 22 16 (cond b (series u) (frac_pi4 +ᶠ series ((u -ᶠ n1) /ᶠ (u +ᶠ n1))))
        go true l = weaker 9 16 22 16 (series u) (omega arith) (omega arith) (series_within u (up_to_end l))
        go false l = add_within 13 9 16 frac_pi4 _ (omega arith) (held 22 4 (omega arith) (omega arith)) quarter.0 (turned (past_end l))

part_above : (m : ℕ) (e : ℤ) → T (fits binary32 (fin false (suc m) e)) → Within 1 1 (fin false (suc m) e) → lt n0 (part (fin false (suc m) e)) ≡ true
unfolding part
part_above m e f h = go (le v series_end) refl
  where
    v : Float
    v = fin false (suc m) e

    go : (b : Bool) → le v series_end ≡ b → lt n0 (cond b (series v) (frac_pi4 +ᶠ series ((v -ᶠ n1) /ᶠ (v +ᶠ n1)))) ≡ true
    go true l = series_above m e f (up_to_end (suc m) e l)
    go false l =
        is_above 3 16 _ (omega arith)
        (add_least 3 9 16 frac_pi4 _ (omega arith) (omega arith) (held 3 4 (omega arith) (omega arith)) quarter.1 (turned (suc m) e h (past_end (suc m) e l)))

number_within : (x : Float) → negative x ≡ false → Within 1 1 x → Within 22 16 (part x)
unfolding negative
number_within nan p h = absurd h
number_within (inf s) p h = absurd h
number_within (fin true m e) p h = never' p
number_within (fin false m e) p h = part_within m e h

-- a rounded number has the sign that rounding was given
odd_unsigned : (d q k l : ℕ) → negative (odd d false q k l) ≡ false
unfolding odd negative
odd_unsigned d zero k l = refl
odd_unsigned d (suc q) k l = refl

units_unsigned : (q k : ℕ) → negative (units binary32 false q k) ≡ false
unfolding units negative
units_unsigned q k = go (ltb (q * 2 ^ k) (2 ^ 277))
  where
    go : (b : Bool) → negative (cond b (odd 25 false q k 149) (inf false)) ≡ false
    go true = odd_unsigned 25 q k 149
    go false = refl

round_unsigned : (a c : ℕ) → negative (round binary32 false a c) ≡ false
round_unsigned a c = ap negative (round_is binary32 false a c) ∙ units_unsigned _ _

-- ---- the arctangent of a size
-- 1 / u for a finite u above 1
over_one : (n : ℕ) (d : ℤ) → lt n1 (fin false n d) ≡ true → AtLeast 1 1 (fin false n d)
unfolding lt
over_one n d h =
    let l : 1 * up (pos 0) * down d < n * up d * down (pos 0) = ltb-true (1 * up (pos 0) * down d) (n * up d * down (pos 0)) (rw one_is at h) in
    omega (arith, l)

quotient_unsigned : (n : ℕ) (d : ℤ) → AtLeast 1 1 (fin false n d) → negative (fin false 1 (pos 0) /ᶠ fin false n d) ≡ false
unfolding div
quotient_unsigned zero d h = none 1 1 d (omega arith) h
quotient_unsigned (suc n) d h = rw (eqb-suc-zero n) (round_unsigned (1 * up (pos 0) * down d) (suc n * up d * down (pos 0)))

inverse : (n : ℕ) (d : ℤ) → lt n1 (fin false n d) ≡ true → Within 22 16 (part (n1 /ᶠ fin false n d))
inverse n d h =
    let y = over_one n d h in
    number_within (n1 /ᶠ fin false n d) (subst (λ (x : Float). negative (x /ᶠ fin false n d) ≡ false) (sym one_is) (quotient_unsigned n d y))
    (div_within 1 1 1 1 1 n1 (fin false n d) (omega arith) (omega arith) (omega arith) (held 1 0 (omega arith) (omega arith)) (omega arith)
    (weaker 8 8 1 1 n1 (omega arith) (omega arith) one.0) y)

not_over : (m : ℕ) (e : ℤ) → lt n1 (fin false m e) ≡ false → Within 1 1 (fin false m e)
unfolding lt
not_over m e h =
    let l : m * up e * down (pos 0) ≤ 1 * up (pos 0) * down e = ltb-false (1 * up (pos 0) * down e) (m * up e * down (pos 0)) (rw one_is at h) in
    omega (arith, l)

at_infinity : (finite (arctangent_of_size (inf false)) ≡ true) × (lt n0 (arctangent_of_size (inf false)) ≡ true)
unfolding arctangent_of_size part series finite lt le of_bits add sub mul div
at_infinity = (refl, refl)

at_finite : (m : ℕ) (e : ℤ) → finite (arctangent_of_size (fin false m e)) ≡ true
unfolding arctangent_of_size
at_finite m e = go (lt n1 (fin false m e)) refl
  where
    go : (b : Bool) → lt n1 (fin false m e) ≡ b → finite (cond b (frac_pi2 -ᶠ part (n1 /ᶠ fin false m e)) (part (fin false m e))) ≡ true
    go true h =
        within_finite 48 16 _ (sub_within 26 22 16 frac_pi2 _ (omega arith) (held 48 4 (omega arith) (omega arith)) half.0 (inverse m e h))
    go false h = within_finite 22 16 _ (part_within m e (not_over m e h))

size_finite : (u : Float) → is_nan u ≡ false → negative u ≡ false → finite (arctangent_of_size u) ≡ true
unfolding negative is_nan
size_finite nan n p = never' n
size_finite (inf true) n p = never' p
size_finite (inf false) n p = at_infinity.0
size_finite (fin true m e) n p = never' p
size_finite (fin false m e) n p = at_finite m e

pub arctangent_number : (u : Float) → is_nan u ≡ false → negative u ≡ false → is_nan (arctangent_of_size u) ≡ false
arctangent_number u n p = finite_number (arctangent_of_size u) (size_finite u n p)

size_above : (m : ℕ) (e : ℤ) → T (fits binary32 (fin false (suc m) e)) → lt n0 (arctangent_of_size (fin false (suc m) e)) ≡ true
unfolding arctangent_of_size
size_above m e f = go (lt n1 u) refl
  where
    u : Float
    u = fin false (suc m) e

    go : (b : Bool) → lt n1 u ≡ b → lt n0 (cond b (frac_pi2 -ᶠ part (n1 /ᶠ u)) (part u)) ≡ true
    go true h =
        is_above 3 16 _ (omega arith)
        (sub_least 3 22 16 frac_pi2 _ (omega arith) (omega arith) (held 3 4 (omega arith) (omega arith)) half.1 (inverse (suc m) e h))
    go false h = part_above m e f (not_over (suc m) e h)

-- ---- the arctangent of a size has no sign

above_unsigned : (x : Float) → lt n0 x ≡ true → negative x ≡ false
unfolding lt negative of_bits
above_unsigned nan p = never p
above_unsigned (inf true) p = never p
above_unsigned (inf false) p = refl
above_unsigned (fin true m e) p = never p
above_unsigned (fin false m e) p = refl

-- a zero has one exponent
pub zero_exponent : (e : ℤ) → T (eqb (up e * down e) 1) → e ≡ pos 0
zero_exponent (pos zero) h = refl
zero_exponent (pos (suc k)) h = let q = eqb→eq (2 ^ suc k * 1) 1 h in absurd (lt_irrefl 1 (omega (arith, q, pow-suc 2 k, pow_pos k)))
zero_exponent (negsuc k) h = let q = eqb→eq (1 * 2 ^ suc k) 1 h in absurd (lt_irrefl 1 (omega (arith, q, pow-suc 2 k, pow_pos k)))

zero_unsigned : negative (arctangent_of_size (fin false 0 (pos 0))) ≡ false
unfolding arctangent_of_size part series negative lt le of_bits add sub mul div neg
zero_unsigned = refl

at_zero : (e : ℤ) → e ≡ pos 0 → negative (arctangent_of_size (fin false 0 e)) ≡ false
at_zero e z = subst (λ (x : ℤ). negative (arctangent_of_size (fin false 0 x)) ≡ false) (sym z) zero_unsigned

pub arctangent_unsigned : (u : Float) → T (fits binary32 u) → is_nan u ≡ false → negative u ≡ false → negative (arctangent_of_size u) ≡ false
unfolding is_nan negative fits
arctangent_unsigned nan f n p = never' n
arctangent_unsigned (inf true) f n p = never' p
arctangent_unsigned (inf false) f n p = above_unsigned _ at_infinity.1
arctangent_unsigned (fin true m e) f n p = never' p
arctangent_unsigned (fin false zero e) f n p = at_zero e (zero_exponent e f)
arctangent_unsigned (fin false (suc m) e) f n p = above_unsigned _ (size_above m e f)

-- ---- the arctangent of a number above 0
not_equal : (v : Float) → lt n0 v ≡ true → (b : Bool) → eq v n0 ≡ b → b ≡ false
not_equal v p true e = never' (sym p ∙ equal_not_above v n0 e)
not_equal v p false e = refl

is_of_size : (v : Float) → lt n0 v ≡ true → arctangent v ≡ arctangent_of_size (size v)
unfolding arctangent
is_of_size v p = rw (lt_right n0 v p, not_equal v p (eq v n0) refl, le_not_lt n0 v (le_of_lt n0 v p))

of_size : (v : Float) → T (fits binary32 v) → lt n0 v ≡ true → lt n0 (arctangent_of_size (size v)) ≡ true
unfolding lt of_bits size
of_size nan f p = never p
of_size (inf true) f p = never p
of_size (inf false) f p = at_infinity.1
of_size (fin true m e) f p = never p
of_size (fin false zero e) f p = absurd (not_zero (up e) (down e) (ltb-true (0 * down e) (0 * up e * 1) p))
of_size (fin false (suc m) e) f p = size_above m e f

-- it is above 0
pub arctangent_above : (v : Float) → T (fits binary32 v) → lt n0 v ≡ true → lt n0 (arctangent v) ≡ true
arctangent_above v f p = rw (is_of_size v p) (of_size v f p)

-- and finite
pub arctangent_finite : (v : Float) → lt n0 v ≡ true → finite (arctangent v) ≡ true
arctangent_finite v p = rw (is_of_size v p) (size_finite (size v) (size_number v (lt_right n0 v p)) (size_unsigned v))
