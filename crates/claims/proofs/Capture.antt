-- Where the capture angle is NaN: only where the distance off the line over the L1 distance is, since the arcsine of every number from
-- -1 to 1 is a number. Assumes nothing.
use mathlib.Core.Path.{◌≡◌, refl, sym, subst}
use mathlib.Core.Bool.{Bool, true, false, cond}
use Prim.Native.Nat.{ℕ, zero, suc, ◌-◌, ◌*◌}
use native.Mathlib.Omega.{arith}
use borrow.Author.Tests.{le-ltb}
use lib.Dec.{T, eqb-suc-zero}
use lib.IntN.{ℤ, pos}
use lib.Ieee as Ieee
use lib.Ieee.{Float, nan, inf, fin, binary32, up, down, fits, round, sum, is_nan, neg, lt, le, eq, of_bits, add, sub, mul, div}
use lib.Ieee.Fits.{cond-fits, div-fits}
use Rattle.arithmetic.specs.Constants.{◌-ᶠ◌, ◌·ᶠ◌, ◌/ᶠ◌, n0, n1}
use Rattle.arithmetic.specs.Order.{clamp, finite, size}
use Rattle.arithmetic.specs.Root.{root_of, nearest_root}
use Rattle.arithmetic.specs.Trigonometry.{arctangent, arctangent_of_size, arcsine}
use Rattle.arithmetic.proofs.Bounds.{never, never', nan_is, AtLeastZero, an_inf, plain, minus_zero_lem, at_least, from_0, zero_is}
use Rattle.arithmetic.proofs.Bounds.{finite_number, right_number, le_of_not_lt, clamped_low, clamped_high}
use Rattle.arithmetic.proofs.Sums.{cross_of, le_trans, sub_mono, round_plain}
use Rattle.arithmetic.proofs.Signs.{size_number, size_unsigned, signed_number}
use Rattle.arithmetic.proofs.Arctangent.{zero_exponent, arctangent_number}
use Rattle.arithmetic.proofs.Within.{Within, held, within_finite, mul_within}
use Rattle.laws.specs.Navigation.{max_capture, capture}
use Rattle.claims.specs.StraightBack.{NoCapture}
use Rattle.claims.proofs.Spans.{round_number}

one_is : n1 ≡ fin false 1 (pos 0)
unfolding of_bits
one_is = refl

less_one_is : neg n1 ≡ fin true 1 (pos 0)
unfolding neg of_bits
less_one_is = refl

-- ---- from -1 to 1

within_one : (r : Float) → le (fin true 1 (pos 0)) r ≡ true → le r (fin false 1 (pos 0)) ≡ true → Within 1 1 r
unfolding le
within_one nan l h = never l
within_one (inf true) l h = never l
within_one (inf false) l h = never h
within_one (fin false m e) l h = let g = cross_of false false (m * up e * down (pos 0)) (1 * up (pos 0) * down e) h in omega (arith, g)
within_one (fin true m e) l h = let g = cross_of true true (1 * up (pos 0) * down e) (m * up e * down (pos 0)) l in omega (arith, g)

not_above_one : (x : Float) → Within 1 1 x → lt (fin false 1 (pos 0)) x ≡ false
unfolding lt
not_above_one nan h = absurd h
not_above_one (inf s) h = absurd h
not_above_one (fin true m e) h = refl
not_above_one (fin false m e) h = le-ltb (1 * up (pos 0) * down e) (m * up e * down (pos 0)) (omega (arith, h))

-- ---- the root of 1 - r·r

less_itself : (x : Float) → Within 1 1 x → le n0 (x -ᶠ x) ≡ true
unfolding sub neg add sum
less_itself nan h = absurd h
less_itself (inf s) h = absurd h
less_itself (fin true m e) h =
    let a = m * up e * down e in
    rw (le-ltb a a (omega arith)) (from_0 (round_plain binary32 (a - a) (down e * down e)))
less_itself (fin false m e) h =
    let a = m * up e * down e in
    rw (le-ltb a a (omega arith)) (from_0 (round_plain binary32 (a - a) (down e * down e)))

one_finite : finite n1 ≡ true
unfolding finite of_bits
one_finite = refl

left_over : (x : Float) → Within 1 1 x → le n0 (n1 -ᶠ x) ≡ true
left_over x h =
    le_trans n0 (x -ᶠ x) (n1 -ᶠ x) (less_itself x h)
    (sub_mono x n1 x (within_finite 1 1 x h) one_finite (within_finite 1 1 x h) at_most)
  where
    at_most : le x n1 ≡ true
    at_most = le_of_not_lt n1 x (finite_number n1 one_finite) (finite_number x (within_finite 1 1 x h)) (rw one_is (not_above_one x h))

root_number : {x : Float} → AtLeastZero x → is_nan (root_of binary32 x) ≡ false
unfolding root_of nearest_root is_nan
root_number an_inf = refl
root_number (plain zero e) = refl
root_number (plain (suc m) e) = round_number false _ _
root_number (minus_zero_lem e) = refl

-- ---- the arcsine

-- a number that is no zero, over any number
quotient_number : (s : Bool) (m : ℕ) (e : ℤ) (y : Float) → is_nan y ≡ false → is_nan (fin s (suc m) e /ᶠ y) ≡ false
unfolding div is_nan
quotient_number s m e nan n = never' n
quotient_number s m e (inf t) n = refl
quotient_number s m e (fin t zero d) n = rw (eqb-suc-zero m)
quotient_number s m e (fin t (suc k) d) n = rw (eqb-suc-zero k) (round_number (Ieee.unlike s t) (suc m * up e * down d) (suc k * up d * down e))

-- a zero, over the root of 1
zero_over : (s : Bool) → let r = fin s 0 (pos 0) in is_nan (r /ᶠ root_of binary32 (n1 -ᶠ r ·ᶠ r)) ≡ false
unfolding root_of is_nan neg of_bits add sub mul div
zero_over true = refl
zero_over false = refl

over_root : (r : Float) → T (fits binary32 r) → Within 1 1 r → is_nan (r /ᶠ root_of binary32 (n1 -ᶠ r ·ᶠ r)) ≡ false
unfolding fits
over_root nan f h = absurd h
over_root (inf s) f h = absurd h
over_root (fin s zero e) f h =
    subst (λ (x : ℤ). is_nan (fin s 0 x /ᶠ root_of binary32 (n1 -ᶠ fin s 0 x ·ᶠ fin s 0 x)) ≡ false) (sym (zero_exponent e f)) (zero_over s)
over_root (fin s (suc m) e) f h = quotient_number s m e _ (root_number (at_least _ (rw zero_is at (left_over square squared))))
  where
    square : Float
    square = fin s (suc m) e ·ᶠ fin s (suc m) e

    squared : Within 1 1 square
    squared = mul_within 1 1 1 1 (fin s (suc m) e) (fin s (suc m) e) (omega arith) (held 1 0 (omega arith) (omega arith)) h h

arctangent_is : (v : Float) → is_nan v ≡ false → is_nan (arctangent v) ≡ false
unfolding arctangent
arctangent_is v n = rw n (go (eq v n0))
  where
    go : (b : Bool) → is_nan (cond b v (cond (lt v n0) (neg (arctangent_of_size (size v))) (arctangent_of_size (size v)))) ≡ false
    go true = n
    go false = signed_number (lt v n0) _ (arctangent_number (size v) (size_number v n) (size_unsigned v))

arcsine_number : (r : Float) → T (fits binary32 r) → Within 1 1 r → is_nan (arcsine r) ≡ false
unfolding arcsine
arcsine_number r f h = arctangent_is _ (over_root r f h)

-- ---- the capture angle

no_quotient : is_nan (clamp (arcsine (clamp nan (neg n1) n1)) (neg max_capture) max_capture) ≡ true
unfolding clamp arcsine arctangent is_nan neg lt of_bits div
no_quotient = refl

unit_ordered : (le (neg n1) n1 ≡ true) × (le (neg max_capture) max_capture ≡ true)
unfolding le neg of_bits
unit_ordered = (refl, refl)

one_fits : T (fits binary32 n1) × T (fits binary32 (neg n1))
unfolding fits neg of_bits
one_fits = (tt, tt)

clamp_fits : (q : Float) → T (fits binary32 q) → T (fits binary32 (clamp q (neg n1) n1))
unfolding clamp
clamp_fits q f = cond-fits binary32 (lt q (neg n1)) _ _ one_fits.1 (cond-fits binary32 (lt n1 q) _ _ one_fits.0 f)

pub no_capture : NoCapture
unfolding capture
no_capture cross_track distance = go (is_nan q) refl
  where
    q : Float
    q = cross_track /ᶠ distance

    r : Float
    r = clamp q (neg n1) n1

    r_fits : T (fits binary32 r)
    r_fits = clamp_fits q (div-fits binary32 cross_track distance)

    in_one : is_nan q ≡ false → Within 1 1 r
    in_one n =
        within_one r (subst (λ (x : Float). le x r ≡ true) less_one_is (clamped_low q (neg n1) n1 n unit_ordered.0))
        (subst (λ (x : Float). le r x ≡ true) one_is (clamped_high q (neg n1) n1 n unit_ordered.0))

    go : (b : Bool) → is_nan q ≡ b → is_nan (clamp (arcsine (clamp q (neg n1) n1)) (neg max_capture) max_capture) ≡ b
    go true h = rw (nan_is q h) no_quotient
    go false h =
        right_number (neg max_capture) _
        (clamped_low (arcsine r) (neg max_capture) max_capture (arcsine_number r r_fits (in_one h)) unit_ordered.1)
