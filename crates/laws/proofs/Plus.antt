-- Numbers without a minus sign, NaN among them: products, quotients and sums of such are such, and none is below 0.
use Prim.Native.Nat.{ℕ, zero, suc, ◌+◌, ◌*◌, ◌^◌, ◌<◌}
use mathlib.Core.Path.{◌≡◌, refl, sym, ◌∙◌}
use native.Mathlib.Nat.{zero-mul}
use native.Mathlib.Omega.{arith}
use mathlib.Core.Bool.{Bool, true, false, cond, not}
use lib.Dec.{eqb, ltb, lt→ltb}
use lib.Ieee.Bits.{is_true}
use borrow.Author.Tests.{le-ltb}
use lib.Ieee.Fits.{down_pos, round_is}
use lib.Ieee.{low, emax, prec, up, down}
use lib.Ieee.{Float, nan, inf, fin, binary32, odd, units, round, sum, add, mul, div, lt, is_nan, of_bits}
use Rattle.arithmetic.specs.Constants.{◌+ᶠ◌, ◌·ᶠ◌, ◌/ᶠ◌, n0, n1}
use Rattle.arithmetic.specs.Order.{choose}
use Rattle.arithmetic.proofs.Bounds.{never, never'}

abbrev pub plus : Float → Bool
plus nan = true
plus (inf s) = not s
plus (fin s m e) = not s

-- ---- rounding keeps the sign

plus_odd : (d q k l : ℕ) → plus (odd d false q k l) ≡ true
unfolding odd
plus_odd d zero k l = refl
plus_odd d (suc q) k l = refl

either : (b : Bool) (x y : Float) → plus x ≡ true → plus y ≡ true → plus (cond b x y) ≡ true
either true x y p q = p
either false x y p q = q

plus_units : (q k : ℕ) → plus (units binary32 false q k) ≡ true
unfolding units
plus_units q k =
    either (ltb (q * 2 ^ k) (2 ^ (low binary32 + suc (emax binary32)))) (odd (suc (prec binary32)) false q k (low binary32)) (inf false)
    (plus_odd (suc (prec binary32)) q k (low binary32)) refl

plus_round : (a b : ℕ) → plus (round binary32 false a b) ≡ true
plus_round a b = rw (round_is binary32 false a b) (plus_units _ _)

-- ---- operations

pub plus_mul : (x y : Float) → plus x ≡ true → plus y ≡ true → plus (x ·ᶠ y) ≡ true
unfolding mul
plus_mul nan y p q = refl
plus_mul (inf true) y p q = never p
plus_mul (inf false) nan p q = refl
plus_mul (inf false) (inf true) p q = never q
plus_mul (inf false) (inf false) p q = refl
plus_mul (inf false) (fin true n d) p q = never q
plus_mul (inf false) (fin false n d) p q = either (eqb n 0) nan (inf false) refl refl
plus_mul (fin true m e) y p q = never p
plus_mul (fin false m e) nan p q = refl
plus_mul (fin false m e) (inf true) p q = never q
plus_mul (fin false m e) (inf false) p q = either (eqb m 0) nan (inf false) refl refl
plus_mul (fin false m e) (fin true n d) p q = never q
plus_mul (fin false m e) (fin false n d) p q = plus_round (m * up e * (n * up d)) (down e * down d)

pub plus_div : (x y : Float) → plus x ≡ true → plus y ≡ true → plus (x /ᶠ y) ≡ true
unfolding div
plus_div nan y p q = refl
plus_div (inf true) y p q = never p
plus_div (inf false) nan p q = refl
plus_div (inf false) (inf t) p q = refl
plus_div (inf false) (fin true n d) p q = never q
plus_div (inf false) (fin false n d) p q = refl
plus_div (fin true m e) y p q = never p
plus_div (fin false m e) nan p q = refl
plus_div (fin false m e) (inf true) p q = never q
plus_div (fin false m e) (inf false) p q = refl
plus_div (fin false m e) (fin true n d) p q = never q
plus_div (fin false m e) (fin false n d) p q =
    either (eqb n 0) _ _ (either (eqb m 0) nan (inf false) refl refl) (plus_round (m * up e * down d) (n * up d * down e))

pub plus_add : (x y : Float) → plus x ≡ true → plus y ≡ true → plus (x +ᶠ y) ≡ true
unfolding add sum
plus_add nan y p q = refl
plus_add (inf true) y p q = never p
plus_add (inf false) nan p q = refl
plus_add (inf false) (inf true) p q = never q
plus_add (inf false) (inf false) p q = refl
plus_add (inf false) (fin t n d) p q = refl
plus_add (fin true m e) y p q = never p
plus_add (fin false m e) nan p q = refl
plus_add (fin false m e) (inf true) p q = never q
plus_add (fin false m e) (inf false) p q = refl
plus_add (fin false m e) (fin true n d) p q = never q
plus_add (fin false m e) (fin false n d) p q = plus_round (m * up e * down d + n * up d * down e) (down e * down d)

-- ---- and order

pub zero_plus : plus n0 ≡ true
unfolding of_bits
zero_plus = refl

pub plus_choose : (b : Bool) (x : Float) → plus x ≡ true → plus (choose b x n0) ≡ true
plus_choose true x p = p
plus_choose false x p = zero_plus

pub not_below : (x : Float) → plus x ≡ true → lt x n0 ≡ false
unfolding lt of_bits
not_below nan p = refl
not_below (inf true) p = never p
not_below (inf false) p = refl
not_below (fin true m e) p = never p
not_below (fin false m e) p = le-ltb (m * up e * 1) (0 * down e) (omega (arith, zero-mul (down e)))

more : (a b : ℕ) → 0 < b → 0 < a + 1 * b
more a b h = omega arith

-- what is neither NaN nor below 1
pub plus_from_1 : (x : Float) → is_nan x ≡ false → lt x n1 ≡ false → plus x ≡ true
unfolding lt is_nan of_bits
plus_from_1 nan p q = never' p
plus_from_1 (inf true) p q = never' q
plus_from_1 (inf false) p q = refl
plus_from_1 (fin true m e) p q = never' (sym (is_true _ (lt→ltb 0 _ (more (m * up e * 1) (down e) (down_pos e)))) ∙ q)
plus_from_1 (fin false m e) p q = refl

pub plus_above_0 : (x : Float) → lt n0 x ≡ true → plus x ≡ true
unfolding lt of_bits
plus_above_0 nan p = refl
plus_above_0 (inf true) p = never p
plus_above_0 (inf false) p = refl
plus_above_0 (fin true m e) p = never p
plus_above_0 (fin false m e) p = refl
