use mathlib.Core.Path.{◌≡◌, refl, sym, ap, ◌∙◌, subst}
use mathlib.Core.Bool.{Bool, true, false, cond, not}
use Prim.Native.Nat.{ℕ, zero, suc, ◌+◌, ◌*◌, ◌/◌, ◌%◌, ◌<◌}
use native.Mathlib.Nat.{lt_irrefl, mul-pos, zero-mul}
use native.Mathlib.Omega.{arith}
use borrow.Author.Tests.{ne_eqb, lt-ltb, le-ltb}
use lib.Dec.{T}
use lib.IntN.{ℤ, pos}
use lib.Ieee as Ieee
use lib.Ieee.{Float, nan, inf, fin, binary32, up, down, fits, is_nan, neg, ne, eq, lt, le, of_bits, to_bits, add, sub, mul, div}
use lib.Ieee.Fits.{up_pos, cond-fits, add-fits, sub-fits, mul-fits}
use lib.Ieee.Bits.{nan_bits_is, to_bits-lt}
use Rattle.arithmetic.specs.Constants.{n0, n1}
use Rattle.arithmetic.specs.Order.{size, negative}
use Rattle.arithmetic.specs.Trigonometry.{series_end, series, part, arctangent_of_size, arctangent}
use Rattle.arithmetic.proofs.Bounds.{never', zero_is}
use Rattle.arithmetic.proofs.Signs.{size_bits, size_number, size_unsigned, is_number, size_held, unsigned_bits, signed_bits, signed_number}
use Rattle.arithmetic.proofs.Arctangent.{zero_exponent, arctangent_number, arctangent_unsigned}
use Rattle.arithmetic.proofs.trigonometry.arctangent.Goals as goal
use Rattle.arithmetic.proofs.trigonometry.arctangent.Goals.{After-arctangent_of_size-a, Start}

-- ---- the definition's cases are the sign bit's

abbrev signed : Bool → Float → Float
signed s u = cond s (neg (arctangent_of_size u)) (arctangent_of_size u)

at_zero : (s : Bool) → signed s (fin false 0 (pos 0)) ≡ arctangent (fin s 0 (pos 0))
unfolding arctangent arctangent_of_size part series is_nan neg lt le eq of_bits add sub mul div
at_zero true = refl
at_zero false = refl

at_infinity : (s : Bool) → signed s (inf false) ≡ arctangent (inf s)
unfolding arctangent size is_nan lt eq
at_infinity true = rw zero_is
at_infinity false = rw zero_is

-- a number above zero in size is no zero, and below zero exactly where its sign stands
tests_of : (s : Bool) (a b : ℕ) → 0 < a → b ≡ 0 → (Ieee.level s a false b ≡ false) × (Ieee.below s a false b ≡ s)
tests_of true a b h z = (rw (ne_eqb a b (λ (e : a ≡ b). lt_irrefl 0 (omega (arith, e)))), lt-ltb 0 (a + b) (omega arith))
tests_of false a b h z = (rw (ne_eqb a b (λ (e : a ≡ b). lt_irrefl 0 (omega (arith, e)))), le-ltb a b (omega arith))

tests : (s : Bool) (m : ℕ) (e : ℤ) → (eq (fin s (suc m) e) n0 ≡ false) × (lt (fin s (suc m) e) n0 ≡ s)
unfolding eq lt
tests s m e =
    rw zero_is
    (tests_of s (suc m * up e * 1) (0 * down e) (mul-pos (mul-pos {m = suc m} (omega arith) (up_pos e)) (omega arith)) (zero-mul (down e)))

at_other : (s : Bool) (m : ℕ) (e : ℤ) → signed s (fin false (suc m) e) ≡ arctangent (fin s (suc m) e)
unfolding arctangent size is_nan
at_other s m e = let t = tests s m e in rw (t.0, t.1)

by_sign : (v : Float) → T (fits binary32 v) → is_nan v ≡ false → signed (negative v) (size v) ≡ arctangent v
unfolding negative size is_nan fits
by_sign nan h n = never' n
by_sign (inf s) h n = at_infinity s
by_sign (fin s zero e) h n =
    subst (λ (x : ℤ). signed s (fin false 0 x) ≡ arctangent (fin s 0 x)) (sym (zero_exponent e h)) (at_zero s)
by_sign (fin s (suc m) e) h n = at_other s m e

-- the arctangent of a size is one that the format holds
part_fits : (u : Float) → T (fits binary32 (part u))
unfolding part series
part_fits u = cond-fits binary32 (le u series_end) _ _ (mul-fits binary32 _ _) (add-fits binary32 _ _)

size_fits : (u : Float) → T (fits binary32 (arctangent_of_size u))
unfolding arctangent_of_size
size_fits u = cond-fits binary32 (lt n1 u) _ _ (sub-fits binary32 _ _) (part_fits u)

not_carried : (a b : ℕ) → a < 0x80000000 → b < 0x100000000 → a % 0x80000000 + b / 0x80000000 * 0x80000000 ≡ (a + b / 0x80000000 * 0x80000000) % 0x100000000
not_carried a b l k = omega arith

-- ---- what is known at each place, of v and of a, the arctangent of its size: owning an `f32` tells that the format holds it
module _ (c : After-arctangent_of_size-a) where
  abbrev v : Float
  v = c.args.v

  abbrev a : Float
  a = c.arctangent_of_size-a.result

  v_held : T (fits binary32 v)
  v_held = subst T (sym c.well_formed.0.1) tt

  v_number : is_nan v ≡ false
  v_number = sym c.if-is_nan.ensures.value

  a_is : a ≡ arctangent_of_size (size v)
  a_is = c.arctangent_of_size-a.ensures ∙ ap arctangent_of_size (size_bits v v_held v_number)

  a_fits : T (fits binary32 a)
  a_fits = subst (λ (x : Float). T (fits binary32 x)) (sym a_is) (size_fits (size v))

  a_number : is_nan a ≡ false
  a_number = ap is_nan a_is ∙ arctangent_number (size v) (size_number v v_number) (size_unsigned v)

  a_low : to_bits binary32 a < 0x80000000
  a_low = unsigned_bits a a_fits a_number (ap negative a_is ∙ arctangent_unsigned (size v) (size_held v v_held) (size_number v v_number) (size_unsigned v))

  signed_is : of_bits binary32 (to_bits binary32 a % 0x80000000 + to_bits binary32 v / 0x80000000 * 0x80000000) ≡ cond (negative v) (neg a) a
  signed_is =
      ap (of_bits binary32) (not_carried (to_bits binary32 a) (to_bits binary32 v) a_low (to_bits-lt binary32 v v_held))
      ∙ signed_bits v a v_held a_fits v_number a_number

pub returns-then-is_nan : goal.returns-then-is_nan
unfolding arctangent
returns-then-is_nan c = rw (sym c.if-is_nan.ensures.value)

pub overflow_mul-sign : goal.overflow_mul-sign
overflow_mul-sign c = omega (arith, to_bits-lt binary32 c.args.v (subst T (sym c.well_formed.0.1) tt))

pub overflow_add-result : goal.overflow_add-result
overflow_add-result c = omega (arith, to_bits-lt binary32 (v c) (v_held c))

pub float_from_bits-b : goal.float_from_bits-b
float_from_bits-b c =
    let v = c.args.v in
    let n = sym c.if-is_nan.ensures.value in
    let h : T (fits binary32 v) = subst T (sym c.well_formed.0.1) tt in
    subst (λ (b : Bool). T (not b)) (sym (nan_bits_is binary32 _ ∙ ap is_nan (size_bits v h n) ∙ size_number v n)) tt

pub float_to_bits-result : goal.float_to_bits-result
float_to_bits-result c = is_number _ (a_number c)

pub float_from_bits-result : goal.float_from_bits-result
float_from_bits-result c =
    subst (λ (b : Bool). T (not b)) (sym (nan_bits_is binary32 _ ∙ ap is_nan (signed_is c) ∙ signed_number (negative (v c)) _ (a_number c))) tt

pub returns : goal.returns
returns c =
    signed_is c
    ∙ ap (λ (x : Float). cond (negative (v c)) (neg x) x) (a_is c)
    ∙ by_sign (v c) (v_held c) (v_number c)
