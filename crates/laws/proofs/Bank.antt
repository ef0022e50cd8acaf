-- The bank of an acceleration that is not below 0, within ± a limit: never below 0, and above 0 exactly where the acceleration over
-- gravity and the limit are.
use Prim.Native.Nat.{◌*◌}
use mathlib.Core.Path.{◌≡◌, refl, sym, ◌∙◌}
use mathlib.Core.Bool.{Bool, true, false, cond, ◌&&◌, ◌||◌}
use lib.Dec.{T}
use lib.IntN.{negsuc}
use lib.Ieee.{Float, nan, inf, fin, binary32, up, down, lt, le, eq, neg, is_nan, fits, of_bits, div}
use lib.Ieee.Fits.{div-fits}
use borrow.Author.Tests.{not-false}
use Rattle.arithmetic.specs.Constants.{◌/ᶠ◌, n0}
use Rattle.arithmetic.specs.Order.{finite, clamp, choose}
use Rattle.arithmetic.specs.Trigonometry.{arctangent}
use Rattle.arithmetic.proofs.Bounds.{never, never', an_inf, from_0, zero_or_above, zero_number}
use Rattle.arithmetic.proofs.Bounds.{le_of_not_lt, le_of_lt, right_number, zero_between}
use Rattle.arithmetic.proofs.Sums.{le_trans, le_not_lt, round_plain}
use Rattle.arithmetic.proofs.Arctangent.{arctangent_above, arctangent_finite}
use Rattle.laws.specs.Math.{limit_or_zero, clamp_symmetric}
use Rattle.laws.specs.Types.{gravity}
use Rattle.laws.specs.Navigation.{bank_for_accel}
use Rattle.laws.proofs.Plus.{plus}

-- ---- over gravity

gravity_is : gravity ≡ fin false 5141509 (negsuc 18)
unfolding of_bits
gravity_is = refl

pub over_gravity : (a : Float) → plus a ≡ true → is_nan a ≡ false → le n0 (a /ᶠ gravity) ≡ true
unfolding is_nan div
over_gravity nan p n = never' n
over_gravity (inf true) p n = never p
over_gravity (inf false) p n = rw gravity_is (from_0 an_inf)
over_gravity (fin true m e) p n = never p
over_gravity (fin false m e) p n = rw gravity_is (from_0 (round_plain binary32 (m * up e * down (negsuc 18)) (5141509 * up (negsuc 18) * down e)))

-- ---- the bank

either : (a : Bool) → a || true ≡ true
either true = refl
either false = refl

-- the arctangent of a zero is that zero
as_it_is : (v : Float) → eq v n0 ≡ true → arctangent v ≡ v
unfolding arctangent
as_it_is v h = rw (h, either (is_nan v))

zero_not_above : lt n0 n0 ≡ false
unfolding lt of_bits
zero_not_above = refl

zero_from_0 : le n0 n0 ≡ true
unfolding le of_bits
zero_from_0 = refl

abbrev chosen : Float → Float
chosen x = choose (finite x) x n0

chosen_zero : (v : Float) → le n0 v ≡ true → lt n0 v ≡ false → (lt n0 (chosen v) ≡ false) × (le n0 (chosen v) ≡ true)
chosen_zero v p q = go (finite v)
  where
    go : (b : Bool) → (lt n0 (choose b v n0) ≡ false) × (le n0 (choose b v n0) ≡ true)
    go true = (q, p)
    go false = (zero_not_above, zero_from_0)

-- of a v that is not below 0: above 0 where v is, and not below 0
bank_by : (v : Float) → T (fits binary32 v) → le n0 v ≡ true → (lt n0 (chosen (arctangent v)) ≡ lt n0 v) × (le n0 (chosen (arctangent v)) ≡ true)
bank_by v f p = go (lt n0 v) refl
  where
    go : (b : Bool) → lt n0 v ≡ b → (lt n0 (chosen (arctangent v)) ≡ b) × (le n0 (chosen (arctangent v)) ≡ true)
    go true h =
        let r = arctangent_above v f h in
        rw (arctangent_finite v h) (r, le_of_lt n0 (arctangent v) r)
    go false h = rw (as_it_is v (not-false (eq v n0) (sym (zero_or_above v p) ∙ h))) (chosen_zero v p h)

module _ (a : Float) (p : le n0 (a /ᶠ gravity) ≡ true) where
  pub bank_sign : lt n0 (bank_for_accel a) ≡ lt n0 (a /ᶠ gravity)
  unfolding bank_for_accel
  bank_sign = (bank_by (a /ᶠ gravity) (div-fits binary32 a gravity) p).0

  pub bank_from_0 : le n0 (bank_for_accel a) ≡ true
  unfolding bank_for_accel
  bank_from_0 = (bank_by (a /ᶠ gravity) (div-fits binary32 a gravity) p).1

-- ---- within its limit

module _ (b limit : Float) (B : le n0 b ≡ true) (L : le n0 limit ≡ true) where
  at_most_limit : clamp_symmetric b limit ≡ cond (lt limit b) limit b
  unfolding clamp_symmetric limit_or_zero clamp
  at_most_limit = rw (L, le_not_lt (neg limit) b (zero_between limit b L B))

  pub clamped_from_0 : le n0 (clamp_symmetric b limit) ≡ true
  clamped_from_0 = rw at_most_limit (go (lt limit b))
    where
      go : (x : Bool) → le n0 (cond x limit b) ≡ true
      go true = L
      go false = B

  pub clamped_sign : lt n0 (clamp_symmetric b limit) ≡ lt n0 limit && lt n0 b
  clamped_sign = rw at_most_limit (go (lt limit b) (lt n0 limit) (lt n0 b) refl refl refl)
    where
      -- what is not above 0 is at most 0
      at_most_0 : (x : Float) → le n0 x ≡ true → lt n0 x ≡ false → le x n0 ≡ true
      at_most_0 x p q = le_of_not_lt n0 x zero_number (right_number n0 x p) q

      go : (x p q : Bool) → lt limit b ≡ x → lt n0 limit ≡ p → lt n0 b ≡ q → lt n0 (cond x limit b) ≡ p && q
      go true true true e l m = l
      go true true false e l m = never' (sym e ∙ le_not_lt b limit (le_trans b n0 limit (at_most_0 b B m) L))
      go true false q e l m = l
      go false true q e l m = m
      go false false q e l m =
          le_not_lt b n0 (le_trans b limit n0 (le_of_not_lt limit b (right_number n0 limit L) (right_number n0 b B) e) (at_most_0 limit L l))
