-- Bounds that are not crossed, whatever the numbers: ± a limit, and a number with the greatest of it and another.
use mathlib.Core.Path.{◌≡◌, refl, sym, ◌∙◌}
use mathlib.Core.Bool.{Bool, true, false, cond}
use lib.Ieee.{Float, is_nan, neg, lt, le}
use Rattle.arithmetic.specs.Constants.{n0}
use Rattle.arithmetic.specs.Order.{greatest}
use Rattle.arithmetic.proofs.Bounds.{never', le_self, zero_number, zero_between, greatest_right, lt_right}
use Rattle.arithmetic.proofs.Sums.{le_not_lt}
use Rattle.laws.specs.Math.{limit_or_zero}

pub limit_number : (limit : Float) → le n0 (limit_or_zero limit) ≡ true
unfolding limit_or_zero
limit_number limit = go (le n0 limit) refl
  where
    go : (b : Bool) → le n0 limit ≡ b → le n0 (cond b limit n0) ≡ true
    go true e = e
    go false e = le_self n0 zero_number

-- a number that is not below 0, and itself turned
pub sides_ordered : (x : Float) → le n0 x ≡ true → lt x (neg x) ≡ false
sides_ordered x p = le_not_lt (neg x) x (zero_between x x p p)

pub greatest_ordered : (a b : Float) → lt (greatest a b) b ≡ false
greatest_ordered a b = go (is_nan b) refl (lt (greatest a b) b) refl
  where
    go : (n : Bool) → is_nan b ≡ n → (l : Bool) → lt (greatest a b) b ≡ l → lt (greatest a b) b ≡ false
    go n e false f = f
    go false e true f = le_not_lt b (greatest a b) (greatest_right a b e)
    go true e true f = never' (sym e ∙ lt_right (greatest a b) b f)
