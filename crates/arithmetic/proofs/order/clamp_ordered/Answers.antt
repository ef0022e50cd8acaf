-- `order::clamp_ordered` meets its contract: above the upper bound v is not below the lower one, since the bounds are not crossed.
-- Assumes nothing.
use mathlib.Core.Path.{◌≡◌, refl, sym, ap, ◌∙◌}
use mathlib.Core.Bool.{Bool, true, false, cond}
use lib.Ieee.{Float, lt}
use Rattle.arithmetic.specs.Order.{clamp}
use Rattle.arithmetic.proofs.Bounds.{lt_left, lt_right, le_of_lt, le_of_not_lt}
use Rattle.arithmetic.proofs.Sums.{le_trans, le_not_lt}
use Rattle.arithmetic.proofs.order.clamp_ordered.Goals as goal
use Rattle.arithmetic.proofs.order.clamp_ordered.Goals.{Joined-v-high}

not_below : (v low high : Float) → lt high low ≡ false → lt high v ≡ true → lt v low ≡ false
not_below v low high o a = go (lt v low) refl
  where
    go : (b : Bool) → lt v low ≡ b → lt v low ≡ false
    go false e = e
    go true e =
        let bounds = le_of_not_lt high low (lt_left high v a) (lt_right v low e) o in
        le_not_lt low v (le_trans low high v bounds (le_of_lt high v a))

-- the lesser of v and the upper bound, then the greater of that and the lower one
in_turn : (v low high : Float) → lt high low ≡ false →
    cond (lt (cond (lt high v) high v) low) low (cond (lt high v) high v) ≡ clamp v low high
unfolding clamp
in_turn v low high o = go (lt high v) refl
  where
    go : (b : Bool) → lt high v ≡ b → cond (lt (cond b high v) low) low (cond b high v) ≡ cond (lt v low) low (cond b high v)
    go true e = rw (o, not_below v low high o e)
    go false e = refl

-- what the first choice gave
lesser : (c : Joined-v-high) → c.if-v-high.below ≡ cond (lt c.args.high c.args.v) c.args.high c.args.v
lesser c =
    elim c.if-v-high.branch [
      | goal.then-v-high w ↦ rw (w.if-v-high.true, w.below-is)
      | goal.else-v-high w ↦ rw (w.if-v-high.false, w.below-is)
    ]

settled : (c : Joined-v-high) → cond (lt c.if-v-high.below c.args.low) c.args.low c.if-v-high.below
    ≡ clamp c.args.v c.args.low c.args.high
settled c =
    let a = c.args in
    rw (lesser c) (in_turn a.v a.low a.high c.requires)

pub returns-then-below-low : goal.returns-then-below-low
returns-then-below-low c = sym (ap (λ (b : Bool). cond b c.args.low c.if-v-high.below) c.if-below-low.true) ∙ settled c.before

pub returns-else-below-low : goal.returns-else-below-low
returns-else-below-low c = sym (ap (λ (b : Bool). cond b c.args.low c.if-v-high.below) c.if-below-low.false) ∙ settled c.before
