-- The helpers of math.rs: saturate, lag, clamp. Definitions only.
use Rattle.std.specs.Prelude.{Bool, cond, ◌&&◌, Float}
use Rattle.std.specs.Float.Ieee as Ieee
use Rattle.std.specs.Float.Ieee.{is_nan, neg}
use Rattle.arithmetic.specs.Constants.{◌+ᶠ◌, ◌-ᶠ◌, ◌·ᶠ◌, ◌/ᶠ◌, n0, n1}
use Rattle.arithmetic.specs.Order.{least, clamp, finite}
use Rattle.arithmetic.specs.declared.vector.Vec2.{Vec2}

-- a limit that is NaN or below 0 is 0
unfoldable pub limit_or_zero : Float → Float
limit_or_zero limit = cond (Ieee.le n0 limit) limit n0

-- between -limit and limit; NaN passes
unfoldable pub clamp_symmetric : Float → Float → Float
clamp_symmetric value limit = let l = limit_or_zero limit in clamp value (neg l) l

-- the same, with 0 for NaN
unfoldable pub saturate_symmetric : Float → Float → Float
saturate_symmetric value limit = cond (is_nan value) n0 (clamp_symmetric value limit)

unfoldable pub saturate_unit : Float → Float
saturate_unit value = saturate_symmetric value n1

-- between 0 and 1, with 0 for NaN
unfoldable pub saturate_throttle : Float → Float
saturate_throttle value = cond (is_nan value) n0 (clamp value n0 n1)

-- Lag: one step of a first-order lag toward the target, at most the whole way.
unfoldable pub lagged : Float → Float → Float → Float → Float
lagged value target dt timeConstant = value +ᶠ (target -ᶠ value) ·ᶠ least (dt /ᶠ timeConstant) n1

unfoldable pub all_finite : Vec2 → Bool
all_finite v = finite v.x && finite v.y
