-- The flag that the laws answer is document 02's idle.
use Rattle.std.specs.Prelude.{Option, Some, None, Float}
use mathlib.Core.Path.{◌≡◌, refl}
use mathlib.Core.Bool.{Bool, true, false, cond, ◌||◌}
use lib.Ieee.{Float, is_nan, le}
use Rattle.arithmetic.specs.Constants.{n0}
use Rattle.arithmetic.specs.Vector.{norm, normalise}
use Rattle.arithmetic.specs.declared.vector.Vec2.{Vec2}
use Rattle.laws.specs.Navigation.{least_leg, least_offset, difference, no_course, level, track_along, track_by, track_accel}
use Rattle.laws.specs.Navigation.{loiter_by, loiter_accel, lateral_accel, idle}
use Rattle.laws.specs.declared.navigation.Lateral.{Lateral}

slow : (b : Bool) (l : Lateral) → l.idle ≡ false → (cond b (level true) l).idle ≡ b
slow true l h = refl
slow false l h = h

-- a radius that is no radius is not idle
no_radius : (n a b : Bool) (l : Lateral) → l.idle ≡ false → (cond (n || a || b) (level n) l).idle ≡ n
no_radius true a b l h = refl
no_radius false true b l h = refl
no_radius false false true l h = refl
no_radius false false false l h = h

module _ (position velocity point : Vec2) (radius period damping : Float) where
  along_not : (direction : Vec2) (speed : Float) → (track_along position velocity point direction speed period damping).idle ≡ false
  unfolding track_along
  along_not direction speed = refl

  tracked :
      (direction : Vec2) (short : Bool) →
      (track_by position velocity point period damping (cond short None (Some direction))).idle ≡ short || no_course (norm velocity)
  unfolding track_by
  tracked direction true = refl
  tracked direction false = slow (no_course (norm velocity)) _ (along_not direction (norm velocity))

  around_not : (n : Option Vec2) → (loiter_by position velocity point radius period damping n).idle ≡ false
  unfolding loiter_by
  around_not None = refl
  around_not (Some outward) = refl

  pub idle_is : (leg : Option Vec2) → (lateral_accel leg position velocity point radius period damping).idle ≡ idle leg velocity
  unfolding lateral_accel loiter_accel track_accel normalise idle
  idle_is None =
      no_radius (no_course (norm velocity)) (is_nan radius) (le radius n0) _ (around_not (normalise (difference position point) least_offset))
  idle_is (Some leg) = tracked _ (le (norm leg) least_leg)
