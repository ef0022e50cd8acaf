-- The distance that the laws answer is document 02's, for all numbers.
use Rattle.std.specs.Prelude.{Option, Some, None, Float}
use mathlib.Core.Path.{◌≡◌, refl, ◌∙◌}
use mathlib.Core.Bool.{Bool, true, false, cond, ◌||◌}
use lib.Ieee.{Float, is_nan, le}
use Rattle.arithmetic.specs.Constants.{n0}
use Rattle.arithmetic.specs.Vector.{norm, normalise}
use Rattle.arithmetic.specs.declared.vector.Vec2.{Vec2}
use Rattle.laws.specs.Navigation.{least_leg, least_offset, difference, along, right_of, no_course, level}
use Rattle.laws.specs.Navigation.{track_along, track_by, track_accel, loiter_by, loiter_accel, lateral_accel}
use Rattle.laws.specs.Navigation.{off_line, off_tangent, cross_track}
use Rattle.laws.specs.declared.navigation.Lateral.{Lateral}
use Rattle.std.proofs.lemmas.Bool.{or_parts}

-- a choice between answers is a choice between their distances
given_up : (b idle : Bool) (l : Lateral) → (cond b (level idle) l).cross_track_m ≡ cond b n0 l.cross_track_m
given_up true idle l = refl
given_up false idle l = refl

nothing : (b : Bool) → n0 ≡ cond b n0 n0
nothing true = refl
nothing false = refl

-- what stands under a test may be rewritten where the test fails
under : (b : Bool) (x y : Float) → (b ≡ false → x ≡ y) → cond b n0 x ≡ cond b n0 y
under true x y h = refl
under false x y h = h refl

module _ (position velocity point : Vec2) (radius period damping : Float) where
  along_line :
      (through direction : Vec2) (speed : Float) →
      (track_along position velocity through direction speed period damping).cross_track_m ≡ off_line position through (Some direction)
  unfolding track_along
  along_line through direction speed = refl

  tracked :
      (through : Vec2) (n : Option Vec2) →
      (track_by position velocity through period damping n).cross_track_m
      ≡ cond (no_course (norm velocity)) n0 (off_line position through n)
  unfolding track_by
  tracked through None = nothing (no_course (norm velocity))
  tracked through (Some direction) =
      given_up (no_course (norm velocity)) true _
      ∙ under (no_course (norm velocity)) _ _ (λ h. along_line through direction (norm velocity))

  around :
      (n : Option Vec2) → no_course (norm velocity) ≡ false →
      (loiter_by position velocity point radius period damping n).cross_track_m ≡ off_tangent position point radius n
  unfolding loiter_by track_accel
  around None h = refl
  around (Some outward) h = rw h at (tracked (along point outward radius) (normalise (right_of outward) least_leg))

  pub cross_track_is :
      (leg : Option Vec2) →
      (lateral_accel leg position velocity point radius period damping).cross_track_m ≡ cross_track leg position velocity point radius
  unfolding lateral_accel loiter_accel track_accel cross_track
  cross_track_is None =
      let slow = no_course (norm velocity) in
      given_up (slow || is_nan radius || le radius n0) slow _
      ∙ under (slow || is_nan radius || le radius n0) _ _
      (λ h. around (normalise (difference position point) least_offset) (or_parts slow (is_nan radius) (or_parts (slow || is_nan radius) (le radius n0) h).0).0)
  cross_track_is (Some leg) = tracked point (normalise leg least_leg)
