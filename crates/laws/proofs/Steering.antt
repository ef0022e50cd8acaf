-- The code's way to the L1 laws gives what the laws say: one measured speed, one line, and no root past a ratio of 1.
use Rattle.std.specs.Prelude.{Option, Some, None, Float}
use mathlib.Core.Path.{◌≡◌, refl, sym, ◌∙◌}
use mathlib.Core.Bool.{true, false, ◌||◌}
use lib.Ieee.{Float, is_nan, neg, lt, le, eq, of_bits, add, sub, mul, div}
use Rattle.std.proofs.Math.Bool.{or_assoc, or-false}
use Rattle.std.proofs.lemmas.Bool.{or_parts}
use Rattle.arithmetic.specs.Constants.{n0, n1}
use Rattle.arithmetic.specs.Order.{clamp, size}
use Rattle.arithmetic.specs.Root.{root_of}
use Rattle.arithmetic.specs.Trigonometry.{arcsine, arctangent, arctangent_of_size, part, series}
use Rattle.arithmetic.specs.Vector.{norm, normalise}
use Rattle.arithmetic.specs.declared.vector.Vec2.{Vec2}
use Rattle.laws.specs.Navigation.{max_capture, least_leg, least_offset, difference, along, right_of, no_course, level}
use Rattle.laws.specs.Navigation.{track_by, track_accel, loiter_by, loiter_accel, lateral_accel}
use Rattle.laws.specs.Code.Steering.{track, tangent, line_by, line_of, bad_radius, with_centripetal, steer}
use Rattle.laws.specs.declared.navigation.Motion.{Motion}
use Rattle.laws.specs.declared.navigation.Tuning.{Tuning}
use Rattle.laws.specs.declared.navigation.Waypoint.{Waypoint}

-- ---- the capture angle past a ratio of 1

abbrev captured : Float → Float
captured ratio = clamp (arcsine ratio) (neg max_capture) max_capture

captured_left : captured (neg n1) ≡ neg max_capture
unfolding clamp arcsine arctangent arctangent_of_size part series root_of size is_nan neg lt le eq of_bits add sub mul div
captured_left = refl

captured_right : captured n1 ≡ max_capture
unfolding clamp arcsine arctangent arctangent_of_size part series root_of size is_nan neg lt le eq of_bits add sub mul div
captured_right = refl

pub past_left : (ratio : Float) → lt ratio (neg n1) ≡ true → captured (clamp ratio (neg n1) n1) ≡ neg max_capture
unfolding clamp
past_left ratio h = rw h captured_left

pub past_right : (ratio : Float) → lt ratio (neg n1) ≡ false → lt n1 ratio ≡ true → captured (clamp ratio (neg n1) n1) ≡ max_capture
unfolding clamp
past_right ratio h g = rw (h, g) captured_right

pub capture_ordered : lt max_capture (neg max_capture) ≡ false
unfolding lt neg of_bits
capture_ordered = refl

-- ---- one speed, one line

module _ (position velocity point : Vec2) (radius period damping : Float) where
  abbrev plane : Motion
  plane = record { position_m = position; velocity_mps = velocity; speed_mps = norm velocity }

  abbrev tuning : Tuning
  tuning = record { period_s = period; damping = damping }

  abbrev waypoint : Option Vec2 → Waypoint
  waypoint leg = record { leg = leg; point_m = point; radius_m = radius }

  -- the speed that track measures is the one handed to it
  known :
      no_course (norm velocity) ≡ false → (through : Vec2) (n : Option Vec2) →
      track_by position velocity through period damping n ≡ track plane tuning through n
  unfolding track_by track
  known h through None = refl
  known h through (Some d) = rw h

  no_track : no_course (norm velocity) ≡ true → (n : Option Vec2) → track_by position velocity point period damping n ≡ level true
  unfolding track_by
  no_track h None = refl
  no_track h (Some d) = rw h

  around :
      no_course (norm velocity) ≡ false → (n : Option Vec2) →
      steer plane (waypoint None) tuning (tangent (waypoint None) n) ≡ loiter_by position velocity point radius period damping n
  unfolding steer tangent with_centripetal loiter_by track_accel
  around h None = refl
  around h (Some outward) = rw (known h (along point outward radius) (normalise (right_of outward) least_leg))

  pub gives_up :
      (leg : Option Vec2) → no_course (norm velocity) || bad_radius leg radius ≡ true →
      lateral_accel leg position velocity point radius period damping ≡ level (no_course (norm velocity))
  unfolding bad_radius lateral_accel loiter_accel track_accel
  gives_up None h = rw (or_assoc (no_course (norm velocity)) (is_nan radius) (le radius n0), h)
  gives_up (Some d) h =
      let slow = sym (or-false (no_course (norm velocity))) ∙ h in
      rw slow (no_track slow (normalise d least_leg))

  pub steers :
      (leg : Option Vec2) → no_course (norm velocity) || bad_radius leg radius ≡ false →
      steer plane (waypoint leg) tuning (line_of (waypoint leg) position) ≡ lateral_accel leg position velocity point radius period damping
  unfolding bad_radius line_by lateral_accel loiter_accel track_accel steer with_centripetal
  steers None h =
      rw (or_assoc (no_course (norm velocity)) (is_nan radius) (le radius n0), h)
      (around (or_parts (no_course (norm velocity)) (is_nan radius || le radius n0) h).0 (normalise (difference position point) least_offset))
  steers (Some d) h = sym (known (or_parts (no_course (norm velocity)) false h).0 point (normalise d least_leg))
