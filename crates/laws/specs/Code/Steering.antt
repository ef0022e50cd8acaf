-- The L1 laws as the code works them out: the ground speed is measured once, and both laws come down to one line, so that track
-- is called in one place. The public functions answer by `Navigation`.
use Rattle.std.specs.Prelude.{Bool, true, false, ◌||◌, Float, Option, Some, None}
use Rattle.std.specs.Float.Ieee as Ieee
use Rattle.std.specs.Float.Ieee.{is_nan}
use Rattle.arithmetic.specs.Constants.{◌+ᶠ◌, n0}
use Rattle.arithmetic.specs.Vector.{normalise}
use Rattle.arithmetic.specs.declared.vector.Vec2.{Vec2}
use Rattle.laws.specs.Navigation.{least_leg, least_offset, difference, along, right_of, level, track_along, centripetal}
use Rattle.laws.specs.declared.navigation.Line.{Line}
use Rattle.laws.specs.declared.navigation.Motion.{Motion}
use Rattle.laws.specs.declared.navigation.Tuning.{Tuning}
use Rattle.laws.specs.declared.navigation.Waypoint.{Waypoint}
use Rattle.laws.specs.declared.navigation.Lateral.{Lateral}

-- track at a ground speed that has a course, along a line whose direction is normalised
abbrev pub along_line : Motion → Tuning → Line → Lateral
along_line plane tuning line =
    track_along plane.position_m plane.velocity_mps line.point line.direction plane.speed_mps tuning.period_s tuning.damping

-- and through a point, by the leg's normalised direction
unfoldable pub track : Motion → Tuning → Vec2 → Option Vec2 → Lateral
track plane tuning point None = level true
track plane tuning point (Some direction) = along_line plane tuning (record { point = point; direction = direction })

-- a loiter's line, by the direction outward from the centre: none within 1e-3 of it
unfoldable pub tangent : Waypoint → Option Vec2 → Option Line
tangent w None = None
tangent w (Some outward) = Some (record { point = along w.point_m outward w.radius_m; direction = right_of outward })

unfoldable pub line_by : Option Vec2 → Waypoint → Vec2 → Option Line
line_by None w position = tangent w (normalise (difference position w.point_m) least_offset)
line_by (Some leg) w position = Some (record { point = w.point_m; direction = leg })

abbrev pub line_of : Waypoint → Vec2 → Option Line
line_of w position = line_by w.leg w position

-- a loiter's radius that is NaN or not above 0
unfoldable pub bad_radius : Option Vec2 → Float → Bool
bad_radius None radius = is_nan radius || Ieee.le radius n0
bad_radius (Some leg) radius = false

-- what a loiter adds to track
unfoldable pub with_centripetal : Option Vec2 → Float → Float → Lateral → Lateral
with_centripetal None speed radius tracked =
    record {
      accel_mps2 = centripetal speed radius +ᶠ tracked.accel_mps2;
      cross_track_m = tracked.cross_track_m;
      idle = false;
    }
with_centripetal (Some leg) speed radius tracked = tracked

unfoldable pub steer : Motion → Waypoint → Tuning → Option Line → Lateral
steer plane w tuning None = record { accel_mps2 = centripetal plane.speed_mps w.radius_m; cross_track_m = n0; idle = false }
steer plane w tuning (Some line) =
    with_centripetal w.leg plane.speed_mps w.radius_m (track plane tuning line.point (normalise line.direction least_leg))
