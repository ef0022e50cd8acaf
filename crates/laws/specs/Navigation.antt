-- The L1 laws and the PI loop of navigation.rs: x is north, y east, right is positive. Definitions only.
use Rattle.std.specs.Prelude.{Bool, true, false, cond, ◌&&◌, ◌||◌, Float, Option, Some, None}
use Rattle.std.specs.Float.Ieee as Ieee
use Rattle.std.specs.Float.Ieee.{is_nan, neg}
use Rattle.arithmetic.specs.Constants.{f32, ◌+ᶠ◌, ◌-ᶠ◌, ◌·ᶠ◌, ◌/ᶠ◌, n0, n1, pi, frac_pi2, frac_pi4}
use Rattle.arithmetic.specs.Order.{greatest, clamp, finite, choose}
pub use Rattle.arithmetic.specs.Vector.{difference}
use Rattle.arithmetic.specs.Vector.{norm, dot, cross, normalise}
use Rattle.arithmetic.specs.Trigonometry.{sine, arcsine, arctangent, arctangent2}
use Rattle.arithmetic.specs.declared.vector.Vec2.{Vec2}
use Rattle.laws.specs.Math.{clamp_symmetric, all_finite}
use Rattle.laws.specs.Types.{gravity}
use Rattle.laws.specs.declared.navigation.Lateral.{Lateral}
use Rattle.laws.specs.declared.navigation.L1Gains.{L1Gains}
use Rattle.laws.specs.declared.navigation.PiLoop.{PiLoop}
use Rattle.laws.specs.declared.navigation.PiResult.{PiResult}

-- ---- constants

abbrev pub n4 : Float
n4 = f32 0x40800000  -- 4

abbrev pub least_leg : Float
least_leg = f32 0x358637bd  -- 1e-6

abbrev pub least_offset : Float
least_offset = f32 0x3a83126f  -- 1e-3

-- the largest angle back onto the path
abbrev pub max_capture : Float
max_capture = frac_pi4

-- ---- vectors

-- a + b · k
abbrev pub along : Vec2 → Vec2 → Float → Vec2
along a b k = record { x = a.x +ᶠ b.x ·ᶠ k; y = a.y +ᶠ b.y ·ᶠ k }

-- a quarter turn to the right, from north toward east
abbrev pub right_of : Vec2 → Vec2
right_of v = record { x = neg v.y; y = v.x }

-- ---- what both laws share

-- Ground speed below 1.0 or NaN: no course to follow.
unfoldable pub no_course : Float → Bool
no_course speed = is_nan speed || Ieee.lt speed n1

-- where a law gives up: wings level
abbrev pub level : Bool → Lateral
level idle = record { accel_mps2 = n0; cross_track_m = n0; idle = idle }

-- the L1 distance and the gain 4ζ² for a ground speed
unfoldable pub l1 : Float → Float → Float → L1Gains
l1 speed period damping = record { distance_m = damping ·ᶠ period ·ᶠ speed /ᶠ pi; gain = n4 ·ᶠ damping ·ᶠ damping }

-- the angle back toward the line: more the farther off it is
unfoldable pub capture : Float → Float → Float
capture cross_track distance =
    clamp (arcsine (clamp (cross_track /ᶠ distance) (neg n1) n1)) (neg max_capture) max_capture

-- Straight back, document 02's K5: the cross product is a zero of either sign and the dot is below 0.
abbrev pub tie : Vec2 → Vec2 → Bool
tie direction velocity = Ieee.eq (cross direction velocity) n0 && Ieee.lt (dot direction velocity) n0

-- the course relative to the line; at a tie -PI
unfoldable pub course : Vec2 → Vec2 → Float
course direction velocity =
    cond (tie direction velocity) (neg pi) (arctangent2 (cross direction velocity) (dot direction velocity))

-- ---- track

-- the angle steered, right positive: the course, and the angle back toward the line, at most a quarter turn
abbrev pub steered_rad : Vec2 → Vec2 → Vec2 → Vec2 → Float → Float
steered_rad position velocity point direction distance =
    clamp_symmetric (neg (capture (cross direction (difference position point)) distance) -ᶠ course direction velocity) frac_pi2

-- along a normalised direction, with a ground speed that has a course; a result that isn't finite: 0
unfoldable pub track_along : Vec2 → Vec2 → Vec2 → Vec2 → Float → Float → Float → Lateral
track_along position velocity point direction speed period damping =
    let gains = l1 speed period damping in
    let eta = steered_rad position velocity point direction gains.distance_m in
    let accel = gains.gain ·ᶠ speed ·ᶠ speed /ᶠ gains.distance_m ·ᶠ sine eta in
    record { accel_mps2 = choose (finite accel) accel n0; cross_track_m = cross direction (difference position point); idle = false }

-- by the leg's normalised direction: none, a leg of length up to 1e-6, gives 0 and is idle, as no course does
unfoldable pub track_by : Vec2 → Vec2 → Vec2 → Float → Float → Option Vec2 → Lateral
track_by position velocity point period damping None = level true
track_by position velocity point period damping (Some direction) =
    let speed = norm velocity in
    cond (no_course speed) (level true) (track_along position velocity point direction speed period damping)

-- the line through the point along the direction, which has any length
unfoldable pub track_accel : Vec2 → Vec2 → Vec2 → Vec2 → Float → Float → Lateral
track_accel position velocity point direction period damping =
    track_by position velocity point period damping (normalise direction least_leg)

-- ---- loiter

-- the circle's own acceleration
unfoldable pub centripetal : Float → Float → Float
centripetal speed radius = speed ·ᶠ speed /ᶠ radius

-- by the direction outward from the centre: within 1e-3 of it centripetal alone, else track on the tangent at the
-- circle's nearest point, and centripetal added
unfoldable pub loiter_by : Vec2 → Vec2 → Vec2 → Float → Float → Float → Option Vec2 → Lateral
loiter_by position velocity center radius period damping None =
    record { accel_mps2 = centripetal (norm velocity) radius; cross_track_m = n0; idle = false }
loiter_by position velocity center radius period damping (Some outward) =
    let tracked = track_accel position velocity (along center outward radius) (right_of outward) period damping in
    record {
      accel_mps2 = centripetal (norm velocity) radius +ᶠ tracked.accel_mps2;
      cross_track_m = tracked.cross_track_m;
      idle = false;
    }

-- clockwise around the centre; no course, or a radius that is NaN or not above 0: 0, idle without a course
unfoldable pub loiter_accel : Vec2 → Vec2 → Vec2 → Float → Float → Float → Lateral
loiter_accel position velocity center radius period damping =
    cond (no_course (norm velocity) || is_nan radius || Ieee.le radius n0) (level (no_course (norm velocity)))
    (loiter_by position velocity center radius period damping (normalise (difference position center) least_offset))

-- ---- track or loiter

-- the leg where it is present and finite
unfoldable pub finite_leg : Option Vec2 → Option Vec2
finite_leg None = None
finite_leg (Some v) = cond (all_finite v) (Some v) None

-- a leg is tracked; without one the point is the centre of a loiter
unfoldable pub lateral_accel : Option Vec2 → Vec2 → Vec2 → Vec2 → Float → Float → Float → Lateral
lateral_accel None position velocity point radius period damping = loiter_accel position velocity point radius period damping
lateral_accel (Some leg) position velocity point radius period damping = track_accel position velocity point leg period damping

-- ---- idle, document 02's K1: by the call's own numbers

-- a leg's length is at most 1e-6
abbrev pub short_leg : Option Vec2 → Bool
short_leg None = false
short_leg (Some leg) = Ieee.le (norm leg) least_leg

-- or the ground speed is below 1.0 or NaN
unfoldable pub idle : Option Vec2 → Vec2 → Bool
idle leg velocity = short_leg leg || no_course (norm velocity)

-- ---- distance off the line, document 02's K6: metres, right positive

-- the cross product of normalised leg and position minus its waypoint; +0 for a short leg
abbrev pub off_line : Vec2 → Vec2 → Option Vec2 → Float
off_line position point None = n0
off_line position point (Some direction) = cross direction (difference position point)

-- off a loiter's tangent line, by the direction outward from the centre; +0 within 1e-3 of it
abbrev pub off_tangent : Vec2 → Vec2 → Float → Option Vec2 → Float
off_tangent position center radius None = n0
off_tangent position center radius (Some outward) = off_line position (along center outward radius) (normalise (right_of outward) least_leg)

-- +0 also for a ground speed below 1.0 or NaN, and for a radius that is NaN or not above 0
unfoldable pub cross_track : Option Vec2 → Vec2 → Vec2 → Vec2 → Float → Float
cross_track None position velocity point radius =
    cond (no_course (norm velocity) || is_nan radius || Ieee.le radius n0) n0
    (off_tangent position point radius (normalise (difference position point) least_offset))
cross_track (Some leg) position velocity point radius =
    cond (no_course (norm velocity)) n0 (off_line position point (normalise leg least_leg))

-- ---- bank

-- the bank of a level turn at this acceleration; one that isn't finite is 0
unfoldable pub bank_for_accel : Float → Float
bank_for_accel accel = let bank = arctangent (accel /ᶠ gravity) in choose (finite bank) bank n0

-- ---- PI loop

-- the output pinned at a limit that the error pushes toward
unfoldable pub pi_pinned : Float → Float → Float → Float → Bool
pi_pinned unclamped error low high = (Ieee.le high unclamped && Ieee.lt n0 error) || (Ieee.le unclamped low && Ieee.lt error n0)

-- with a finite error: an integral that stops growing while pinned; a high below low reads as low
unfoldable pub pi_finite : PiLoop → Float → Float → Float → Float → Float → Float → Float → PiResult
pi_finite loop dt error p i maxIntegral low high =
    let top = greatest high low in
    let pinned = pi_pinned (p ·ᶠ error +ᶠ i ·ᶠ loop.integral) error low top in
    let integral = choose pinned loop.integral (clamp_symmetric (loop.integral +ᶠ error ·ᶠ dt) maxIntegral) in
    record { output = clamp (p ·ᶠ error +ᶠ i ·ᶠ integral) low top; pi = record { integral = integral } }

-- an error that isn't finite: the fallback, and the integral kept
unfoldable pub pi_step : PiLoop → Float → Float → Float → Float → Float → Float → Float → Float → PiResult
pi_step loop dt error p i maxIntegral low high fallback =
    cond (finite error) (pi_finite loop dt error p i maxIntegral low high) (record { output = fallback; pi = loop })
