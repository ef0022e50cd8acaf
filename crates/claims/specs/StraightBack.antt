-- Document 02, K5: straight back the plane turns right. At a tie the angle steered is FRAC_PI_2 to the right, the roll of a waypoint is
-- never below 0, and it is above 0 for every valid configuration but for what is named here. Definitions only.
use Rattle.std.specs.Prelude.{◌≡◌, Bool, true, false, cond, not, ◌||◌, T, Float, Option, Some, None, Result, Ok, Err}
use Rattle.refusals.specs.declared.Refusal.{Refusal}
use Rattle.std.specs.Float.Ieee as Ieee
use Rattle.std.specs.Float.{nan, binary32}
use Rattle.std.specs.Float.Ieee.{is_nan, fits}
use Rattle.arithmetic.specs.Constants.{◌·ᶠ◌, ◌/ᶠ◌, n0, frac_pi2}
use Rattle.arithmetic.specs.Order.{finite}
use Rattle.arithmetic.specs.Trigonometry.{sine}
use Rattle.arithmetic.specs.Vector.{norm, cross, normalise}
use Rattle.arithmetic.specs.declared.vector.Vec2.{Vec2}
use Rattle.laws.specs.Config.{validate}
use Rattle.laws.specs.Types.{gravity, north_east}
use Rattle.laws.specs.Navigation.{least_leg, least_offset, difference, right_of, no_course, l1, capture, tie, steered_rad, finite_leg}
use Rattle.laws.specs.declared.config.PlaneGuidanceConfig.{PlaneGuidanceConfig}
use Rattle.laws.specs.declared.types.ControlInput.TheVariants as Input
use Rattle.laws.specs.declared.types.FlightRegime.{FlightRegime}
use Rattle.laws.specs.declared.types.Setpoint.{Setpoint}
use Rattle.laws.specs.declared.types.Setpoint.TheVariants as Set
use Rattle.laws.specs.declared.types.WaypointCommand.{WaypointCommand}
use Rattle.laws.specs.declared.types.VehicleState.{VehicleState}
use Rattle.guidance.specs.Plane.{roll_of, guided}
use Rattle.guidance.specs.declared.plane.PlaneGuidance.{PlaneGuidance}
use Rattle.guidance.specs.declared.plane.Answer.{Answer}
use Rattle.guidance.specs.declared.plane.Answer.TheVariants.{Commanded, Waypoint}

-- ---- a tie

abbrev pub position : VehicleState → Vec2
position s = north_east s.position_m

abbrev pub velocity : VehicleState → Vec2
velocity s = north_east s.velocity_mps

-- on a leg, which is present and finite: it has a normalised direction, the ground speed is at least 1, and the velocity is straight
-- back along the direction
pub record TieOnLeg (w : WaypointCommand) (s : VehicleState) (direction : Vec2) : Type 0 where
  pub leg : Vec2
  pub present : finite_leg w.velocity_mps ≡ Some leg
  pub normalised : normalise leg least_leg ≡ Some direction
  pub under_way : no_course (norm (velocity s)) ≡ false
  pub straight_back : tie direction (velocity s) ≡ true

-- on a loiter's tangent: there is no finite leg, the plane is more than 1e-3 off the centre, and the tangent's direction is a quarter turn
-- to the right of the direction outward
pub record TieOnTangent (w : WaypointCommand) (s : VehicleState) (direction : Vec2) : Type 0 where
  pub outward : Vec2
  pub no_leg : finite_leg w.velocity_mps ≡ None
  pub off_centre : normalise (difference (position s) w.position_m) least_offset ≡ Some outward
  pub normalised : normalise (right_of outward) least_leg ≡ Some direction
  pub under_way : no_course (norm (velocity s)) ≡ false
  pub straight_back : tie direction (velocity s) ≡ true

-- ---- the angle steered

-- At a tie, for a zero of either sign, it is FRAC_PI_2 to the right exactly, for every position, velocity, point, direction and L1
-- distance, and so on a leg and on a loiter's tangent; it is NaN where the capture angle is, which is the one exception.
abbrev pub SteersRight : Type 0
SteersRight =
    (position velocity point direction : Vec2) (distance : Float) → tie direction velocity ≡ true →
    steered_rad position velocity point direction distance
    ≡ cond (is_nan (capture (cross direction (difference position point)) distance)) nan frac_pi2

-- The capture angle is NaN exactly where the distance off the line over the L1 distance is.
abbrev pub NoCapture : Type 0
NoCapture = (cross_track distance : Float) → is_nan (capture cross_track distance) ≡ is_nan (cross_track /ᶠ distance)

-- ---- what leaves the roll a zero

-- max_bank_rad is a zero
abbrev pub no_bank : PlaneGuidanceConfig → Bool
no_bank c = Ieee.eq c.max_bank_rad n0

-- the angle back toward the leg
abbrev pub capture_angle : PlaneGuidanceConfig → WaypointCommand → VehicleState → Vec2 → Float
capture_angle c w s direction =
    capture (cross direction (difference (position s) w.position_m))
    (l1 (norm (velocity s)) c.l1_period_s c.l1_damping).distance_m

-- the acceleration of a quarter turn to the right
abbrev pub quarter_turn : PlaneGuidanceConfig → VehicleState → Float
quarter_turn c s =
    let speed = norm (velocity s) in
    let gains = l1 speed c.l1_period_s c.l1_damping in
    gains.gain ·ᶠ speed ·ᶠ speed /ᶠ gains.distance_m ·ᶠ sine frac_pi2

-- On a leg: the capture angle is NaN, or the acceleration is not finite, which the law makes 0, or over gravity it rounds to 0.
abbrev pub no_turn : PlaneGuidanceConfig → WaypointCommand → VehicleState → Vec2 → Bool
no_turn c w s direction = is_nan (capture_angle c w s direction) || not (finite (quarter_turn c s)) || Ieee.eq (quarter_turn c s /ᶠ gravity) n0

-- ---- the claim

-- the roll is a number that is not below 0, and above 0 exactly where nothing leaves it a zero
pub record TurnsRight (roll : Float) (none : Bool) : Type 0 where
  pub never_left : Ieee.le n0 roll ≡ true
  pub right : Ieee.lt n0 roll ≡ not none

abbrev pub SetpointTurnsRight : Setpoint → Bool → Type 0
SetpointTurnsRight (Set.Plane roll pitch thrust) none = TurnsRight roll none
SetpointTurnsRight (Set.PlaneRate roll pitch yaw thrust) none = ⊥

-- a waypoint's answer is a refusal, or a plane's setpoint with such a roll
abbrev pub AnswerTurnsRight : Result Answer Refusal → Bool → Type 0
AnswerTurnsRight (Err why) none = Unit {0}
AnswerTurnsRight (Ok (Commanded t)) none = ⊥
AnswerTurnsRight (Ok (Waypoint a)) none = SetpointTurnsRight a.setpoint none

-- the waypoint's roll by this configuration, and so the answer of every guidance that has it
pub record RollsRight (c : PlaneGuidanceConfig) (w : WaypointCommand) (s : VehicleState) (none : Bool) : Type 0 where
  pub roll : TurnsRight (roll_of c w s) none
  pub answer :
      (g : PlaneGuidance) (dt : Float) (regime : FlightRegime) (cap : Option Float) → g.config ≡ c →
      AnswerTurnsRight (guided g dt regime (Input.Waypoint w) s cap).answer none

-- on a leg
abbrev pub LegTurnsRight : Type 0
LegTurnsRight =
    (c : PlaneGuidanceConfig) (w : WaypointCommand) (s : VehicleState) (direction : Vec2) → validate c ≡ 0 →
    TieOnLeg w s direction → RollsRight c w s (no_bank c || no_turn c w s direction)

-- On a loiter's tangent max_bank_rad alone can leave it a zero: the circle's own acceleration is added, which does not round to 0 at a
-- ground speed of at least 1 and a radius that is an f32.
abbrev pub TangentTurnsRight : Type 0
TangentTurnsRight =
    (c : PlaneGuidanceConfig) (w : WaypointCommand) (s : VehicleState) (direction : Vec2) → validate c ≡ 0 →
    T (fits binary32 c.loiter_radius_m) → TieOnTangent w s direction → RollsRight c w s (no_bank c)
