-- Document 02, K4: one step of the simple plane over which the guidance is repeated. Definitions only.
use Rattle.std.specs.Prelude.{ℕ, Bool, cond, ◌&&◌, Float, Option, Some, None, Result, Ok, Err, ⊤}
use Rattle.refusals.specs.Numbers.{number}
use Rattle.refusals.specs.declared.Refusal.{Refusal}
use Rattle.std.specs.Float.Ieee as Ieee
use Rattle.std.specs.Float.Ieee.{neg}
use Rattle.arithmetic.specs.Constants.{◌+ᶠ◌, ◌-ᶠ◌, ◌·ᶠ◌, ◌/ᶠ◌, n0, n1, frac_pi2}
use Rattle.arithmetic.specs.Order.{clamp, finite}
use Rattle.arithmetic.specs.Trigonometry.{sine, cosine}
use Rattle.arithmetic.specs.Vector.{norm}
use Rattle.arithmetic.specs.declared.vector.Vec2.{Vec2}
use Rattle.laws.specs.Types.{gravity, north_east}
use Rattle.laws.specs.declared.types.Vec3.{Vec3}
use Rattle.laws.specs.declared.types.ControlInput.TheVariants as Input
use Rattle.laws.specs.declared.types.VehicleState.{VehicleState}
use Rattle.laws.specs.declared.types.Setpoint.{Setpoint}
use Rattle.laws.specs.declared.types.Setpoint.TheVariants as Set
use Rattle.guidance.specs.Plane.{WaypointCall, guided}
use Rattle.guidance.specs.declared.plane.PlaneGuidance.{PlaneGuidance}
use Rattle.guidance.specs.declared.plane.Guided.{Guided}
use Rattle.guidance.specs.declared.plane.Answer.{Answer}
use Rattle.guidance.specs.declared.plane.Answer.TheVariants.{Commanded, Waypoint}
use Rattle.path.specs.declared.model.Model.{Model}
use Rattle.path.specs.declared.model.Stop.{Stop}
use Rattle.path.specs.declared.model.Stop.TheVariants.{Refused, NotFinite}

-- ---- the plane

-- Turn rate: GRAVITY times sine over cosine of the answered roll, over ground speed, worked left to right, and 0 below 1.0 m/s.
unfoldable pub turn_rate : Float → Float → Float
turn_rate roll speed = cond (Ieee.lt speed n1) n0 (gravity ·ᶠ sine roll /ᶠ cosine roll /ᶠ speed)

-- The turn in a step, rate times dt, is clamped to ±FRAC_PI_2.
unfoldable pub turn_in_step : Float → Float → Float → Float
turn_in_step roll speed dt = clamp (turn_rate roll speed ·ᶠ dt) (neg frac_pi2) frac_pi2

-- Ground velocity (x, y) is turned right by it: x·cosine - y·sine, x·sine + y·cosine.
unfoldable pub turned_right : Vec3 → Float → Vec2
turned_right v turn = record {
  x = v.x ·ᶠ cosine turn -ᶠ v.y ·ᶠ sine turn;
  y = v.x ·ᶠ sine turn +ᶠ v.y ·ᶠ cosine turn;
}

-- airspeed, or the ground speed before the turn if there is none
abbrev pub speed_or : Option Float → Float → Float
speed_or None speed = speed
speed_or (Some airspeed) speed = airspeed

-- The model's roll becomes the answered one, climb becomes airspeed times sine of pitch, and position gains the new velocity
-- times dt.
unfoldable pub flown : VehicleState → Float → Float → Float → VehicleState
flown s dt roll pitch =
    let speed = norm (north_east s.velocity_mps) in
    let over_ground = turned_right s.velocity_mps (turn_in_step roll speed dt) in
    let climb = speed_or s.airspeed_mps speed ·ᶠ sine pitch in
    record {
      position_m = record {
        x = s.position_m.x +ᶠ over_ground.x ·ᶠ dt;
        y = s.position_m.y +ᶠ over_ground.y ·ᶠ dt;
        z = s.position_m.z +ᶠ climb ·ᶠ dt;
      };
      velocity_mps = record { x = over_ground.x; y = over_ground.y; z = climb };
      roll_rad = roll;
      airspeed_mps = s.airspeed_mps;
    }

-- ---- a step

unfoldable pub all_finite : Vec3 → Bool
all_finite v = finite v.x && finite v.y && finite v.z

-- the plane's position and velocity are
abbrev pub finite_plane : VehicleState → Bool
finite_plane s = all_finite s.position_m && all_finite s.velocity_mps

-- a position or velocity number that isn't finite stops the path
unfoldable pub settled : PlaneGuidance → VehicleState → Result Model Stop
settled g s = cond (finite_plane s) (Ok (record { guidance = g; state = s })) (Err NotFinite)

-- a waypoint answers roll, pitch and thrust; no rates
abbrev pub by_setpoint : VehicleState → Float → PlaneGuidance → Setpoint → Result Model Stop
by_setpoint s dt g (Set.Plane roll pitch thrust) = settled g (flown s dt roll pitch)
by_setpoint s dt g (Set.PlaneRate roll pitch yaw thrust) = Err NotFinite

-- a refusal stops the path
abbrev pub by_answer : VehicleState → Float → PlaneGuidance → Result Answer Refusal → Result Model Stop
by_answer s dt g (Err why) = Err (Refused why)
by_answer s dt g (Ok (Commanded p)) = by_setpoint s dt g p
by_answer s dt g (Ok (Waypoint a)) = by_setpoint s dt g a.setpoint

-- the guidance's answer to the waypoint at the model's state; "all else in the call stays"
abbrev pub answer_at : WaypointCall → Model → Guided
answer_at k m = guided m.guidance k.dt k.regime (Input.Waypoint k.command) m.state k.cap

-- the model after a step, or why the path stops
unfoldable pub step : WaypointCall → Model → Result Model Stop
step k m = by_answer m.state k.dt (answer_at k m).guidance (answer_at k m).answer

-- in place: a step that stops leaves the model as it was
abbrev pub moved : Model → Result Model Stop → Model
moved m (Ok next) = next
moved m (Err why) = m

abbrev pub whether_moved : Result Model Stop → Result ⊤ Stop
whether_moved (Ok next) = Ok tt
whether_moved (Err why) = Err why

-- the refusal's number, and 0 for a number that isn't finite
abbrev pub stop_number : Stop → ℕ
stop_number (Refused why) = number why
stop_number NotFinite = 0
