-- What `new` and `guide_capped` promise: the equation over the definitions, and beside it document 01's number and values
-- of each answer, by its own conditions.
use Rattle.std.specs.Prelude.{ℕ, ◌≡◌, Bool, true, false, cond, ◌&&◌, List, [], ◌∷◌, eqb, Float, Option, Result, Ok, Err}
use Rattle.laws.specs.Config.{validate}
use Rattle.laws.specs.declared.config.PlaneGuidanceConfig.{PlaneGuidanceConfig}
use Rattle.laws.specs.declared.config.InvalidConfig.{InvalidConfig}
use Rattle.laws.specs.declared.types.ControlInput.{ControlInput}
use Rattle.laws.specs.declared.types.ControlInput.TheVariants as Input
use Rattle.laws.specs.declared.types.WaypointCommand.{WaypointCommand}
use Rattle.laws.specs.declared.types.FlightRegime.{FlightRegime}
use Rattle.laws.specs.declared.types.VehicleState.{VehicleState}
use Rattle.guidance.specs.Plane.{
  is_waypoint,
  created,
  sticks,
  rates,
  absolute_attitude,
  absolute_rate,
  neutral,
  vertical_law,
  vertical,
  roll_of,
  cross_track_of,
  all_finite,
  bad_time_step,
  bad_cap,
  guided,
  refusal_number,
  setpoint_values,
  answer_values,
}
use Rattle.guidance.specs.declared.plane.PlaneGuidance.{PlaneGuidance}
use Rattle.guidance.specs.declared.plane.Guided.{Guided}
use Rattle.guidance.specs.declared.plane.Vertical.{Vertical}

-- ---- new

-- the failing field's number, or 0
abbrev pub created_field : Result PlaneGuidance InvalidConfig → ℕ
created_field (Ok g) = 0
created_field (Err e) = e.field

pub record Creates (c : PlaneGuidanceConfig) (r : Result PlaneGuidance InvalidConfig) : Type 0 where
  pub is : r ≡ created c
  -- Number 1: the first failing field's number.
  pub number : created_field r ≡ validate c

-- ---- guide

-- what the vertical law would answer and store
abbrev pub would_give : PlaneGuidance → Float → WaypointCommand → VehicleState → Option Float → Vertical
would_give g dt w s cap = vertical (vertical_law dt w s) g.config g.altitude g.tecs dt w s cap

-- a waypoint's pitch, thrust and every number it would store would be finite; no other command is asked
abbrev pub would_be_finite : PlaneGuidance → Float → ControlInput → VehicleState → Option Float → Bool
would_be_finite g dt (Input.Attitude k) s cap = true
would_be_finite g dt (Input.Rate k) s cap = true
would_be_finite g dt (Input.Waypoint w) s cap = all_finite (would_give g dt w s cap)
would_be_finite g dt (Input.AbsoluteAttitude k) s cap = true
would_be_finite g dt Input.Land s cap = true
would_be_finite g dt (Input.AbsoluteRate k) s cap = true

-- Numbers 2, 3 and 4, in checking order; 0 is no refusal.
abbrev pub guide_number : PlaneGuidance → Float → ControlInput → VehicleState → Option Float → ℕ
guide_number g dt input s cap =
    cond (bad_time_step dt) 2
    (cond (is_waypoint input && bad_cap cap) 3
    (cond (would_be_finite g dt input s cap) 0
    4))

-- the setpoint's numbers, of an accepted call; a waypoint's distance off its line too
abbrev pub accepted_values : PlaneGuidance → Float → ControlInput → VehicleState → Option Float → List Float
accepted_values g dt (Input.Attitude k) s cap = setpoint_values (sticks g.config k)
accepted_values g dt (Input.Rate k) s cap = setpoint_values (rates g.config k)
accepted_values g dt (Input.Waypoint w) s cap =
    let v = would_give g dt w s cap in
    roll_of g.config w s ∷ v.pitch_rad ∷ v.thrust ∷ cross_track_of g.config w s ∷ []
accepted_values g dt (Input.AbsoluteAttitude k) s cap = setpoint_values (absolute_attitude k)
accepted_values g dt Input.Land s cap = setpoint_values neutral
accepted_values g dt (Input.AbsoluteRate k) s cap = setpoint_values (absolute_rate k)

pub record Guides (g : PlaneGuidance) (dt : Float) (regime : FlightRegime) (input : ControlInput) (s : VehicleState) (cap : Option Float) (r : Guided) : Type 0 where
  pub is : r ≡ guided g dt regime input s cap
  pub number : refusal_number r.answer ≡ guide_number g dt input s cap
  pub values : answer_values r.answer ≡ cond (eqb (guide_number g dt input s cap) 0) (accepted_values g dt input s cap) []
  -- a refusal returns the guidance as it was
  pub kept : eqb (guide_number g dt input s cap) 0 ≡ false → r.guidance ≡ g
