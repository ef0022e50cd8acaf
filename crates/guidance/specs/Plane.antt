-- The calls on a guidance, plane.rs. Definitions only.
use Rattle.std.specs.Prelude.{ℕ, Bool, true, false, cond, not, ◌&&◌, List, [], ◌∷◌, ◌++◌, eqb, Float, Option, Some, None, Result, Ok, Err}
use Rattle.std.specs.Float.Ieee as Ieee
use Rattle.std.specs.Float.Ieee.{neg}
use Rattle.refusals.specs.Numbers.{number}
use Rattle.refusals.specs.declared.Refusal.{Refusal}
use Rattle.refusals.specs.declared.Refusal.TheVariants as reason
use Rattle.arithmetic.specs.Constants.{◌+ᶠ◌, ◌-ᶠ◌, ◌·ᶠ◌, n0}
use Rattle.arithmetic.specs.Order.{least, greatest, clamp, finite, choose}
use Rattle.arithmetic.specs.declared.vector.Vec2.{Vec2}
use Rattle.laws.specs.Config.{check_positive, validate, default}
use Rattle.laws.specs.Math.{clamp_symmetric, saturate_unit, saturate_throttle}
use Rattle.laws.specs.Types.{valid_airspeed, north_east}
use Rattle.laws.specs.Navigation.{finite_leg, lateral_accel, idle, cross_track, bank_for_accel, pi_step}
use Rattle.laws.specs.Tecs.{reset, all_inputs_finite, hold, energy_step, flag}
use Rattle.laws.specs.declared.config.PlaneGuidanceConfig.{PlaneGuidanceConfig}
use Rattle.laws.specs.declared.config.InvalidConfig.{InvalidConfig}
use Rattle.laws.specs.declared.navigation.PiLoop.{PiLoop}
use Rattle.laws.specs.declared.tecs.Tecs.{Tecs}
use Rattle.laws.specs.declared.tecs.Limits.{Limits}
use Rattle.laws.specs.declared.tecs.Inputs.{Inputs}
use Rattle.laws.specs.declared.tecs.TecsResult.{TecsResult}
use Rattle.laws.specs.declared.types.AttitudeCommand.{AttitudeCommand}
use Rattle.laws.specs.declared.types.RateCommand.{RateCommand}
use Rattle.laws.specs.declared.types.WaypointCommand.{WaypointCommand}
use Rattle.laws.specs.declared.types.AbsoluteAttitudeCommand.{AbsoluteAttitudeCommand}
use Rattle.laws.specs.declared.types.AbsoluteRateCommand.{AbsoluteRateCommand}
use Rattle.laws.specs.declared.types.ControlInput.{ControlInput}
use Rattle.laws.specs.declared.types.ControlInput.TheVariants as Input
use Rattle.laws.specs.declared.types.FlightRegime.{FlightRegime}
use Rattle.laws.specs.declared.types.FlightRegime.TheVariants as Regime
use Rattle.laws.specs.declared.types.VehicleState.{VehicleState}
use Rattle.laws.specs.declared.types.Setpoint.{Setpoint}
use Rattle.laws.specs.declared.types.Setpoint.TheVariants as Set
use Rattle.guidance.specs.declared.plane.Former.{Former}
use Rattle.guidance.specs.declared.plane.PlaneGuidance.{PlaneGuidance}
use Rattle.guidance.specs.declared.plane.GuideCall.{GuideCall}
use Rattle.guidance.specs.declared.plane.LateralLaw.{LateralLaw}
use Rattle.guidance.specs.declared.plane.LateralLaw.TheVariants.{Track, Loiter, Idle}
use Rattle.guidance.specs.declared.plane.VerticalLaw.{VerticalLaw}
use Rattle.guidance.specs.declared.plane.VerticalLaw.TheVariants.{Energy, Hold, Fallback}
use Rattle.guidance.specs.declared.plane.Steered.{Steered}
use Rattle.guidance.specs.declared.plane.Answer.{Answer}
use Rattle.guidance.specs.declared.plane.Answer.TheVariants.{Commanded, Waypoint}
use Rattle.guidance.specs.declared.plane.Guided.{Guided}
use Rattle.guidance.specs.declared.plane.Vertical.{Vertical}
use Rattle.guidance.specs.declared.plane.FlightMode.TheVariants as Mode
use Rattle.guidance.specs.declared.plane.ModeRefusal.TheVariants as Why
use Rattle.guidance.specs.declared.plane.FlightModeReport.{FlightModeReport}

-- a waypoint's call
abbrev pub WaypointCall : Type 0
WaypointCall = GuideCall WaypointCommand

-- ---- a fresh guidance, prime and set-configuration

-- the requested regime as a stored number: 0 copter, 1 plane
abbrev pub regime_number : FlightRegime → ℕ
regime_number Regime.Copter = 0
regime_number Regime.Plane = 1

-- PiLoop::default
abbrev pub no_integral : PiLoop
no_integral = record { integral = n0 }

-- Document 02, K11: no change is left to take back; the numbers are the default configuration's.
unfoldable pub no_former : Former
no_former = record { kept = 0; config = default }

-- what `new` makes of a valid configuration
unfoldable pub fresh : PlaneGuidanceConfig → PlaneGuidance
fresh c = record { config = c; requested = 1; altitude = no_integral; tecs = reset; former = no_former }

-- this guidance where the configuration is valid, else number 1 with the failing field
abbrev pub if_valid : PlaneGuidanceConfig → PlaneGuidance → Result PlaneGuidance InvalidConfig
if_valid c g = cond (eqb (validate c) 0) (Ok g) (Err (record { field = validate c }))

-- new
unfoldable pub created : PlaneGuidanceConfig → Result PlaneGuidance InvalidConfig
created c = if_valid c (fresh c)

-- the energy state and the altitude loop as `new` makes them, with this requested regime
unfoldable pub cleared : PlaneGuidance → ℕ → PlaneGuidance
cleared g regime = record { config = g.config; requested = regime; altitude = no_integral; tecs = reset; former = g.former }

-- prime
unfoldable pub primed : PlaneGuidance → PlaneGuidance
primed g = cleared g g.requested

-- this guidance's configurations, and the rest as it is after a call
abbrev pub taken_over : PlaneGuidance → PlaneGuidance → PlaneGuidance
taken_over g after = record { config = g.config; requested = after.requested; altitude = after.altitude; tecs = after.tecs; former = g.former }

-- An accepted change: the configuration that it replaces is kept.
unfoldable pub with_config : PlaneGuidance → PlaneGuidanceConfig → PlaneGuidance
with_config g c = record {
  config = c;
  requested = g.requested;
  altitude = g.altitude;
  tecs = g.tecs;
  former = record { kept = 1; config = g.config };
}

-- set-configuration
unfoldable pub configured : PlaneGuidance → PlaneGuidanceConfig → Result PlaneGuidance InvalidConfig
configured g c = if_valid c (with_config g c)

-- the kept configuration in force again, and forgotten
unfoldable pub restored : PlaneGuidance → PlaneGuidance
restored g = record { config = g.former.config; requested = g.requested; altitude = g.altitude; tecs = g.tecs; former = no_former }

-- take-back: the guidance after it, or number 14 where no change is left to take back
unfoldable pub taken_back : PlaneGuidance → Result PlaneGuidance Refusal
taken_back g = cond (flag g.former.kept) (Ok (restored g)) (Err reason.NothingToTakeBack)

-- flight_mode, as FlightModeReport::plane_only: always plane, and a copter request is unsupported
unfoldable pub flight_mode : PlaneGuidance → FlightModeReport
flight_mode g = record { mode = Mode.Plane; refusal = cond (flag g.requested) None (Some Why.Unsupported) }

-- K12's report, whether the stall guard stands: underspeed
abbrev pub stall_guard : PlaneGuidance → Bool
stall_guard g = flag g.tecs.underspeed

-- ---- commands other than a waypoint

-- sticks to bank and pitch
unfoldable pub sticks : PlaneGuidanceConfig → AttitudeCommand → Setpoint
sticks c k =
    let pitch = saturate_unit k.pitch in
    Set.Plane (saturate_unit k.roll ·ᶠ c.max_bank_rad)
    (pitch ·ᶠ choose (Ieee.le n0 pitch) c.max_pitch_up_rad c.max_pitch_down_rad)
    (saturate_throttle k.throttle)

-- sticks to body rates
unfoldable pub rates : PlaneGuidanceConfig → RateCommand → Setpoint
rates c k =
    Set.PlaneRate (saturate_unit k.roll_rate ·ᶠ c.max_rate_radps.x)
    (saturate_unit k.pitch_rate ·ᶠ c.max_rate_radps.y)
    (saturate_unit k.yaw_rate ·ᶠ c.max_rate_radps.z)
    (saturate_throttle k.throttle)

-- absolute commands: angles and rates unchecked, thrust saturated
unfoldable pub absolute_attitude : AbsoluteAttitudeCommand → Setpoint
absolute_attitude k = Set.Plane k.roll_rad k.pitch_rad (saturate_throttle k.thrust)

unfoldable pub absolute_rate : AbsoluteRateCommand → Setpoint
absolute_rate k = Set.PlaneRate k.roll_radps k.pitch_radps k.yaw_radps (saturate_throttle k.thrust)

-- land: level, no thrust
abbrev pub neutral : Setpoint
neutral = Set.Plane n0 n0 n0

abbrev pub is_waypoint : ControlInput → Bool
is_waypoint (Input.Attitude k) = false
is_waypoint (Input.Rate k) = false
is_waypoint (Input.Waypoint w) = true
is_waypoint (Input.AbsoluteAttitude k) = false
is_waypoint Input.Land = false
is_waypoint (Input.AbsoluteRate k) = false

-- ---- a waypoint's laws, by the call's own numbers

-- a number where there is one, else +0
abbrev pub or_zero : Option Float → Float
or_zero None = n0
or_zero (Some x) = x

abbrev pub present : Option Float → Bool
present None = false
present (Some x) = true

abbrev pub leg_law : Option Vec2 → LateralLaw
leg_law None = Loiter
leg_law (Some leg) = Track

abbrev pub lateral_of : Bool → Option Vec2 → LateralLaw
lateral_of idle leg = cond idle Idle (leg_law leg)

-- idle (document 02, K1); else track (finite leg) or loiter
unfoldable pub lateral_law : WaypointCommand → VehicleState → LateralLaw
lateral_law w s =
    let leg = finite_leg w.velocity_mps in
    lateral_of (idle leg (north_east s.velocity_mps)) leg

-- Energy path: cruise speed above 0 and airspeed present and >= 0.
unfoldable pub on_energy_path : WaypointCommand → VehicleState → Bool
on_energy_path w s = Ieee.lt n0 w.cruise_speed_mps && present (valid_airspeed s)

-- what the energy step reads
unfoldable pub inputs : Float → WaypointCommand → VehicleState → Inputs
inputs dt w s = record {
  dt = dt;
  altitude_m = w.altitude_m;
  airspeed_target_mps = w.cruise_speed_mps;
  airspeed_mps = or_zero (valid_airspeed s);
  height_m = s.position_m.z;
  climb_mps = s.velocity_mps.z;
  roll_rad = s.roll_rad;
}

-- energy, or a hold where an input is not finite; otherwise fallback
unfoldable pub vertical_law : Float → WaypointCommand → VehicleState → VerticalLaw
vertical_law dt w s = cond (on_energy_path w s) (cond (all_inputs_finite (inputs dt w s)) Energy Hold) Fallback

-- ---- the limits of a waypoint

abbrev pub capped : Float → Option Float → Float
capped limit None = limit
capped limit (Some cap) = least limit cap

-- The thrust span's top. No valid configuration has the limits crossed (document 02, K8); at equal ones `greatest` gives the least
-- thrust, which settles the sign of a zero.
unfoldable pub top_thrust : PlaneGuidanceConfig → Float
top_thrust c = greatest c.max_thrust c.min_thrust

unfoldable pub limits_of : PlaneGuidanceConfig → Option Float → Limits
limits_of c cap = record {
  pitch_up_rad = capped c.max_pitch_up_rad cap;
  pitch_down_rad = capped c.max_pitch_down_rad cap;
  trim_pitch_rad = c.trim_pitch_rad;
  min_thrust = c.min_thrust;
  max_thrust = top_thrust c;
  cruise_thrust = c.cruise_thrust;
}

-- ---- a waypoint

-- the bank of the lateral law, within ±max_bank_rad
unfoldable pub roll_of : PlaneGuidanceConfig → WaypointCommand → VehicleState → Float
roll_of c w s =
    let lateral =
    lateral_accel (finite_leg w.velocity_mps) (north_east s.position_m) (north_east s.velocity_mps) w.position_m
    c.loiter_radius_m c.l1_period_s c.l1_damping
    in
    clamp_symmetric (bank_for_accel lateral.accel_mps2) c.max_bank_rad

-- the distance off its line (document 02, K6)
unfoldable pub cross_track_of : PlaneGuidanceConfig → WaypointCommand → VehicleState → Float
cross_track_of c w s =
    cross_track (finite_leg w.velocity_mps) (north_east s.position_m) (north_east s.velocity_mps) w.position_m
    c.loiter_radius_m

-- what the lateral law answers
abbrev pub steered : PlaneGuidanceConfig → WaypointCommand → VehicleState → Steered
steered c w s = record { law = lateral_law w s; roll_rad = roll_of c w s; cross_track_m = cross_track_of c w s }

-- energy path: the altitude loop is cleared
abbrev pub on_path : TecsResult → Vertical
on_path o = record { pitch_rad = o.pitch_rad; thrust = o.thrust; altitude = no_integral; tecs = o.tecs }

unfoldable pub height_error : WaypointCommand → VehicleState → Float
height_error w s = w.altitude_m -ᶠ s.position_m.z

-- fallback: pitch holds the altitude, thrust is cruise and a climb's share; the energy state is cleared
unfoldable pub fallback : PlaneGuidanceConfig → PiLoop → Float → WaypointCommand → VehicleState → Option Float → Vertical
fallback c altitude dt w s cap =
    let limits = limits_of c cap in
    let trim = c.trim_pitch_rad in
    let r =
    pi_step altitude dt (height_error w s) c.altitude_p c.altitude_i c.altitude_max_integral
    (neg limits.pitch_down_rad -ᶠ trim) (limits.pitch_up_rad -ᶠ trim) n0
    in
    let pitch = trim +ᶠ r.output in
    record {
      pitch_rad = pitch;
      thrust = clamp (c.cruise_thrust +ᶠ c.climb_thrust_per_rad ·ᶠ (pitch -ᶠ trim)) limits.min_thrust limits.max_thrust;
      altitude = r.pi;
      tecs = reset;
    }

-- what the vertical law would answer and store
unfoldable pub vertical : VerticalLaw → PlaneGuidanceConfig → PiLoop → Tecs → Float → WaypointCommand → VehicleState → Option Float → Vertical
vertical Energy c altitude tecs dt w s cap = on_path (energy_step tecs c.tecs (limits_of c cap) (inputs dt w s))
vertical Hold c altitude tecs dt w s cap = on_path (hold tecs (limits_of c cap))
vertical Fallback c altitude tecs dt w s cap = fallback c altitude dt w s cap

abbrev pub finite_state : Tecs → Bool
finite_state t =
    finite t.demand.slewed_height_m && finite t.demand.height_m && finite t.demand.airspeed_mps
    && finite t.pitch_integral_rad && finite t.thrust_integral
    && finite t.filtered_airspeed_mps && finite t.steady_accel_mps2

-- pitch, thrust and every number that would be stored are finite
unfoldable pub all_finite : Vertical → Bool
all_finite v = finite v.pitch_rad && finite v.thrust && finite v.altitude.integral && finite_state v.tecs

-- ---- refusals

-- Number 2: the time step is not finite or not above 0.
abbrev pub bad_time_step : Float → Bool
bad_time_step dt = not (check_positive dt)

-- Number 3: the cap is below 0; -0 passes, NaN means no cap.
abbrev pub bad_cap : Option Float → Bool
bad_cap None = false
bad_cap (Some cap) = Ieee.lt cap n0

-- a refusal returns the guidance as it was
abbrev pub refusal : PlaneGuidance → Refusal → Guided
refusal g why = record { guidance = g; answer = Err why }

-- ---- guide

-- an accepted command other than a waypoint leaves the energy state and the altitude loop as `new` makes them
unfoldable pub commanded : PlaneGuidance → FlightRegime → Setpoint → Guided
commanded g regime setpoint = record { guidance = cleared g (regime_number regime); answer = Ok (Commanded setpoint) }

abbrev pub flown : PlaneGuidance → FlightRegime → Steered → VerticalLaw → Vertical → Guided
flown g regime lateral law v = record {
  guidance = record { config = g.config; requested = regime_number regime; altitude = v.altitude; tecs = v.tecs; former = g.former };
  answer = Ok (Waypoint (record {
    setpoint = Set.Plane lateral.roll_rad v.pitch_rad v.thrust;
    laws = record { lateral = lateral.law; vertical = law };
    cross_track_m = lateral.cross_track_m;
  }));
}

-- Number 4: pitch, thrust or a number that would be stored would not be finite.
abbrev pub settled : PlaneGuidance → FlightRegime → Steered → VerticalLaw → Vertical → Guided
settled g regime lateral law v = cond (all_finite v) (flown g regime lateral law v) (refusal g reason.NotFinite)

unfoldable pub waypoint : PlaneGuidance → Float → FlightRegime → WaypointCommand → VehicleState → Option Float → Guided
waypoint g dt regime w s cap =
    let law = vertical_law dt w s in
    cond (bad_cap cap) (refusal g reason.PitchCap)
    (settled g regime (steered g.config w s) law (vertical law g.config g.altitude g.tecs dt w s cap))

unfoldable pub obeyed : PlaneGuidance → Float → FlightRegime → ControlInput → VehicleState → Option Float → Guided
obeyed g dt regime (Input.Attitude k) s cap = commanded g regime (sticks g.config k)
obeyed g dt regime (Input.Rate k) s cap = commanded g regime (rates g.config k)
obeyed g dt regime (Input.Waypoint w) s cap = waypoint g dt regime w s cap
obeyed g dt regime (Input.AbsoluteAttitude k) s cap = commanded g regime (absolute_attitude k)
obeyed g dt regime Input.Land s cap = commanded g regime neutral
obeyed g dt regime (Input.AbsoluteRate k) s cap = commanded g regime (absolute_rate k)

-- guide_capped, the reference answer
unfoldable pub guided : PlaneGuidance → Float → FlightRegime → ControlInput → VehicleState → Option Float → Guided
guided g dt regime input s cap = cond (bad_time_step dt) (refusal g reason.TimeStep) (obeyed g dt regime input s cap)

-- ---- document 01's number and values of each answer

-- the refusal's number, or 0
abbrev pub refusal_number : Result Answer Refusal → ℕ
refusal_number (Ok a) = 0
refusal_number (Err why) = number why

-- roll, pitch, thrust; or roll, pitch, yaw, thrust
abbrev pub setpoint_values : Setpoint → List Float
setpoint_values (Set.Plane roll pitch thrust) = roll ∷ pitch ∷ thrust ∷ []
setpoint_values (Set.PlaneRate roll pitch yaw thrust) = roll ∷ pitch ∷ yaw ∷ thrust ∷ []

abbrev pub answer_values : Result Answer Refusal → List Float
answer_values (Err why) = []
answer_values (Ok (Commanded s)) = setpoint_values s
answer_values (Ok (Waypoint a)) = setpoint_values a.setpoint ++ (a.cross_track_m ∷ [])
