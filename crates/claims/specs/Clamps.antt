-- Document 01, "Refusals": "with valid configuration, `clamp` there fails only on a NaN proportional thrust". The Rust's clamp fails
-- where its bounds are crossed or one of them is NaN. Here are the bounds of every clamp that a guide call comes to, as the
-- definitions that are named beside them have them. Definitions only.
use Rattle.std.specs.Prelude.{◌≡◌, true, false, List, ◌∷◌, ◌++◌, Float, Option}
use Rattle.std.specs.Float.Ieee as Ieee
use Rattle.std.specs.Float.Ieee.{neg, is_nan}
use Rattle.arithmetic.specs.Constants.{◌+ᶠ◌, ◌-ᶠ◌, ◌·ᶠ◌, ◌/ᶠ◌, n0, n1, frac_pi4}
use Rattle.arithmetic.specs.Order.{greatest}
use Rattle.laws.specs.Math.{limit_or_zero}
use Rattle.laws.specs.Tecs.{half, min_gain_airspeed, thrust_integral_margin, max_energy_rate, least_energy_rate, min_sink_rate, all_inputs_finite}
use Rattle.laws.specs.declared.config.TecsConfig.{TecsConfig}
use Rattle.laws.specs.declared.config.PlaneGuidanceConfig.{PlaneGuidanceConfig}
use Rattle.laws.specs.declared.tecs.Limits.{Limits}
use Rattle.laws.specs.declared.tecs.Inputs.{Inputs}
use Rattle.laws.specs.declared.types.ControlInput.TheVariants as Input
use Rattle.laws.specs.declared.types.WaypointCommand.{WaypointCommand}
use Rattle.laws.specs.declared.types.FlightRegime.{FlightRegime}
use Rattle.laws.specs.declared.types.VehicleState.{VehicleState}
use Rattle.guidance.specs.Plane as Plane
use Rattle.guidance.specs.Plane.{fresh, limits_of, bad_time_step, bad_cap}
use Rattle.claims.specs.Calls.{Call, guide, after}

-- low is at most high: then neither is NaN
abbrev pub Ordered : Float → Float → Type 0
Ordered low high = Ieee.le low high ≡ true

-- bounds that no call moves
pub record FixedBounds : Type 0 where
  -- saturate_throttle
  pub throttle : Ordered n0 n1
  -- clamp_symmetric, and so saturate_unit: a limit that is NaN or below 0 is 0
  pub symmetric : (limit : Float) → Ordered (neg (limit_or_zero limit)) (limit_or_zero limit)
  -- the capture of a track: its sine and its angle
  pub ratio : Ordered (neg n1) n1
  pub capture : Ordered (neg frac_pi4) frac_pi4

-- an energy step's, in the order in which it comes to them
pub record EnergyBounds (t : TecsConfig) (limits : Limits) (inputs : Inputs) : Type 0 where
  -- seed_demand
  pub climb : Ordered (neg t.max_sink_mps) t.max_climb_mps
  -- clamp_airspeed
  pub airspeed : Ordered t.min_airspeed_mps (greatest t.max_airspeed_mps t.min_airspeed_mps)
  -- slewed_height
  pub rise : Ordered (neg t.max_sink_mps ·ᶠ inputs.dt) (t.max_climb_mps ·ᶠ inputs.dt)
  pub height :
      let window = greatest t.time_constant_s t.height_demand_time_constant_s in
      Ordered (inputs.height_m -ᶠ window ·ᶠ t.max_sink_mps) (inputs.height_m +ᶠ window ·ᶠ t.max_climb_mps)
  -- slewed_airspeed, with the speed that energy_step hands it
  pub acceleration :
      let maxAccel = half ·ᶠ max_energy_rate t /ᶠ greatest inputs.airspeed_mps min_gain_airspeed in
      Ordered (neg maxAccel ·ᶠ inputs.dt) (maxAccel ·ᶠ inputs.dt)
  -- energies_of and pitch
  pub balance_rate : Ordered (least_energy_rate t) (max_energy_rate t)
  -- balanced_thrust
  pub total_rate : Ordered (min_sink_rate t) (max_energy_rate t)
  -- feedforward and balanced_thrust
  pub thrust : Ordered limits.min_thrust limits.max_thrust
  -- balancedThrust's integral: for every proportional thrust but NaN
  pub thrust_integral :
      (proportional : Float) → is_nan proportional ≡ false →
      Ordered (limits.min_thrust -ᶠ proportional -ᶠ thrust_integral_margin) (limits.max_thrust -ᶠ proportional +ᶠ thrust_integral_margin)
  -- pitch
  pub pitch_integral :
      let low = neg limits.pitch_down_rad in
      let high = limits.pitch_up_rad in
      Ordered (low -ᶠ high) (high -ᶠ low)
  pub pitch : Ordered (neg limits.pitch_down_rad) limits.pitch_up_rad

-- a fallback's: pi_finite's output, and its own thrust
pub record FallbackBounds (c : PlaneGuidanceConfig) (limits : Limits) : Type 0 where
  pub correction :
      let low = neg limits.pitch_down_rad -ᶠ c.trim_pitch_rad in
      Ordered low (greatest (limits.pitch_up_rad -ᶠ c.trim_pitch_rad) low)
  pub thrust : Ordered limits.min_thrust limits.max_thrust

-- A waypoint's: with the configuration c and a call that numbers 2 and 3 do not refuse, whatever the stored state. An energy step's
-- inputs are finite.
pub record WaypointBounds (c : PlaneGuidanceConfig) (dt : Float) (w : WaypointCommand) (s : VehicleState) (cap : Option Float) : Type 0 where
  pub energy : all_inputs_finite (Plane.inputs dt w s) ≡ true → EnergyBounds c.tecs (limits_of c cap) (Plane.inputs dt w s)
  pub fallback : FallbackBounds c (limits_of c cap)

-- Of every list of calls from a fresh guidance with the configuration c: every waypoint call in it, by the configuration of that moment.
pub record ClampsOrdered (c : PlaneGuidanceConfig) (calls : List Call) : Type 0 where
  pub fixed : FixedBounds
  pub waypoints :
      (before rest : List Call) (dt : Float) (regime : FlightRegime) (w : WaypointCommand) (s : VehicleState) (cap : Option Float) →
      calls ≡ before ++ (guide dt regime (Input.Waypoint w) s cap ∷ rest) → bad_time_step dt ≡ false → bad_cap cap ≡ false →
      WaypointBounds (after (fresh c) before).config dt w s cap
