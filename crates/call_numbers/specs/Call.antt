-- A call from the numbers and flags that a host gives. Definitions only.
use Rattle.std.specs.Prelude.{ℕ, cond, eqb, Option, Some, None}
use Rattle.laws.specs.declared.types.FlightRegime.{FlightRegime}
use Rattle.laws.specs.declared.types.FlightRegime.TheVariants.{Copter, Plane}
use Rattle.records.specs.declared.call.Call.{Call}
use Rattle.records.specs.declared.call.Call.TheVariants.{Prime, Attitude, Rate, Waypoint, AbsoluteAttitude, Land, AbsoluteRate}
use Rattle.guidance.specs.Plane.{WaypointCall}
use Rattle.call_numbers.specs.declared.CallNumbers.{CallNumbers}

-- 0 copter, else plane
unfoldable pub regime_of : ℕ → FlightRegime
regime_of n = cond (eqb n 0) Copter Plane

-- a value that is none where its flag is 0
unfoldable pub given : {A : Type 0} → ℕ → A → Option A
given flag x = cond (eqb flag 0) None (Some x)

unfoldable pub waypoint_call : CallNumbers → WaypointCall
waypoint_call k = record {
  dt = k.dt;
  regime = regime_of k.regime;
  command = record {
    position_m = record { x = k.waypoint_north_m; y = k.waypoint_east_m };
    velocity_mps = given k.has_leg (record { x = k.leg_north_mps; y = k.leg_east_mps });
    altitude_m = k.altitude_m;
    cruise_speed_mps = k.cruise_speed_mps;
  };
  state = record {
    position_m = k.position_m;
    velocity_mps = k.velocity_mps;
    roll_rad = k.roll_rad;
    airspeed_mps = given k.has_airspeed k.airspeed_mps;
  };
  cap = given k.has_cap k.pitch_cap_rad;
}

unfoldable pub waypoint_of : CallNumbers → Call
waypoint_of k = let w = waypoint_call k in Waypoint w.regime w.dt w.command w.state w.cap

-- by kind, as a record has it; command numbers in the order `guide_capped` reads them
unfoldable pub from_numbers : CallNumbers → Call
from_numbers k =
    let r = regime_of k.regime in
    cond (eqb k.kind 0) Prime
    (cond (eqb k.kind 1) (Attitude r k.dt (record { throttle = k.third; roll = k.first; pitch = k.second }))
    (cond (eqb k.kind 2) (Rate r k.dt (record { throttle = k.fourth; roll_rate = k.first; pitch_rate = k.second; yaw_rate = k.third }))
    (cond (eqb k.kind 3) (waypoint_of k)
    (cond (eqb k.kind 4) (AbsoluteAttitude r k.dt (record { roll_rad = k.first; pitch_rad = k.second; thrust = k.third }))
    (cond (eqb k.kind 5) (Land r k.dt)
    (AbsoluteRate r k.dt (record { roll_radps = k.first; pitch_radps = k.second; yaw_radps = k.third; thrust = k.fourth })))))))
