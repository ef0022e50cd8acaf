-- What is kept of lib.rs. Definitions only.
use Rattle.std.specs.Prelude.{ℕ, cond, eqb, Float, Option, Some, None, Result, Ok, Err}
use Rattle.std.specs.Float.Ieee as Ieee
use Rattle.arithmetic.specs.Constants.{f32, n0}
use Rattle.arithmetic.specs.declared.vector.Vec2.{Vec2}
use Rattle.laws.specs.declared.types.Vec3.{Vec3}
use Rattle.laws.specs.declared.types.VehicleState.{VehicleState}
use Rattle.laws.specs.declared.types.FlightRegime.{FlightRegime}
use Rattle.laws.specs.declared.types.FlightRegime.TheVariants.{Copter, Plane}
use Rattle.laws.specs.declared.types.UnknownRegime.{UnknownRegime}

-- standard gravity
abbrev pub gravity : Float
gravity = f32 0x411ce80a  -- 9.80665

-- without the part upward
abbrev pub north_east : Vec3 → Vec2
north_east v = record { x = v.x; y = v.y }

-- a number that is at least 0; NaN is not
unfoldable pub at_least_zero : Option Float → Option Float
at_least_zero None = None
at_least_zero (Some a) = cond (Ieee.le n0 a) (Some a) None

-- the airspeed where it is present and >= 0
unfoldable pub valid_airspeed : VehicleState → Option Float
valid_airspeed s = at_least_zero s.airspeed_mps

-- the regime of a number: 0 copter, 1 plane
abbrev pub regime_from : ℕ → Result FlightRegime UnknownRegime
regime_from n = cond (eqb n 0) (Ok Copter) (cond (eqb n 1) (Ok Plane) (Err record {}))
