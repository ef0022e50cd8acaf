-- Call record: "4-byte map, low byte first, then fields by bit". Definitions only.
use Rattle.std.specs.Prelude.{Bool, true, false, cond, is_some, unwrap_or, ok_or, slice_get, not, ◌&&◌, ◌||◌, List, [], ◌∷◌, ◌++◌, ℕ, ◌+◌, ◌-◌, ◌/◌, ◌%◌, ◌^◌, eqb, ltb, drop, get_or, replicate, Float, Option, Result, Ok, Err}
use Rattle.std.specs.Float.{nan, binary32}
use Rattle.std.specs.Float.Ieee.{of_bits}
use Rattle.std.specs.Bool.{then_some}
use Rattle.std.specs.Option.{option_map_or}
use Rattle.std.specs.Result.{result_map_both}
use Rattle.refusals.specs.declared.Refusal.{Refusal}
use Rattle.refusals.specs.declared.Refusal.TheVariants as refusal
use Rattle.arithmetic.specs.declared.vector.Vec2.{Vec2}
use Rattle.laws.specs.declared.types.FlightRegime.{FlightRegime}
use Rattle.laws.specs.declared.types.FlightRegime.TheVariants.{Copter, Plane}
use Rattle.laws.specs.declared.types.AttitudeCommand.{AttitudeCommand}
use Rattle.laws.specs.declared.types.RateCommand.{RateCommand}
use Rattle.laws.specs.declared.types.WaypointCommand.{WaypointCommand}
use Rattle.laws.specs.declared.types.AbsoluteAttitudeCommand.{AbsoluteAttitudeCommand}
use Rattle.laws.specs.declared.types.AbsoluteRateCommand.{AbsoluteRateCommand}
use Rattle.laws.specs.declared.types.VehicleState.{VehicleState}
use Rattle.fields.specs.Bytes.{number_at, bytes_of, has_bytes}
use Rattle.fields.specs.Fields.{Field, stands, named, size_of, values_at, map_of, body_of, number_fields}
use Rattle.fields.specs.Numbers.{floats_of, bits_of}
use Rattle.records.specs.declared.call_writer.Parts.{Parts}
use Rattle.records.specs.declared.call.Kind.{Kind}
use Rattle.records.specs.declared.call.Kind.TheVariants as kind
use Rattle.records.specs.declared.call.Call.{Call}
use Rattle.records.specs.declared.call.Call.TheVariants.{Prime, Attitude, Rate, Waypoint, AbsoluteAttitude, Land, AbsoluteRate}
use Rattle.records.specs.declared.call.ReadCall.{ReadCall}

-- +0
abbrev pub zero : Float
zero = of_bits binary32 0

-- bit 0 kind byte; 1 regime byte, missing is plane; 2 to 21 numbers, missing is +0
unfoldable pub call_fields : List Field
call_fields = record { bytes = 1; missing = 0 } ∷ record { bytes = 1; missing = 1 } ∷ number_fields (replicate 20 0)

-- the kinds, in the order of their numbers
abbrev pub kinds : List Kind
kinds = kind.Prime ∷ kind.Attitude ∷ kind.Rate ∷ kind.Waypoint ∷ kind.AbsoluteAttitude ∷ kind.Land ∷ kind.AbsoluteRate ∷ []

-- the kind of a number
abbrev pub kind_of : ℕ → Result Kind Refusal
kind_of n = ok_or (slice_get kinds n) refusal.UnknownKind

abbrev pub number_of : Kind → ℕ
number_of kind.Prime = 0
number_of kind.Attitude = 1
number_of kind.Rate = 2
number_of kind.Waypoint = 3
number_of kind.AbsoluteAttitude = 4
number_of kind.Land = 5
number_of kind.AbsoluteRate = 6

-- ---- reading

-- what 6 asks of a map: no unnamed bit, the kind bit, both parts of a leg or neither
unfoldable pub complete : ℕ → Bool
complete m = named call_fields m && stands m && eqb (m / 2 ^ 9 % 2) (m / 2 ^ 10 % 2)

-- what 7 refuses: a kind byte above 6, or a regime byte above 1
unfoldable pub unknown : ℕ → ℕ → Bool
unknown kind regime = ltb 6 kind || ltb 1 regime

-- 0 copter, 1 plane
unfoldable pub regime_of : ℕ → FlightRegime
regime_of r = cond (eqb r 0) Copter Plane

-- the number of bit n, where v has those of bits 2 to 21
abbrev pub at : List Float → ℕ → Float
at v n = get_or v (n - 2) nan

-- a number that is none where its bit, the lowest of a map, does not stand
unfoldable pub option_of : ℕ → Float → Option Float
option_of m x = then_some (stands m) x

-- a leg likewise
unfoldable pub leg_of : ℕ → Float → Float → Option Vec2
leg_of m x y = then_some (stands m) (record { x = x; y = y })

-- bits 3 to 6: command numbers in the order `guide_capped` reads them
unfoldable pub attitude_at : List Float → AttitudeCommand
attitude_at v = record { throttle = at v 5; roll = at v 3; pitch = at v 4 }

unfoldable pub rate_at : List Float → RateCommand
rate_at v = record { throttle = at v 6; roll_rate = at v 3; pitch_rate = at v 4; yaw_rate = at v 5 }

unfoldable pub absolute_attitude_at : List Float → AbsoluteAttitudeCommand
absolute_attitude_at v = record { roll_rad = at v 3; pitch_rad = at v 4; thrust = at v 5 }

unfoldable pub absolute_rate_at : List Float → AbsoluteRateCommand
absolute_rate_at v = record { roll_radps = at v 3; pitch_radps = at v 4; yaw_radps = at v 5; thrust = at v 6 }

-- 7, 8 waypoint; 9, 10 leg; 11 altitude; 12 cruise speed
unfoldable pub waypoint_at : ℕ → List Float → WaypointCommand
waypoint_at m v = record {
  position_m = record { x = at v 7; y = at v 8 };
  velocity_mps = leg_of (m / 2 ^ 9) (at v 9) (at v 10);
  altitude_m = at v 11;
  cruise_speed_mps = at v 12;
}

-- 13 to 15 position; 16 to 18 velocity; 19 roll; 20 airspeed
unfoldable pub state_at : ℕ → List Float → VehicleState
state_at m v = record {
  position_m = record { x = at v 13; y = at v 14; z = at v 15 };
  velocity_mps = record { x = at v 16; y = at v 17; z = at v 18 };
  roll_rad = at v 19;
  airspeed_mps = option_of (m / 2 ^ 20) (at v 20);
}

-- the call of a kind: a field that its kind doesn't use is no part of it; 2 time step; 21 cap
unfoldable pub call_at : ℕ → FlightRegime → ℕ → List Float → Call
call_at kind r m v =
    cond (eqb kind 0) Prime
    (cond (eqb kind 1) (Attitude r (at v 2) (attitude_at v))
    (cond (eqb kind 2) (Rate r (at v 2) (rate_at v))
    (cond (eqb kind 3) (Waypoint r (at v 2) (waypoint_at m v) (state_at m v) (option_of (m / 2 ^ 21) (at v 21)))
    (cond (eqb kind 4) (AbsoluteAttitude r (at v 2) (absolute_attitude_at v))
    (cond (eqb kind 5) (Land r (at v 2))
    (AbsoluteRate r (at v 2) (absolute_rate_at v)))))))

-- 5 for a place past the end or a map cut short, 6, 5 for fewer bytes than the map demands, 7
unfoldable pub read_call : List ℕ → ℕ → Result ReadCall Refusal
read_call s at =
    let map = number_at 4 (drop at s) in
    let size = 4 + size_of call_fields map in
    let values = values_at call_fields map (drop (at + 4) s) in
    let kind = get_or values 0 0 in
    let regime = get_or values 1 0 in
    cond (not (has_bytes s at 4)) (Err refusal.TooFewBytes)
    (cond (not (complete map)) (Err refusal.UnknownMap)
    (cond (not (has_bytes s at size)) (Err refusal.TooFewBytes)
    (cond (unknown kind regime) (Err refusal.UnknownKind)
    (Ok (record { call = call_at kind (regime_of regime) map (floats_of (drop 2 values)); next = at + size })))))

-- the place after the record, without the call
abbrev pub skipped : Result ReadCall Refusal → Result ℕ Refusal
skipped a = result_map_both (λ r. r.next) (λ e. e) a

-- ---- writing

abbrev pub regime_byte : FlightRegime → ℕ
regime_byte Copter = 0
regime_byte Plane = 1

abbrev pub number_or0 : Option Float → Float
number_or0 x = unwrap_or x zero

abbrev pub has_number : Option Float → Bool
has_number x = is_some x

abbrev pub leg_north : Option Vec2 → Float
leg_north leg = option_map_or (λ l. l.x) leg zero

abbrev pub leg_east : Option Vec2 → Float
leg_east leg = option_map_or (λ l. l.y) leg zero

abbrev pub has_leg : Option Vec2 → Bool
has_leg leg = is_some leg

-- What a record has of a call: the kind, the regime, the numbers of bits 2 to 21, and which of these are written whatever
-- their values. A number that its kind doesn't use is +0, what missing would give, and so is never written.
unfoldable pub command_parts : Kind → FlightRegime → Float → List Float → Parts
command_parts k regime dt command = record {
  kind = k;
  regime = regime;
  numbers = dt ∷ command ++ replicate 15 zero;
  keeps = replicate 20 false;
}

-- a leg, an airspeed and a cap that are present are written whatever their values
unfoldable pub waypoint_parts : FlightRegime → Float → WaypointCommand → VehicleState → Option Float → Parts
waypoint_parts regime dt c s cap = record {
  kind = kind.Waypoint;
  regime = regime;
  numbers =
      dt ∷ zero ∷ zero ∷ zero ∷ zero ∷
      c.position_m.x ∷ c.position_m.y ∷
      leg_north c.velocity_mps ∷ leg_east c.velocity_mps ∷
      c.altitude_m ∷ c.cruise_speed_mps ∷
      s.position_m.x ∷ s.position_m.y ∷ s.position_m.z ∷
      s.velocity_mps.x ∷ s.velocity_mps.y ∷ s.velocity_mps.z ∷
      s.roll_rad ∷ number_or0 s.airspeed_mps ∷ number_or0 cap ∷ [];
  keeps =
      replicate 7 false ++ has_leg c.velocity_mps ∷ has_leg c.velocity_mps ∷ replicate 9 false ++ has_number s.airspeed_mps ∷ has_number cap ∷ [];
}

-- a prime has no regime: what missing would give
unfoldable pub parts_of : Call → Parts
parts_of Prime = command_parts kind.Prime Plane zero (zero ∷ zero ∷ zero ∷ zero ∷ [])
parts_of (Attitude r dt c) = command_parts kind.Attitude r dt (c.roll ∷ c.pitch ∷ c.throttle ∷ zero ∷ [])
parts_of (Rate r dt c) = command_parts kind.Rate r dt (c.roll_rate ∷ c.pitch_rate ∷ c.yaw_rate ∷ c.throttle ∷ [])
parts_of (Waypoint r dt c s cap) = waypoint_parts r dt c s cap
parts_of (AbsoluteAttitude r dt c) = command_parts kind.AbsoluteAttitude r dt (c.roll_rad ∷ c.pitch_rad ∷ c.thrust ∷ zero ∷ [])
parts_of (Land r dt) = command_parts kind.Land r dt (zero ∷ zero ∷ zero ∷ zero ∷ [])
parts_of (AbsoluteRate r dt c) = command_parts kind.AbsoluteRate r dt (c.roll_radps ∷ c.pitch_radps ∷ c.yaw_radps ∷ c.thrust ∷ [])

-- the values of bits 0 to 21
unfoldable pub values_of : Parts → List ℕ
values_of p = number_of p.kind ∷ regime_byte p.regime ∷ bits_of p.numbers

-- the map; the kind is always written
unfoldable pub map_of_parts : Parts → ℕ
map_of_parts p = map_of call_fields (true ∷ false ∷ p.keeps) (values_of p)

-- a call's record
unfoldable pub call_record : Call → List ℕ
call_record c =
    let p = parts_of c in
    bytes_of 4 (map_of_parts p) ++ body_of call_fields (map_of_parts p) (values_of p)
