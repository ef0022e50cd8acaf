-- Zeros of both signs and NaN as the second edition has them: one table, computed. Statements only; proofs/Cases.antt proves it.
use Rattle.std.specs.Prelude.{◌≡◌, [], ◌∷◌, Float, None}
use Rattle.std.specs.Float.{nan, binary32}
use Rattle.std.specs.Float.Ieee.{of_bits}
use Rattle.laws.specs.declared.types.FlightRegime.TheVariants.{Plane}
use Rattle.records.specs.declared.call.Call.{Call}
use Rattle.records.specs.declared.call.Call.TheVariants.{Waypoint}
use Rattle.records.specs.Call.{zero}
use Rattle.record_laws.specs.Laws.{call_read}
use Rattle.editions.specs.declared.Edition.TheVariants.{First, Second}
use Rattle.editions.specs.Edition.{read_as, record_as}

-- a waypoint call all of whose numbers but the altitude are +0
abbrev pub at_altitude : Float → Call
at_altitude x =
    Waypoint Plane zero
    (record { position_m = record { x = zero; y = zero }; velocity_mps = None; altitude_m = x; cruise_speed_mps = zero })
    (record {
      position_m = record { x = zero; y = zero; z = zero };
      velocity_mps = record { x = zero; y = zero; z = zero };
      roll_rad = zero;
      airspeed_mps = None;
    })
    None

-- -0
abbrev pub minus_zero : Float
minus_zero = of_bits binary32 0x80000000

pub record Cases : Type 0 where
  -- +0 is left out, -0 is 00000000, NaN is ffc00000
  pub plus : record_as Second (at_altitude zero) ≡ 1 ∷ 0 ∷ 64 ∷ 0 ∷ 3 ∷ []
  pub minus : record_as Second (at_altitude minus_zero) ≡ 1 ∷ 8 ∷ 64 ∷ 0 ∷ 3 ∷ 0 ∷ 0 ∷ 0 ∷ 0 ∷ []
  pub none : record_as Second (at_altitude nan) ≡ 1 ∷ 8 ∷ 64 ∷ 0 ∷ 3 ∷ 0 ∷ 0 ∷ 192 ∷ 255 ∷ []
  -- the first edition's beside them
  pub first_minus : record_as First (at_altitude minus_zero) ≡ 1 ∷ 8 ∷ 0 ∷ 0 ∷ 3 ∷ 0 ∷ 0 ∷ 0 ∷ 128 ∷ []
  -- a stored 80000000 is +0, as a missing one; a payload is read as the one NaN
  pub stored : read_as Second (1 ∷ 8 ∷ 64 ∷ 0 ∷ 3 ∷ 0 ∷ 0 ∷ 0 ∷ 128 ∷ []) 0 ≡ call_read (at_altitude zero) 9
  pub missing : read_as Second (1 ∷ 0 ∷ 64 ∷ 0 ∷ 3 ∷ []) 0 ≡ call_read (at_altitude zero) 5
  pub payload : read_as Second (1 ∷ 8 ∷ 64 ∷ 0 ∷ 3 ∷ 1 ∷ 0 ∷ 128 ∷ 127 ∷ []) 0 ≡ call_read (at_altitude nan) 9
