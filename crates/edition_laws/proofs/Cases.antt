-- The table of zeros and NaN, computed. Assumes nothing.
use mathlib.Core.Path.{◌≡◌, refl}
use mathlib.Core.List.{[], ◌∷◌}
use lib.Ieee.{nan, of_bits, to_bits}
use Rattle.fields.specs.Bytes.{number_at, bytes_of}
use Rattle.fields.specs.Fields.{size_of, values_at, map_of, body_of, number_fields}
use Rattle.fields.specs.Numbers.{floats_of, bits_of}
use Rattle.record_laws.specs.Laws.{call_read}
use Rattle.records.specs.Call.{
  zero,
  call_fields,
  complete,
  unknown,
  regime_of,
  call_at,
  waypoint_at,
  state_at,
  leg_of,
  option_of,
  parts_of,
  waypoint_parts,
  values_of,
  map_of_parts,
  call_record,
}
use Rattle.editions.specs.declared.Edition.TheVariants.{First, Second}
use Rattle.editions.specs.Edition.{flips, flips_standing, read_as, record_as}
use Rattle.edition_laws.specs.Cases.{Cases, at_altitude, minus_zero}

plus_is : record_as Second (at_altitude zero) ≡ 1 ∷ 0 ∷ 64 ∷ 0 ∷ 3 ∷ []
unfolding record_as call_record parts_of waypoint_parts values_of map_of_parts map_of body_of flips bytes_of call_fields number_fields bits_of to_bits of_bits
plus_is = refl

minus_is : record_as Second (at_altitude minus_zero) ≡ 1 ∷ 8 ∷ 64 ∷ 0 ∷ 3 ∷ 0 ∷ 0 ∷ 0 ∷ 0 ∷ []
unfolding record_as call_record parts_of waypoint_parts values_of map_of_parts map_of body_of flips bytes_of call_fields number_fields bits_of to_bits of_bits
minus_is = refl

none_is : record_as Second (at_altitude nan) ≡ 1 ∷ 8 ∷ 64 ∷ 0 ∷ 3 ∷ 0 ∷ 0 ∷ 192 ∷ 255 ∷ []
unfolding record_as call_record parts_of waypoint_parts values_of map_of_parts map_of body_of flips bytes_of call_fields number_fields bits_of to_bits of_bits
none_is = refl

first_minus_is : record_as First (at_altitude minus_zero) ≡ 1 ∷ 8 ∷ 0 ∷ 0 ∷ 3 ∷ 0 ∷ 0 ∷ 0 ∷ 128 ∷ []
unfolding record_as call_record parts_of waypoint_parts values_of map_of_parts map_of body_of flips bytes_of call_fields number_fields bits_of to_bits of_bits
first_minus_is = refl

stored_is : read_as Second (1 ∷ 8 ∷ 64 ∷ 0 ∷ 3 ∷ 0 ∷ 0 ∷ 0 ∷ 128 ∷ []) 0 ≡ call_read (at_altitude zero) 9
unfolding read_as complete unknown call_fields number_fields size_of values_at flips_standing number_at regime_of call_at waypoint_at state_at leg_of option_of floats_of of_bits
stored_is = refl

missing_is : read_as Second (1 ∷ 0 ∷ 64 ∷ 0 ∷ 3 ∷ []) 0 ≡ call_read (at_altitude zero) 5
unfolding read_as complete unknown call_fields number_fields size_of values_at flips_standing number_at regime_of call_at waypoint_at state_at leg_of option_of floats_of of_bits
missing_is = refl

payload_is : read_as Second (1 ∷ 8 ∷ 64 ∷ 0 ∷ 3 ∷ 1 ∷ 0 ∷ 128 ∷ 127 ∷ []) 0 ≡ call_read (at_altitude nan) 9
unfolding read_as complete unknown call_fields number_fields size_of values_at flips_standing number_at regime_of call_at waypoint_at state_at leg_of option_of floats_of of_bits
payload_is = refl

pub cases : Cases
cases =
    record {
      plus = plus_is;
      minus = minus_is;
      none = none_is;
      first_minus = first_minus_is;
      stored = stored_is;
      missing = missing_is;
      payload = payload_is;
    }
