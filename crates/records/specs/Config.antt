-- Configuration record: "5-byte map, bit n-1 for field n, then fields; missing means the Default value". Definitions only.
use Rattle.std.specs.Prelude.{false, cond, not, List, ◌++◌, ℕ, ◌+◌, drop, replicate, Result, Ok, Err}
use Rattle.refusals.specs.declared.Refusal.{Refusal}
use Rattle.refusals.specs.declared.Refusal.TheVariants as refusal
use Rattle.laws.specs.declared.config.PlaneGuidanceConfig.{PlaneGuidanceConfig}
use Rattle.laws.specs.Config.{default}
use Rattle.config_numbers.specs.Numbers.{numbers_of, config_of}
use Rattle.fields.specs.Bytes.{number_at, bytes_of, has_bytes}
use Rattle.fields.specs.Fields.{Field, named, size_of, values_at, map_of, body_of, number_fields}
use Rattle.fields.specs.Numbers.{floats_of, bits_of}
use Rattle.records.specs.declared.config.ReadConfig.{ReadConfig}

-- the fields, with the Default values' bits
unfoldable pub config_fields : List Field
config_fields = number_fields (bits_of (numbers_of default))

-- ---- reading: 5 for a place past the end or a map cut short, 6 for an unnamed bit, 5 for fewer bytes than the map demands

unfoldable pub read_config : List ℕ → ℕ → Result ReadConfig Refusal
read_config s at =
    let map = number_at 5 (drop at s) in
    let size = 5 + size_of config_fields map in
    cond (not (has_bytes s at 5)) (Err refusal.TooFewBytes)
    (cond (not (named config_fields map)) (Err refusal.UnknownMap)
    (cond (not (has_bytes s at size)) (Err refusal.TooFewBytes)
    (Ok (record { config = config_of (floats_of (values_at config_fields map (drop (at + 5) s))); next = at + size }))))

-- ---- writing: no field is written whatever its value

unfoldable pub config_map : PlaneGuidanceConfig → ℕ
config_map c = map_of config_fields (replicate 33 false) (bits_of (numbers_of c))

-- a configuration's record
unfoldable pub config_record : PlaneGuidanceConfig → List ℕ
config_record c = bytes_of 5 (config_map c) ++ body_of config_fields (config_map c) (bits_of (numbers_of c))
