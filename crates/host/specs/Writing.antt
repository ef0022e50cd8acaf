-- Records written for a host. Definitions only.
use Rattle.std.specs.Prelude.{ℕ, Bool, cond, ◌||◌, List, ltb, Err}
use Rattle.refusals.specs.declared.Refusal.TheVariants as why
use Rattle.laws.specs.declared.config.PlaneGuidanceConfig.{PlaneGuidanceConfig}
use Rattle.fields.specs.Writing.{answer_of, buffer_of}
use Rattle.records.specs.Call.{call_record}
use Rattle.records.specs.Config.{config_record}
use Rattle.call_numbers.specs.Call.{from_numbers}
use Rattle.call_numbers.specs.declared.CallNumbers.{CallNumbers}
use Rattle.host_answers.specs.Place.{place_of}
use Rattle.host_answers.specs.declared.place.Place.{Place}

-- what 7 refuses: a kind above 6, or a regime above 1
unfoldable pub unknown : CallNumbers → Bool
unknown k = ltb 6 k.kind || ltb 1 k.regime

unfoldable pub call_place : CallNumbers → List ℕ → ℕ → Place
call_place k out at = cond (unknown k) (place_of (Err why.UnknownKind)) (place_of (answer_of out at (call_record (from_numbers k))))

-- a refused write changes no byte
unfoldable pub call_buffer : CallNumbers → List ℕ → ℕ → List ℕ
call_buffer k out at = cond (unknown k) out (buffer_of out at (call_record (from_numbers k)))

unfoldable pub config_place : PlaneGuidanceConfig → List ℕ → ℕ → Place
config_place c out at = place_of (answer_of out at (config_record c))

unfoldable pub config_buffer : PlaneGuidanceConfig → List ℕ → ℕ → List ℕ
config_buffer c out at = buffer_of out at (config_record c)
