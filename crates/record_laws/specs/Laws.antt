-- The laws of the two records, for every configuration and every call. Statements only; proofs/ConfigBack.antt and
-- proofs/CallBack.antt prove them.
use Rattle.std.specs.Prelude.{ℕ, Result, Ok}
use Rattle.refusals.specs.declared.Refusal.{Refusal}
use Rattle.laws.specs.declared.config.PlaneGuidanceConfig.{PlaneGuidanceConfig}
use Rattle.fields.specs.Numbers.{AreF32}
use Rattle.fields.specs.Laws.{Laws, Longest}
use Rattle.config_numbers.specs.Numbers.{numbers_of}
use Rattle.records.specs.declared.call.Call.{Call}
use Rattle.records.specs.declared.config.ReadConfig.{ReadConfig}
use Rattle.records.specs.declared.call.ReadCall.{ReadCall}
use Rattle.records.specs.Config as Config
use Rattle.records.specs.Call as Call

-- f32s hold the numbers of a configuration
abbrev pub ConfigF32 : PlaneGuidanceConfig → Type 0
ConfigF32 c = AreF32 (numbers_of c)

-- a configuration that was read, with the place after it
abbrev pub config_read : PlaneGuidanceConfig → ℕ → Result ReadConfig Refusal
config_read c next = Ok (record { config = c; next = next })

abbrev pub ConfigLaws : Type 0
ConfigLaws = Laws ConfigF32 Config.config_record Config.read_config config_read

-- f32s hold the numbers of a call
abbrev pub CallF32 : Call → Type 0
CallF32 c = AreF32 (Call.parts_of c).numbers

-- a call that was read, with the place after it
abbrev pub call_read : Call → ℕ → Result ReadCall Refusal
call_read k next = Ok (record { call = k; next = next })

abbrev pub CallLaws : Type 0
CallLaws = Laws CallF32 Call.call_record Call.read_call call_read

-- the lengths that a host sets aside: 5 + 4 · 33 bytes, and 4 + 2 + 4 · 20
abbrev pub ConfigLongest : Type 0
ConfigLongest = Longest 137 Config.config_record Config.read_config config_read

abbrev pub CallLongest : Type 0
CallLongest = Longest 86 Call.call_record Call.read_call call_read
