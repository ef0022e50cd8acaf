-- An agreement's answer as numbers. Definitions only.
use Rattle.std.specs.Prelude.{ℕ, Result, Ok, Err, unwrap_or}
use Rattle.refusals.specs.Numbers.{number}
use Rattle.compaction.specs.declared.BadRecording.{BadRecording}
use Rattle.compaction.specs.declared.BadRecording.TheVariants as bad
use Rattle.agreement.specs.declared.Agreement.{Agreement}
use Rattle.agreement.specs.declared.Agreement.TheVariants as answer
use Rattle.agreement.specs.declared.Refused.{Refused}
use Rattle.agreement.specs.declared.Side.{Side}
use Rattle.agreement.specs.declared.Side.TheVariants as side
use Rattle.host_agreement.specs.declared.Agreed.{Agreed}

-- two recordings that were compared
abbrev pub compared : ℕ → ℕ → ℕ → Agreed
compared agree box_call display_call = record { agree = agree; box_call = box_call; display_call = display_call; whose = 0; refusal = 0; field = 0; call = 0 }

-- 1 the box's recording, 2 the display's
abbrev pub whose_of : Side → ℕ
whose_of side.Box = 1
whose_of side.Display = 2

abbrev pub stopped : Side → ℕ → ℕ → ℕ → Agreed
stopped whose refusal failing call = record { agree = 0; box_call = 0; display_call = 0; whose = whose_of whose; refusal = refusal; field = failing; call = call }

-- what refused a recording, as its compaction has it
abbrev pub stopped_by : Side → BadRecording → Agreed
stopped_by whose (bad.InvalidConfig invalid) = stopped whose 1 invalid.field 0
stopped_by whose (bad.Config why) = stopped whose (number why) 0 0
stopped_by whose (bad.Call n why) = stopped whose (number why) 0 n

abbrev pub refused_of : Refused → Agreed
refused_of r = stopped_by r.side r.why

-- 0 in both for the configuration, 0 where a recording has no call left
abbrev pub agreed_of : Result Agreement Refused → Agreed
agreed_of (Ok answer.Agree) = compared 1 0 0
agreed_of (Ok answer.PartAtConfig) = compared 0 0 0
agreed_of (Ok (answer.Part box_call display_call)) = compared 0 (unwrap_or box_call 0) (unwrap_or display_call 0)
agreed_of (Err r) = refused_of r
