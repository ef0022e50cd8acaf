-- A compaction's answer as numbers. Definitions only.
use Rattle.std.specs.Prelude.{ℕ, Result, Ok, Err}
use Rattle.refusals.specs.Numbers.{number}
use Rattle.compaction.specs.declared.BadRecording.{BadRecording}
use Rattle.compaction.specs.declared.BadRecording.TheVariants as bad
use Rattle.host_recordings.specs.declared.Compaction.{Compaction}

abbrev pub compaction_of : Result ℕ BadRecording → Compaction
compaction_of (Ok n) = record { refusal = 0; field = 0; call = 0; length = n }
compaction_of (Err (bad.InvalidConfig invalid)) = record { refusal = 1; field = invalid.field; call = 0; length = 0 }
compaction_of (Err (bad.Config why)) = record { refusal = number why; field = 0; call = 0; length = 0 }
compaction_of (Err (bad.Call n why)) = record { refusal = number why; field = 0; call = n; length = 0 }
