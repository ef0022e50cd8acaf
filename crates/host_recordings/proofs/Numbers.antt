-- A refusal's numbers are a compaction's. Assumes nothing.
use mathlib.Core.Path.{◌≡◌, refl}
use Rattle.std.specs.Prelude.{Err}
use Rattle.compaction.specs.Compaction.{numbers_of}
use Rattle.compaction.specs.declared.BadRecording.{BadRecording}
use Rattle.compaction.specs.declared.BadRecording.TheVariants as bad
use Rattle.host_recordings.specs.Compaction.{compaction_of}

pub refused : (why : BadRecording)
    → record { refusal = (numbers_of why).refusal; field = (numbers_of why).field; call = (numbers_of why).call; length = 0 } ≡ compaction_of (Err why)
refused (bad.InvalidConfig invalid) = refl
refused (bad.Config why) = refl
refused (bad.Call n why) = refl
