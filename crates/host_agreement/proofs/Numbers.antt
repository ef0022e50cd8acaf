-- A refusal's numbers are those of a stopped agreement. Assumes nothing.
use mathlib.Core.Path.{◌≡◌, refl}
use Rattle.compaction.specs.Compaction.{numbers_of}
use Rattle.compaction.specs.declared.BadRecording.{BadRecording}
use Rattle.compaction.specs.declared.BadRecording.TheVariants as bad
use Rattle.agreement.specs.declared.Side.{Side}
use Rattle.host_agreement.specs.Agreed.{stopped, stopped_by}

pub stopped_is : (whose : Side) (why : BadRecording)
    → stopped whose (numbers_of why).refusal (numbers_of why).field (numbers_of why).call ≡ stopped_by whose why
stopped_is whose (bad.InvalidConfig invalid) = refl
stopped_is whose (bad.Config why) = refl
stopped_is whose (bad.Call n why) = refl
