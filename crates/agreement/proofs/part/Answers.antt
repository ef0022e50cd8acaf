-- `part` meets its contract: it is the definition's case, by what the configurations are. Assumes nothing.
use mathlib.Core.Bool.{not}
use mathlib.Core.Path.{ap}
use Rattle.agreement.proofs.Whole.{parted_differs, parted_same}
use Rattle.agreement.proofs.part.Goals as goal

pub returns-then-not-same_config : goal.returns-then-not-same_config
returns-then-not-same_config c = parted_differs _ _ _ _ _ c.same_config.ensures (ap not c.if-not-same_config.true)

pub returns : goal.returns
returns c =
    parted_same _ _ _ _ _ c.same_config.ensures (ap not c.if-not-same_config.false) _
    (rw (c.remaining_calls.ensures, c.remaining_calls-2.ensures) at c.part_calls.ensures)
