use Rattle.path.proofs.StepKept.{moved_in_place}
use Rattle.path.proofs.draw.advance.Goals as goal

pub returns-clause-moved : goal.returns-clause-moved
returns-clause-moved c = rw c.take_over.ensures (moved_in_place _ _ _ c.in_ok-next.ensures)
