-- The calls from each turn on part as those from the first on. Assumes nothing.
use Rattle.agreement.specs.Code.Steps.{calls_left}
use Rattle.agreement.proofs.Meeting.{Meeting}
use Rattle.agreement.proofs.part_calls.Given as goal

abbrev pub invariant-loop-ours : goal.invariant-loop-ours
invariant-loop-ours l = Meeting (calls_left l.fn.box_calls) (calls_left l.fn.display_calls) (calls_left l.ours-iterator) (calls_left l.display_calls)
