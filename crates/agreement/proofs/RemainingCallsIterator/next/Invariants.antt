-- The calls from each turn on are those at entry. Assumes nothing.
use Rattle.agreement.proofs.Story.{Seeking}
use Rattle.agreement.proofs.RemainingCallsIterator.next.Given as goal

abbrev pub invariant-loop-number : goal.invariant-loop-number
invariant-loop-number l = Seeking l.fn.self l.self l.number
