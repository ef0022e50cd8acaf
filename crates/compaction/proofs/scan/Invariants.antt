use Rattle.compaction.proofs.Reading.{Scanning}
use Rattle.compaction.proofs.scan.Given as goal

abbrev pub invariant-loop-number : goal.invariant-loop-number
invariant-loop-number l = Scanning l.s l.from l.at l.number-counter
