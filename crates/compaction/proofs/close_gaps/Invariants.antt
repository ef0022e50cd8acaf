use Rattle.std.proofs.Common.{◌-◌, length}
use Rattle.compaction.proofs.Closing.{Closing}
use Rattle.compaction.proofs.close_gaps.Given as goal

abbrev pub invariant-loop-read : goal.invariant-loop-read
invariant-loop-read l = Closing l.initial.s l.fn.sound.next l.fn.sound.guidance l.s l.g l.at l.to l.fell

abbrev pub decreases-loop-read : goal.decreases-loop-read
decreases-loop-read l = length l.initial.s - l.at
