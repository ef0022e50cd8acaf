-- The fields before bit n are turned.
use Rattle.editions.proofs.Loops.{Turning}
use Rattle.editions.proofs.turn.Given as goal

abbrev pub invariant-loop-n : goal.invariant-loop-n
invariant-loop-n l = Turning l.initial.part l.map l.part l.at l.n
