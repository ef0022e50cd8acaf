use Rattle.arithmetic.proofs.Remainder.{Doubled}
use Rattle.arithmetic.proofs.trigonometry.remainder.Given as goal

abbrev pub invariant-loop : goal.invariant-loop
invariant-loop l = Doubled l.b l.x l.counter
