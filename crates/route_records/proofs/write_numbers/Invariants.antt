-- `write_numbers` meets its contract: numbers 0 to x-index are written. Assumes nothing.
use Rattle.route_records.proofs.NumbersLaw.{Writing}
use Rattle.route_records.proofs.write_numbers.Given as goal

abbrev pub invariant-loop-x : goal.invariant-loop-x
invariant-loop-x l = Writing l.initial.part l.from l.numbers l.part l.at l.x-index
