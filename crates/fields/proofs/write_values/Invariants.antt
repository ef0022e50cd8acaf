-- `write_values` meets its contract: fields 0 to x-index are written. Assumes nothing.
use Rattle.fields.proofs.FieldLaw.{Writing}
use Rattle.fields.proofs.write_values.Given as goal

abbrev pub invariant-loop-x : goal.invariant-loop-x
invariant-loop-x l = Writing l.initial.part l.from l.map l.v l.part l.to l.m l.x-index
