-- `read_values` meets its contract: fields 0 to x-index are read. Assumes nothing.
use Rattle.fields.proofs.FieldLaw.{Reading}
use Rattle.fields.proofs.read_values.Given as goal

abbrev pub invariant-loop-x : goal.invariant-loop-x
invariant-loop-x g l = Reading g.T.Number.of_bits l.s l.from l.map l.initial.v l.v l.at l.m l.x-index
