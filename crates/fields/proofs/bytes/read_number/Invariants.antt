-- `bytes::read_number` meets its contract: v is the number of the bytes behind those that are left. Assumes nothing.
use Rattle.fields.proofs.NumberLaw.{Left}
use Rattle.fields.proofs.bytes.read_number.Given as goal

abbrev pub invariant-loop-b : goal.invariant-loop-b
invariant-loop-b l = Left l.part l.n l.v l.b-iterator.iter.rest.now
