-- `bytes::write_number` meets its contract: bytes 0 to b-index are written, v is what is left of the number. Assumes nothing.
use Rattle.fields.proofs.NumberLaw.{Writing}
use Rattle.fields.proofs.bytes.write_number.Given as goal

abbrev pub invariant-loop-b : goal.invariant-loop-b
invariant-loop-b l = Writing l.n l.number l.b-items l.v l.b-index
