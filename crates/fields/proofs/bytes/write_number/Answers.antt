-- `bytes::write_number` meets its contract: bytes 0 to b-index are written, v is what is left of the number. Assumes nothing.
use native.Mathlib.Omega.{arith}
use lib.Seq.{length-take-le}
use Rattle.fields.proofs.NumberLaw.{write_turn, write_done}
use Rattle.fields.proofs.bytes.write_number.Goals as goal

pub loop-b-preserved : goal.loop-b-preserved
loop-b-preserved c = write_turn c.loop-b.invariant (omega (arith, length-take-le c.args.n c.args.part.now c.requires))

pub returns : goal.returns
returns c = rw (write_done c.loop-b.invariant (omega (arith, length-take-le c.args.n c.args.part.now c.requires)))
