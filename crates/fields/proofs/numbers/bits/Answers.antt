-- `numbers::bits` meets its contract. Assumes nothing.
use native.Mathlib.Omega.{arith}
use lib.Ieee.{nan, binary32, to_bits as bits_at}
use Rattle.fields.specs.Numbers.{bits_of}
use Rattle.fields.proofs.MapLaw.{done}
use Rattle.fields.proofs.numbers.bits.Goals as goal

pub returns : goal.returns
unfolding bits_of
returns c = done (bits_at binary32) nan c.loop-i.invariant (omega arith)
