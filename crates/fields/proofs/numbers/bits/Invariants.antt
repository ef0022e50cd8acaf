-- `numbers::bits` meets its contract. Assumes nothing.
use lib.Ieee.{nan, binary32, to_bits as bits_at}
use Rattle.fields.proofs.MapLaw.{Mapped}
use Rattle.fields.proofs.numbers.bits.Given as goal

abbrev pub invariant-loop-i : goal.invariant-loop-i
invariant-loop-i l = Mapped (bits_at binary32) nan l.v l.out l.i
