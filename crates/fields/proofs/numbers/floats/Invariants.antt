-- `numbers::floats` meets its contract. Assumes nothing.
use lib.Ieee.{binary32, of_bits}
use Rattle.fields.proofs.MapLaw.{Mapped}
use Rattle.fields.proofs.numbers.floats.Given as goal

abbrev pub invariant-loop-i : goal.invariant-loop-i
invariant-loop-i l = Mapped (of_bits binary32) 0 l.bits l.v l.i
