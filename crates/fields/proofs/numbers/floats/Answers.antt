-- `numbers::floats` meets its contract. Assumes nothing.
use native.Mathlib.Omega.{arith}
use lib.Ieee.{binary32, of_bits}
use Rattle.fields.specs.Numbers.{floats_of}
use Rattle.fields.proofs.MapLaw.{done}
use Rattle.fields.proofs.numbers.floats.Goals as goal

pub returns : goal.returns
unfolding floats_of
returns c = done (of_bits binary32) 0 c.loop-i.invariant (omega arith)
