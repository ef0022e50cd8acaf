-- `numbers::read_all` meets its contract: f32s 0 to i are read. Assumes nothing.
use mathlib.Core.List.{[]}
use Rattle.fields.proofs.MapLaw.{Mapped}
use Rattle.fields.proofs.FloatLaw.{f32_of}
use Rattle.fields.proofs.numbers.read_all.Given as goal

abbrev pub invariant-loop-i : goal.invariant-loop-i
invariant-loop-i l = Mapped f32_of [] l.words l.v l.i
