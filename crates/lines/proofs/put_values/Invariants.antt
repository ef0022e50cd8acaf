-- `put_values` meets its contract: the first values are written. Assumes nothing.
use lib.ListN.{take}
use Rattle.lines.specs.Line.{values, Puts}
use Rattle.lines.proofs.put_values.Given as goal

abbrev pub invariant-loop-v : goal.invariant-loop-v
invariant-loop-v l = Puts (values (take l.v-index l.printed)) l.initial.part l.part l.at
