-- `put_digits` meets its contract: the digits from i on are written, v is what is left of the number. Assumes nothing.
use mathlib.Core.Path.{◌≡◌}
use mathlib.Core.List.{◌++◌}
use lib.ListN.{length, drop}
use Rattle.lines.specs.Line.{digits}
use Rattle.lines.proofs.put_digits.Given as goal

abbrev pub invariant-loop-i : goal.invariant-loop-i
invariant-loop-i g l = digits g.row.BASE l.i l.v ++ drop l.i l.part ≡ digits g.row.BASE (length l.initial.part) l.n
