use Rattle.replay.specs.Text.{lines_text}
use Rattle.replay.specs.Code.Run.{lines_left}
use Rattle.replay.proofs.PrintLaw.{Printing}
use Rattle.replay.proofs.print_lines.Given as goal

abbrev pub invariant-loop-line : goal.invariant-loop-line
invariant-loop-line l = Printing (lines_text (lines_left l.fn.lines)) l.initial.out l.out l.to (lines_text (lines_left l.line-iterator))
