use Rattle.path.proofs.Drawing.{Drawing}
use Rattle.path.proofs.draw.draw_steps.Given as goal

abbrev pub invariant-loop-n : goal.invariant-loop-n
invariant-loop-n l = Drawing l.call l.steps l.initial.out l.initial.m l.out l.m l.n
