use native.Mathlib.Omega.{arith}
use Rattle.path.proofs.Drawing.{turn, halt, done}
use Rattle.path.proofs.draw.draw_steps.Goals as goal

pub loop-n-preserved : goal.loop-n-preserved
loop-n-preserved c =
    turn c.loop-n.invariant c.loop-n-test.true c.requires.1 c.advance.new.m c.in-Ok.ensures.moved c.in-Ok.ensures.stopped c.put_point.new.part
    c.put_point.ensures

pub returns-in-Err : goal.returns-in-Err
returns-in-Err c = halt c.loop-n.invariant c.loop-n-test.true _ c.in-Err.ensures.stopped

pub returns : goal.returns
returns c = done c.loop-n.invariant (omega arith)
