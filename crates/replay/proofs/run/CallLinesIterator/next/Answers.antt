use Rattle.std.proofs.Common.{refl, sym, ◌∙◌, arith}
use Rattle.replay.proofs.RunLaw.{left_over, left_bad, left_call, read_few, fewer_left}
use Rattle.replay.proofs.run.CallLinesIterator.next.Goals as goal

pub returns-then-self-clause-steps : goal.returns-then-self-clause-steps
returns-then-self-clause-steps c = let e = left_over c.args.self.now c.if-self.true in (e, e)

pub returns-in-Err-clause-steps : goal.returns-in-Err-clause-steps
returns-in-Err-clause-steps c =
    rw c.stopped_line.ensures (left_bad _ _ _ c.if-self.false (sym c.read.ensures ∙ c.in-Err.is) (omega arith))

pub returns-in-Err-clause-goes : goal.returns-in-Err-clause-goes
returns-in-Err-clause-goes c =
    fewer_left _ _ _ (rw c.stopped_line.ensures (left_bad _ _ _ c.if-self.false (sym c.read.ensures ∙ c.in-Err.is) (omega arith)))

pub overflow_add-self : goal.overflow_add-self
overflow_add-self c = omega (arith, read_few _ _ (sym c.read.ensures ∙ c.in-Ok.is))

pub returns-in-Ok-clause-steps : goal.returns-in-Ok-clause-steps
returns-in-Ok-clause-steps c =
    rw c.call_line-done.ensures (left_call _ _ _ c.if-self.false (sym c.read.ensures ∙ c.in-Ok.is) refl)

pub returns-in-Ok-clause-goes : goal.returns-in-Ok-clause-goes
returns-in-Ok-clause-goes c =
    fewer_left _ _ _ (rw c.call_line-done.ensures (left_call _ _ _ c.if-self.false (sym c.read.ensures ∙ c.in-Ok.is) refl))
