-- The next call that stays, or none. Assumes nothing.
use mathlib.Core.Path.{sym, ◌∙◌}
use native.Mathlib.Omega.{arith}
use Rattle.agreement.proofs.Story.{seek_starts, seek_over, seek_bad, seek_most, seek_turn, seek_found, fewer_left}
use Rattle.agreement.proofs.RemainingCallsIterator.next.Goals as goal

pub loop-number-init : goal.loop-number-init
loop-number-init c = seek_starts _

pub returns-then-self-clause-steps : goal.returns-then-self-clause-steps
returns-then-self-clause-steps c = seek_over c.loop-number.invariant c.if-self.true

pub returns-in_default-clause-steps : goal.returns-in_default-clause-steps
returns-in_default-clause-steps c = seek_bad c.loop-number.invariant _ (omega arith) c.if-self.false (sym c.read_call.ensures ∙ c.in_default.is)

pub returns-then-not-judged-clause-steps : goal.returns-then-not-judged-clause-steps
returns-then-not-judged-clause-steps c =
    seek_found c.loop-number.invariant _ _ (omega arith) c.if-self.false (sym c.read_call.ensures ∙ c.in-Ok.is)
    c.perform-done.result c.perform-done.ensures c.judge-judged.result c.judge-judged.ensures c.if-not-judged.true

pub returns-then-not-judged-clause-goes : goal.returns-then-not-judged-clause-goes
returns-then-not-judged-clause-goes c =
    fewer_left _ _ _
    (seek_found c.loop-number.invariant _ _ (omega arith) c.if-self.false (sym c.read_call.ensures ∙ c.in-Ok.is)
    c.perform-done.result c.perform-done.ensures c.judge-judged.result c.judge-judged.ensures c.if-not-judged.true)

pub loop-number-preserved : goal.loop-number-preserved
loop-number-preserved c =
    seek_turn c.loop-number.invariant _ _ (omega arith) c.if-self.false (sym c.read_call.ensures ∙ c.in-Ok.is)
    c.perform-done.result c.perform-done.ensures c.judge-judged.result c.judge-judged.ensures c.if-not-judged.false

pub returns-clause-steps : goal.returns-clause-steps
returns-clause-steps c = seek_most c.loop-number.invariant (omega arith)
