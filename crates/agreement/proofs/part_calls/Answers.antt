-- The calls from each turn on part as those from the first on. Assumes nothing.
use mathlib.Core.Bool.{not}
use mathlib.Core.Path.{ap}
use Rattle.agreement.proofs.Meeting.{meet_ends, meet_display, meet_box, meet_parts, meet_turn}
use Rattle.agreement.proofs.part_calls.Goals as goal

pub returns-in_default : goal.returns-in_default
returns-in_default c = meet_box c.loop-ours.invariant _ _ c.in-Some.ensures.steps c.in_default.ensures.steps.0

pub returns-then-not-same_call : goal.returns-then-not-same_call
returns-then-not-same_call c =
    meet_parts c.loop-ours.invariant _ _ _ _ c.in-Some.ensures.steps c.in-Some-next.ensures.steps _ c.same_call.ensures (ap not c.if-not-same_call.true)

pub loop-ours-preserved : goal.loop-ours-preserved
loop-ours-preserved c =
    meet_turn c.loop-ours.invariant _ _ _ _ c.in-Some.ensures.steps c.in-Some-next.ensures.steps _ c.same_call.ensures (ap not c.if-not-same_call.false)

pub returns-in-None-next : goal.returns-in-None-next
returns-in-None-next c = meet_ends c.loop-ours.invariant c.in-None.ensures.steps.0 c.in-None-next.ensures.steps.0

pub returns-in-Some-next-2 : goal.returns-in-Some-next-2
returns-in-Some-next-2 c = meet_display c.loop-ours.invariant _ _ c.in-None.ensures.steps.0 c.in-Some-next-2.ensures.steps
