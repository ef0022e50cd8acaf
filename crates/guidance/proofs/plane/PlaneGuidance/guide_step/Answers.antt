use Rattle.guidance.specs.Plane.{obeyed}
use Rattle.guidance.proofs.plane.Contracts.{guides_obeyed}
use Rattle.guidance.proofs.plane.PlaneGuidance.guide_step.Goals as goal

pub returns-then-call-is_finite : goal.returns-then-call-is_finite
unfolding obeyed
returns-then-call-is_finite c = guides_obeyed _ _ _ _ _ _ _ (rw (← c.is_finite.ensures.value) c.if-call-is_finite.true) c.waypoint.ensures
