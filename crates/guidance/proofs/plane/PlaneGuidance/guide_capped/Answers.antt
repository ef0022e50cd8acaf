use Rattle.guidance.proofs.plane.Contracts.{guides_obeyed}
use Rattle.guidance.proofs.plane.PlaneGuidance.guide_capped.Goals as goal

pub returns-then-dt-is_finite : goal.returns-then-dt-is_finite
returns-then-dt-is_finite c = guides_obeyed _ _ _ _ _ _ _ (rw (← c.is_finite.ensures.value) c.if-dt-is_finite.true) c.obeyed.ensures
