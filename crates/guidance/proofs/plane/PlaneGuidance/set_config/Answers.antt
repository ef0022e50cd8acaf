use Rattle.std.proofs.lemmas.Result.{err_from_is_err_and}
use Rattle.guidance.specs.Plane.{configured}
use Rattle.guidance.proofs.plane.Contracts.{refused_config}
use Rattle.guidance.proofs.plane.PlaneGuidance.set_config.Goals as goal

pub returns-in_err-validate : goal.returns-in_err-validate
unfolding configured
returns-in_err-validate c =
    let p = err_from_is_err_and c.from_residual.result c.from_residual.ensures.1 in
    rw (p.1, p.2) (refused_config _ _ _ c.in_err-validate.ensures)
