use Rattle.std.proofs.Common.{◌≡◌, rules}
use Rattle.std.proofs.lemmas.Result.{err_from_is_err_and}
use Rattle.guidance.specs.Plane.{created, fresh, no_former}
use Rattle.guidance.proofs.plane.Contracts.{accepted_config, refused_config, creates}
use Rattle.guidance.proofs.plane.PlaneGuidance.new.Goals as goal

pub returns-in_err-validate : goal.returns-in_err-validate
unfolding created
returns-in_err-validate c =
    let p = err_from_is_err_and c.from_residual.result c.from_residual.ensures.1 in
    creates _ _ (rw (p.1, p.2) (refused_config _ _ _ c.in_err-validate.ensures))

pub returns : goal.returns
unfolding created fresh no_former
returns c =
    let none : c.default-2.result ≡ no_former = search rules in
    creates _ _ (rw (c.default.ensures, none, c.reset.ensures) (accepted_config _ _ c.in_ok-validate.ensures))
