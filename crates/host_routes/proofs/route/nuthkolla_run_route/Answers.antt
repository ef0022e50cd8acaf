use mathlib.Core.Path.{ap, ◌∙◌}
use Rattle.host_routes.specs.declared.route.RouteRan.{RouteRan}
use Rattle.host_routes.proofs.RouteKept.{taken}
use Rattle.host_routes.proofs.route.nuthkolla_run_route.Goals as goal

pub returns : goal.returns
returns c =
    let r = c.run_route_by-r.ensures in (
      c.take_over.ensures ∙ taken c.args.guidance.now c.args.caller c.args.call c.args.numbers.now c.run_route_by-r.result r,
      ap (λ (y : RouteRan). y.answer) r,
    )
