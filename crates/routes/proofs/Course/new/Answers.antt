use native.Mathlib.Omega.{arith}
use Rattle.std.proofs.Common.{sym, ◌∙◌}
use Rattle.std.proofs.lemmas.List.{length-take-le}
use Rattle.routes.proofs.PointsLaw.{some_points, few_points}
use Rattle.routes.proofs.Course.new.Goals as goal

pub invariant_of-result : goal.invariant_of-result
invariant_of-result c =
    let e = sym c.check_map.ensures ∙ c.in_ok-check_map.was in
    let l = length-take-le c.count-count.result c.as_chunks.result.0.now c.if-all-count.false in
    record {
      some = omega (arith, l, some_points _ e, c.count-count.ensures);
      few = omega (arith, l, few_points _ e, c.count-count.ensures);
      from_one = omega arith;
      within = omega (arith, l, c.clamp.ensures);
    }
