-- A route call keeps both configurations, whoever sends it: what `take_over` leaves is the guidance after it. Assumes nothing.
use Rattle.std.proofs.Common.{ℕ, Bool, true, false, cond, ltb, List, length, Float, ◌≡◌, refl, ap, ◌∙◌, Result, Ok, Err}
use Rattle.std.specs.Prelude.{⊤}
use Rattle.refusals.specs.declared.Refusal.{Refusal}
use Rattle.refusals.specs.declared.Refusal.TheVariants as why
use Rattle.laws.specs.declared.types.ControlInput.TheVariants as Input
use Rattle.guidance.specs.Plane.{taken_over}
use Rattle.guidance.specs.declared.plane.PlaneGuidance.{PlaneGuidance}
use Rattle.guidance.proofs.plane.Kept.{guided_keeps}
use Rattle.fields.specs.Fields.{ones}
use Rattle.routes.specs.Route.{RouteCall, points_of, waypoint_for, counted, wanted, guided_to, settled, check_lent, unless_refused, fly}
use Rattle.routes.specs.declared.Route.{Route}
use Rattle.routes.specs.declared.Flown.{Flown}
use Rattle.rights.specs.Rights.{may}
use Rattle.rights.specs.declared.Deed.TheVariants as deed
use Rattle.host_routes.specs.Route.{route_of, route_call_of, flown_of, refused, run_route, run_route_by}
use Rattle.host_routes.specs.declared.route.RouteNumbers.{RouteNumbers}
use Rattle.host_routes.specs.declared.route.RouteRan.{RouteRan}

unless_keeps : (r : Result ⊤ Refusal) (g : PlaneGuidance) (number : ℕ) (o : Flown) → taken_over g o.guidance ≡ o.guidance →
    taken_over g (unless_refused r g number o).guidance ≡ (unless_refused r g number o).guidance
unless_keeps (Ok u) g number o p = p
unless_keeps (Err why) g number o p = refl

fly_keeps : (g : PlaneGuidance) (r : Route) (numbers : List Float) (k : RouteCall) →
    taken_over g (fly g r numbers k).guidance ≡ (fly g r numbers k).guidance
unfolding fly settled
fly_keeps g r numbers k =
    let points = ones 64 r.map in
    let ps = points_of points numbers in
    let m = wanted g ps (counted points r.number) k in
    unless_keeps (check_lent r.map (length numbers)) g r.number (settled r.number m (guided_to g ps m k))
    (guided_keeps g k.dt k.regime (Input.Waypoint (waypoint_for ps m)) k.state k.cap)

either : (g : PlaneGuidance) (b : Bool) (x y : RouteRan) → taken_over g x.guidance ≡ x.guidance → taken_over g y.guidance ≡ y.guidance
    → taken_over g (cond b x y).guidance ≡ (cond b x y).guidance
either g true x y p q = p
either g false x y p q = q

route_keeps : (g : PlaneGuidance) (k : RouteNumbers) (numbers : List Float) →
    taken_over g (run_route g k numbers).guidance ≡ (run_route g k numbers).guidance
unfolding run_route
route_keeps g k numbers =
    either g (ltb 1 k.regime) (refused g k why.UnknownKind) (flown_of (fly g (route_of k) numbers (route_call_of k))) refl
    (fly_keeps g (route_of k) numbers (route_call_of k))

pub route_by_keeps : (g : PlaneGuidance) (caller : ℕ) (k : RouteNumbers) (numbers : List Float) →
    taken_over g (run_route_by g caller k numbers).guidance ≡ (run_route_by g caller k numbers).guidance
unfolding run_route_by
route_by_keeps g caller k numbers =
    either g (may caller deed.RouteCall) (run_route g k numbers) (refused g k why.NoRight) (route_keeps g k numbers) refl

-- what `nuthkolla_run_route` leaves
pub taken : (g : PlaneGuidance) (caller : ℕ) (k : RouteNumbers) (numbers : List Float) (r : RouteRan) → r ≡ run_route_by g caller k numbers
    → taken_over g r.guidance ≡ (run_route_by g caller k numbers).guidance
taken g caller k numbers r e = ap (λ (y : RouteRan). taken_over g y.guidance) e ∙ route_by_keeps g caller k numbers
