-- The claims hold of every list of calls. Assumes nothing.
use Rattle.std.specs.Prelude.{Option, Ok, is_ok, Float}
use mathlib.Core.Path.{◌≡◌, refl, sym, ap, ◌∙◌}
use Rattle.std.proofs.lemmas.Bool.{not-false, not-true}
use mathlib.Core.Bool.{Bool, true, false, cond, not, ◌&&◌}
use mathlib.Core.List.{List, [], ◌∷◌, ◌++◌}
use Prim.Native.Nat.{ℕ, ◌+◌, ◌-◌, ◌≤◌}
use native.Mathlib.Omega.{arith}
use borrow.Author.Tests.{eqb-true, leb-true}
use lib.Dec.{eqb, leb}
use lib.ListN.{length}
use lib.Ieee.{Float}
use Rattle.arithmetic.specs.declared.vector.Vec2.{Vec2}
use Rattle.laws.specs.Config.{validate}
use Rattle.laws.specs.declared.config.PlaneGuidanceConfig.{PlaneGuidanceConfig}
use Rattle.laws.specs.declared.types.FlightRegime.{FlightRegime}
use Rattle.laws.specs.declared.types.VehicleState.{VehicleState}
use Rattle.laws.specs.declared.types.WaypointCommand.{WaypointCommand}
use Rattle.laws.specs.declared.types.ControlInput.TheVariants as Input
use Rattle.guidance.specs.Plane.{fresh, bad_time_step, bad_cap, all_finite, waypoint, obeyed, guided}
use Rattle.guidance.specs.declared.plane.PlaneGuidance.{PlaneGuidance}
use Rattle.guidance.specs.declared.plane.Guided.{Guided}
use Rattle.claims.specs.Calls.{Call, Reply, answered, refused, perform, replies, after}
use Rattle.claims.proofs.Demand3 as proved
use Rattle.routes.specs.Route.{RouteCall, settled, is_near, is_passed, numbered, meets, reached, wanted, guided_to, route_call, check_lent}
use Rattle.routes.specs.declared.Point.{Point}
use Rattle.route_claims.specs.Flights.{
  Lent,
  points,
  Step,
  route,
  other,
  Flight,
  flown_by,
  step,
  loaded,
  flight_after,
  flight_replies,
  made,
  all_made,
}
use Rattle.route_claims.specs.Claim.{meets_test, moves_on, RouteFlown, RouteDemand3, EveryRoute}
use Rattle.route_claims.proofs.Loaded.{some, fly_is}

-- ---- one call

-- a refusal returns the guidance as it was, and has a number
abbrev Told : PlaneGuidance → Guided → Type 0
Told g o = (is_ok o.answer ≡ false → o.guidance ≡ g) × (refused (answered o.answer) ≡ not (is_ok o.answer))

either : (g : PlaneGuidance) (b : Bool) (x y : Guided) → Told g x → Told g y → Told g (cond b x y)
either g true x y p q = p
either g false x y p q = q

waypoint_told : (g : PlaneGuidance) (dt : Float) (r : FlightRegime) (w : WaypointCommand) (s : VehicleState) (cap : Option Float)
    → Told g (guided g dt r (Input.Waypoint w) s cap)
unfolding guided obeyed waypoint
waypoint_told g dt r w s cap =
    either g (bad_time_step dt) _ _ (λ e. refl, refl)
    (either g (bad_cap cap) _ _ (λ e. refl, refl) (either g (all_finite _) _ _ (λ e. cc, refl) (λ e. refl, refl)))

raised : (accepted met : Bool) (n : ℕ) → cond accepted (cond met (n + 1) n) n ≡ cond (not (not accepted) && met) (n + 1) n
raised true true n = refl
raised true false n = refl
raised false true n = refl
raised false false n = refl

-- a number that the points have, or one past the last
abbrev Within : List Point → ℕ → Type 0
Within ps n = (1 ≤ n) × (n ≤ length ps + 1)

module _ (r : Lent) (ok : check_lent r.map (length r.numbers) ≡ Ok tt) where
  module _ (f : Flight) (k : RouteCall) (w : Within (points r) f.number) where
    abbrev Next : ℕ
    Next = wanted f.guidance (points r) f.number k

    abbrev O : Guided
    O = guided_to f.guidance (points r) Next k

    route_is : step r f (route k) ≡ flown_by (settled f.number Next O)
    unfolding step route_call
    route_is = ap flown_by (fly_is r ok f.guidance f.number k w.0 w.1)

    route_number : (step r f (route k)).next.number ≡ cond (is_ok O.answer) Next f.number
    unfolding settled
    route_number = rw route_is refl

    route_reply : (step r f (route k)).reply ≡ answered O.answer
    unfolding settled
    route_reply = rw route_is refl

    route_guidance : (step r f (route k)).next.guidance ≡ O.guidance
    unfolding settled
    route_guidance = rw route_is refl

    is_refused : refused (step r f (route k)).reply ≡ not (is_ok O.answer)
    is_refused = rw route_reply (waypoint_told f.guidance k.dt k.regime _ k.state k.cap).1

    answer_is : refused (step r f (route k)).reply ≡ false
        → (step r f (route k)).reply ≡ answered (guided_to f.guidance (points r) (step r f (route k)).next.number k).answer
    answer_is e =
        let yes : is_ok O.answer ≡ true = not-false _ (sym is_refused ∙ e) in
        let n : (step r f (route k)).next.number ≡ Next = route_number ∙ rw yes in
        rw (n, route_reply)

    refusal_is : refused (step r f (route k)).reply ≡ true → ((step r f (route k)).reply ≡ answered O.answer) × ((step r f (route k)).next ≡ f)
    refusal_is e =
        let no : is_ok O.answer ≡ false = not-true _ (sym is_refused ∙ e) in
        let n : (step r f (route k)).next.number ≡ f.number = route_number ∙ rw no in
        let g : (step r f (route k)).next.guidance ≡ f.guidance =
        route_guidance ∙ (waypoint_told f.guidance k.dt k.regime _ k.state k.cap).0 no in
        (route_reply, λ i. record { guidance = g i; number = n i })

  other_number : (f : Flight) (k : Call) → (step r f (other k)).next.number ≡ f.number
  unfolding step
  other_number f k = refl

  -- ---- the number rises by one at exactly the accepted route calls that meet the test

  rises_once : (f : Flight) (k : Step) → Within (points r) f.number → (step r f k).next.number ≡ cond (moves_on r f k) (f.number + 1) f.number
  unfolding reached
  rises_once f (route k) w =
      route_number f k w ∙ raised (is_ok (O f k w).answer) (meets_test r f k) f.number
      ∙ ap (λ (b : Bool). cond (not b && meets_test r f k) (f.number + 1) f.number) (sym (is_refused f k w))
  rises_once f (other k) w = other_number f k

  after_more : (f : Flight) (before : List Step) (k : Step) → flight_after r f (before ++ (k ∷ [])) ≡ (step r (flight_after r f before) k).next
  unfolding flight_after
  after_more f [] k = refl
  after_more f (b ∷ bs) k = after_more (step r f b).next bs k

  -- ---- it stays from 1 to one past the last point

  -- where the test is met there is one more number
  met_within : (radius : Float) (n : ℕ) (position : Vec2) → Within (points r) n → meets radius (points r) n position ≡ true → Within (points r) (n + 1)
  unfolding meets
  met_within radius n position w e = go (eqb n 1) refl (leb n (length ps)) refl e
    where
      ps : List Point
      ps = points r

      go : (a : Bool) → eqb n 1 ≡ a → (b : Bool) → leb n (length ps) ≡ b
          → cond a (is_near (numbered ps 1) position radius) (cond b (is_passed (numbered ps (n - 1)) (numbered ps n) position) false) ≡ true
          → Within ps (n + 1)
      go true p b q z = let one : n ≡ 1 = eqb-true n 1 p in (omega arith, omega (arith, some r ok))
      go false p true q z = let l : n ≤ length ps = leb-true n (length ps) q in (omega arith, omega arith)
      go false p false q z = absurd (cc)

  step_within : (f : Flight) (k : Step) → Within (points r) f.number → Within (points r) (step r f k).next.number
  step_within f (route k) w = rw (rises_once f (route k) w) (go (refused (step r f (route k)).reply) (meets_test r f k) refl)
    where
      go : (a b : Bool) → meets_test r f k ≡ b → Within (points r) (cond (not a && b) (f.number + 1) f.number)
      go true b e = w
      go false true e = met_within _ f.number _ w e
      go false false e = w
  step_within f (other k) w = rw (other_number f k) w

  after_within : (f : Flight) (ks : List Step) → Within (points r) f.number → Within (points r) (flight_after r f ks).number
  unfolding flight_after
  after_within f [] w = w
  after_within f (k ∷ ks) w = after_within (step r f k).next ks (step_within f k w)

  first : Within (points r) 1
  first = (omega arith, omega arith)

  route_flown : (g : PlaneGuidance) (calls : List Step) → RouteFlown r g calls
  unfolding flight_after
  route_flown g calls =
      record {
        rises = λ before k rest at.
            ap (λ (f : Flight). f.number) (after_more (loaded g) before k)
            ∙ rises_once (flight_after r (loaded g) before) k (after_within (loaded g) before first);
        starts = refl;
        within = λ before rest at. after_within (loaded g) before first;
        answers = λ before k rest at. answer_is (flight_after r (loaded g) before) k (after_within (loaded g) before first);
        refusals = λ before k rest at. refusal_is (flight_after r (loaded g) before) k (after_within (loaded g) before first);
      }

  -- ---- demand 3: a step is the call that it makes

  made_reply : (f : Flight) (k : Step) → Within (points r) f.number → (step r f k).reply ≡ (perform f.guidance (made r f k)).reply
  unfolding step perform
  made_reply f (route k) w = route_reply f k w
  made_reply f (other k) w = refl

  made_next : (f : Flight) (k : Step) → Within (points r) f.number → (step r f k).next.guidance ≡ (perform f.guidance (made r f k)).next
  unfolding step perform
  made_next f (route k) w = route_guidance f k w
  made_next f (other k) w = refl

  replies_made : (f : Flight) (ks : List Step) → Within (points r) f.number → flight_replies r f ks ≡ replies f.guidance (all_made r f ks)
  unfolding flight_replies replies all_made
  replies_made f [] w = refl
  replies_made f (k ∷ ks) w =
      rw (← made_reply f k w, ← made_next f k w)
      (ap (λ (rs : List Reply). (step r f k).reply ∷ rs) (replies_made (step r f k).next ks (step_within f k w)))

  after_made : (f : Flight) (ks : List Step) → Within (points r) f.number → (flight_after r f ks).guidance ≡ after f.guidance (all_made r f ks)
  unfolding flight_after after all_made
  after_made f [] w = refl
  after_made f (k ∷ ks) w =
      after_made (step r f k).next ks (step_within f k w)
      ∙ ap (λ (g : PlaneGuidance). after g (all_made r (step r f k).next ks)) (made_next f k w)

  route_demand3 : (c : PlaneGuidanceConfig) → validate c ≡ 0 → (calls : List Step) → RouteDemand3 r c calls
  route_demand3 c e calls =
      record {
        same_replies_lem = replies_made (loaded (fresh c)) calls first;
        same_guidance = after_made (loaded (fresh c)) calls first;
        demand3 = proved.demand3 c e (all_made r (loaded (fresh c)) calls);
      }

pub every_route : EveryRoute
every_route = record { flown = route_flown; demand3 = route_demand3 }
