-- K2 of lists of what a host hands to the functions that take a caller, from an accepted loading of a route to the next.
use Rattle.std.specs.Prelude.{ℕ, ◌+◌, ◌≤◌, ◌≡◌, Bool, true, false, cond, ◌&&◌, List, [], ◌∷◌, ◌++◌, eqb, length}
use Rattle.laws.specs.Types.{north_east}
use Rattle.routes.specs.Route.{meets, guided_to}
use Rattle.route_claims.specs.Flights.{Lent, points}
use Rattle.rights_claims.specs.Runs.{after}
use Rattle.host_answers.specs.Answer.{of_answer}
use Rattle.host_routes.specs.Route.{route_call_of}
use Rattle.host_routes.specs.declared.route.RouteNumbers.{RouteNumbers}
use Rattle.host_claims.specs.Rights.{Held, Ask, run, route, load, write, report, Sent, flown, on_route, step, refusal}

-- the route that a host holds
abbrev pub lent : Held → Lent
lent h = record { map = h.map; numbers = h.numbers }

-- ---- from one accepted loading to the next

abbrev pub accepted : Held → Sent → Bool
accepted h k = eqb (refusal (step h k).answer) 0

abbrev pub is_load : Ask → Bool
is_load (run what bytes) = false
is_load (route k) = false
is_load (load s at) = true
is_load (write out at) = false
is_load (report what) = false

abbrev pub loads : Held → Sent → Bool
loads h k = is_load k.asks && accepted h k

-- no loading in the list is accepted; fresh guidances, refused loadings, reports, writes and forbidden calls may stand in it
unfoldable pub NoLoading : Held → List Sent → Type 0
NoLoading h [] = Unit {0}
NoLoading h (k ∷ ks) = (loads h k ≡ false) × NoLoading (step h k).left ks

-- ---- the claim

-- a route call meets the test: by the number, the configuration in force and the position of that moment
abbrev pub meets_test : Held → Ask → Bool
meets_test h (run what bytes) = false
meets_test h (route k) = meets h.guidance.config.loiter_radius_m (points (lent h)) h.number (north_east k.position_m)
meets_test h (load s at) = false
meets_test h (write out at) = false
meets_test h (report what) = false

-- an accepted route call that meets the test
abbrev pub moves_on : Held → Sent → Bool
moves_on h k = accepted h k && meets_test h k.asks

abbrev pub along : ℕ → RouteNumbers → Sent
along caller k = record { caller = caller; asks = route k }

-- Of the list `sent`, from what an accepted loading left.
pub record HostRouteFlown (h : Held) (sent : List Sent) : Type 0 where
  pub starts : h.number ≡ 1
  -- "the point number rises by one at exactly the accepted route calls that meet this test, otherwise stays"
  pub rises :
      (before : List Sent) (k : Sent) (rest : List Sent) → sent ≡ before ++ (k ∷ rest) →
      let held = after step h before in
      (step held k).left.number ≡ cond (moves_on held k) (held.number + 1) held.number
  -- it ends one past the last point, and the points stay
  pub within :
      (before rest : List Sent) → sent ≡ before ++ rest →
      let held = after step h before in
      (lent held ≡ lent h) × (1 ≤ held.number) × (held.number ≤ length (points (lent h)) + 1)
  -- "the setpoint is the guidance's for the number then reached"
  pub answers :
      (before : List Sent) (caller : ℕ) (k : RouteNumbers) (rest : List Sent) → sent ≡ before ++ (along caller k ∷ rest) →
      let held = after step h before in
      let o = step held (along caller k) in
      let call = route_call_of (on_route held k) in
      accepted held (along caller k) ≡ true →
      o.answer
      ≡ flown (record {
        answer = of_answer (guided_to held.guidance (points (lent h)) o.left.number call).answer 0;
        number = o.left.number;
      })
  -- a refused route call keeps guidance, route and number
  pub refusals :
      (before : List Sent) (caller : ℕ) (k : RouteNumbers) (rest : List Sent) → sent ≡ before ++ (along caller k ∷ rest) →
      let held = after step h before in
      accepted held (along caller k) ≡ false → (step held (along caller k)).left ≡ held

abbrev pub EveryLoading : Type 0
EveryLoading = (h : Held) (l : Sent) (sent : List Sent) → loads h l ≡ true → NoLoading (step h l).left sent → HostRouteFlown (step h l).left sent
