-- "Wanted of every list of calls from one loading to the next": one claim about the list, and demand 3 under a route.
use Rattle.std.specs.Prelude.{◌≡◌, Bool, true, false, cond, not, ◌&&◌, List, [], ◌∷◌, ◌++◌, ℕ, ◌+◌, ◌≤◌, length, Float, Ok}
use Rattle.laws.specs.Config.{validate}
use Rattle.laws.specs.Types.{north_east}
use Rattle.laws.specs.declared.config.PlaneGuidanceConfig.{PlaneGuidanceConfig}
use Rattle.guidance.specs.Plane.{fresh}
use Rattle.guidance.specs.declared.plane.PlaneGuidance.{PlaneGuidance}
use Rattle.claims.specs.Calls.{answered, refused, replies, after}
use Rattle.claims.specs.Demand3.{Demand3}
use Rattle.route_records.specs.Record.{load_answer, load_buffer}
use Rattle.routes.specs.Route.{RouteCall, meets, wanted, guided_to, route_call, check_lent, fly}
use Rattle.route_claims.specs.Flights.{Lent, points, Step, route, other, Flight, step, loaded, flight_after, flight_replies, all_made}

-- a route call meets the test: by the number, the configuration in force and the position of that moment
abbrev pub meets_test : Lent → Flight → RouteCall → Bool
meets_test r f k = meets f.guidance.config.loiter_radius_m (points r) f.number (north_east k.state.position_m)

-- an accepted route call that meets the test
abbrev pub moves_on : Lent → Flight → Step → Bool
moves_on r f (route k) = not (refused (step r f (route k)).reply) && meets_test r f k
moves_on r f (other k) = false

-- Of the list `calls`, from the loading of this route beside the guidance g.
pub record RouteFlown (r : Lent) (g : PlaneGuidance) (calls : List Step) : Type 0 where
  -- "the point number rises by one at exactly the accepted route calls that meet this test, otherwise stays"
  pub rises :
      (before : List Step) (k : Step) (rest : List Step) → calls ≡ before ++ (k ∷ rest) →
      let f = flight_after r (loaded g) before in
      (flight_after r (loaded g) (before ++ (k ∷ []))).number ≡ cond (moves_on r f k) (f.number + 1) f.number
  -- it starts at 1 and ends one past the last point, where it stays
  pub starts : (flight_after r (loaded g) []).number ≡ 1
  pub within :
      (before rest : List Step) → calls ≡ before ++ rest →
      (1 ≤ (flight_after r (loaded g) before).number) × ((flight_after r (loaded g) before).number ≤ length (points r) + 1)
  -- "the setpoint is the guidance's for the number then reached"
  pub answers :
      (before : List Step) (k : RouteCall) (rest : List Step) → calls ≡ before ++ (route k ∷ rest) →
      let f = flight_after r (loaded g) before in
      let o = step r f (route k) in
      refused o.reply ≡ false → o.reply ≡ answered (guided_to f.guidance (points r) o.next.number k).answer
  -- a refused route call has the guidance's refusal for the number that it would have reached, and keeps guidance and number
  pub refusals :
      (before : List Step) (k : RouteCall) (rest : List Step) → calls ≡ before ++ (route k ∷ rest) →
      let f = flight_after r (loaded g) before in
      let o = step r f (route k) in
      let n = wanted f.guidance (points r) f.number k in
      refused o.reply ≡ true → (o.reply ≡ answered (guided_to f.guidance (points r) n k).answer) × (o.next ≡ f)

-- Demand 3 of the guidance under a route, from a fresh guidance with the configuration c: a route call counts as the guide call
-- that it makes.
pub record RouteDemand3 (r : Lent) (c : PlaneGuidanceConfig) (calls : List Step) : Type 0 where
  pub same_replies_lem : flight_replies r (loaded (fresh c)) calls ≡ replies (fresh c) (all_made r (loaded (fresh c)) calls)
  pub same_guidance : (flight_after r (loaded (fresh c)) calls).guidance ≡ after (fresh c) (all_made r (loaded (fresh c)) calls)
  pub demand3 : Demand3 c (all_made r (loaded (fresh c)) calls)

-- Both hold of every route whose lent numbers are not refused, and none that was loaded is (`Flies`).
pub record EveryRoute : Type 0 where
  pub flown : (r : Lent) → check_lent r.map (length r.numbers) ≡ Ok tt → (g : PlaneGuidance) (calls : List Step) → RouteFlown r g calls
  pub demand3 :
      (r : Lent) → check_lent r.map (length r.numbers) ≡ Ok tt
      → (c : PlaneGuidanceConfig) → validate c ≡ 0 → (calls : List Step) → RouteDemand3 r c calls

-- A route that was loaded into lent numbers is never refused; one that is not refused has from 1 to 62 points, and flying it by its numbers,
-- at a number from 1 to one past the last point, is the route call over its points.
pub record Flies : Type 0 where
  pub loads :
      (s : List ℕ) (at : ℕ) (out : List Float) (map next : ℕ) → load_answer s at out ≡ Ok (record { map = map; next = next })
      → check_lent map (length (load_buffer s at out)) ≡ Ok tt
  pub flies :
      (g : PlaneGuidance) (r : Lent) (n : ℕ) (k : RouteCall) → check_lent r.map (length r.numbers) ≡ Ok tt
      → (1 ≤ length (points r)) × (length (points r) ≤ 62)
      × (1 ≤ n → n ≤ length (points r) + 1 → fly g (record { map = r.map; number = n }) r.numbers k ≡ route_call g (points r) n k)
