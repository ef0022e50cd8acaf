-- Lists of calls on a guidance under a route, from one loading to the next. Definitions only.
use Rattle.std.specs.Prelude.{List, [], ◌∷◌, ℕ, Float}
use Rattle.laws.specs.declared.types.ControlInput.TheVariants as Input
use Rattle.guidance.specs.declared.plane.PlaneGuidance.{PlaneGuidance}
use Rattle.claims.specs.Calls.{Call, guide, Reply, answered, Outcome, perform}
use Rattle.fields.specs.Fields.{ones}
use Rattle.routes.specs.Route.{RouteCall, points_of, waypoint_for, wanted, fly}
use Rattle.routes.specs.declared.Point.{Point}
use Rattle.routes.specs.declared.Flown.{Flown}

-- a route as loading leaves it: its map, and the lent numbers that hold its points
pub record Lent : Type 0 where
  pub map : ℕ
  pub numbers : List Float

abbrev pub points : Lent → List Point
points r = points_of (ones 64 r.map) r.numbers

-- a route call, or one of demand 3's calls
pub data Step : Type 0 where
  route : RouteCall → Step
  other : Call → Step

-- the guidance, and the number of the point that is flown to
pub record Flight : Type 0 where
  pub guidance : PlaneGuidance
  pub number : ℕ

pub record Stepped : Type 0 where
  pub reply : Reply
  pub next : Flight

abbrev pub flown_by : Flown → Stepped
flown_by o = record { reply = answered o.answer; next = record { guidance = o.guidance; number = o.number } }

-- "Prime and other commands keep the number."
abbrev pub number_kept : ℕ → Outcome → Stepped
number_kept n o = record { reply = o.reply; next = record { guidance = o.next; number = n } }

-- one call on a flight along a route: what the contracts of the route call and of demand 3's calls say
unfoldable pub step : Lent → Flight → Step → Stepped
step r f (route k) = flown_by (fly f.guidance (record { map = r.map; number = f.number }) r.numbers k)
step r f (other k) = number_kept f.number (perform f.guidance k)

-- "The number starts at 1 on loading"; a route is loaded beside whatever guidance there is
abbrev pub loaded : PlaneGuidance → Flight
loaded g = record { guidance = g; number = 1 }

-- ---- a run: each call gets the flight that the one before it left

unfoldable pub flight_after : Lent → Flight → List Step → Flight
flight_after r f [] = f
flight_after r f (k ∷ ks) = flight_after r (step r f k).next ks

unfoldable pub flight_replies : Lent → Flight → List Step → List Reply
flight_replies r f [] = []
flight_replies r f (k ∷ ks) = (step r f k).reply ∷ flight_replies r (step r f k).next ks

-- ---- a route call counted as the guide call that it makes

abbrev pub made : Lent → Flight → Step → Call
made r f (route k) = guide k.dt k.regime (Input.Waypoint (waypoint_for (points r) (wanted f.guidance (points r) f.number k))) k.state k.cap
made r f (other k) = k

unfoldable pub all_made : Lent → Flight → List Step → List Call
all_made r f [] = []
all_made r f (k ∷ ks) = made r f k ∷ all_made r (step r f k).next ks
