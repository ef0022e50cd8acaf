-- Routes for a host: a route as the numbers that it holds and lends. Definitions only.
use Rattle.std.specs.Prelude.{ℕ, cond, List, ltb, Float, Result, Ok, Err}
use Rattle.refusals.specs.Numbers.{number}
use Rattle.refusals.specs.declared.Refusal.{Refusal}
use Rattle.refusals.specs.declared.Refusal.TheVariants as why
use Rattle.call_numbers.specs.Call.{given, regime_of}
use Rattle.guidance.specs.declared.plane.PlaneGuidance.{PlaneGuidance}
use Rattle.route_records.specs.Record.{load_answer, load_buffer, write_answer, write_buffer}
use Rattle.route_records.specs.declared.Loaded.{Loaded}
use Rattle.routes.specs.Route.{RouteCall, fly}
use Rattle.routes.specs.declared.Route.{Route}
use Rattle.routes.specs.declared.Flown.{Flown}
use Rattle.rights.specs.Rights.{may}
use Rattle.rights.specs.declared.Deed.TheVariants as deed
use Rattle.host_answers.specs.Answer.{bare, of_answer}
use Rattle.host_answers.specs.Place.{place_of}
use Rattle.host_answers.specs.declared.place.Place.{Place}
use Rattle.host_routes.specs.declared.route.RouteLoaded.{RouteLoaded}
use Rattle.host_routes.specs.declared.route.RouteNumbers.{RouteNumbers}
use Rattle.host_routes.specs.declared.route.RouteRan.{RouteRan}

-- "The number starts at 1 on loading"
abbrev pub loaded_of : Result Loaded Refusal → RouteLoaded
loaded_of (Ok r) = record { refusal = 0; number = 1; map = r.map; next = r.next }
loaded_of (Err why) = record { refusal = number why; number = 0; map = 0; next = 0 }

abbrev pub route_of : RouteNumbers → Route
route_of k = record { map = k.map; number = k.number }

unfoldable pub route_call_of : RouteNumbers → RouteCall
route_call_of k = record {
  dt = k.dt;
  regime = regime_of k.regime;
  command = tt;
  state = record {
    position_m = k.position_m;
    velocity_mps = k.velocity_mps;
    roll_rad = k.roll_rad;
    airspeed_mps = given k.has_airspeed k.airspeed_mps;
  };
  cap = given k.has_cap k.pitch_cap_rad;
}

abbrev pub flown_of : Flown → RouteRan
flown_of o = record { guidance = o.guidance; answer = record { answer = of_answer o.answer 0; number = o.number } }

-- a refusal keeps the guidance and the route's number
abbrev pub refused : PlaneGuidance → RouteNumbers → Refusal → RouteRan
refused g k why = record { guidance = g; answer = record { answer = bare (number why) 0 0; number = k.number } }

-- 7 for a regime above 1, as of a record's regime byte; then the route call
unfoldable pub run_route : PlaneGuidance → RouteNumbers → List Float → RouteRan
run_route g k numbers = cond (ltb 1 k.regime) (refused g k why.UnknownKind) (flown_of (fly g (route_of k) numbers (route_call_of k)))

-- ---- by a caller: "13: the caller lacks the right, before every other check"

unfoldable pub run_route_by : PlaneGuidance → ℕ → RouteNumbers → List Float → RouteRan
run_route_by g caller k numbers = cond (may caller deed.RouteCall) (run_route g k numbers) (refused g k why.NoRight)

unfoldable pub load_by : ℕ → List ℕ → ℕ → List Float → RouteLoaded
load_by caller s at out = loaded_of (cond (may caller deed.LoadRoute) (load_answer s at out) (Err why.NoRight))

unfoldable pub load_buffer_by : ℕ → List ℕ → ℕ → List Float → List Float
load_buffer_by caller s at out = cond (may caller deed.LoadRoute) (load_buffer s at out) out

unfoldable pub write_by : ℕ → List ℕ → ℕ → ℕ → List Float → Place
write_by caller out at map numbers = place_of (cond (may caller deed.WriteRoute) (write_answer out at map numbers) (Err why.NoRight))

unfoldable pub write_buffer_by : ℕ → List ℕ → ℕ → ℕ → List Float → List ℕ
write_buffer_by caller out at map numbers = cond (may caller deed.WriteRoute) (write_buffer out at map numbers) out
