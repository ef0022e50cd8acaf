-- K9 of lists of what a host hands to the functions that take a caller, one after the other, with one guidance and one route.
use Rattle.std.specs.Prelude.{ℕ, ◌≡◌, Bool, true, cond, not, List, [], ◌∷◌, ◌++◌, eqb, Float}
use Rattle.guidance.specs.declared.plane.PlaneGuidance.{PlaneGuidance}
use Rattle.rights.specs.Rights.{may}
use Rattle.rights.specs.declared.Deed.{Deed}
use Rattle.rights.specs.declared.Deed.TheVariants as deed
use Rattle.rights_claims.specs.Runs.{Step, after}
use Rattle.rights_claims.specs.Claim.{TakenOut}
use Rattle.host_answers.specs.declared.answer.RunAnswer.{RunAnswer}
use Rattle.host_answers.specs.declared.place.Place.{Place}
use Rattle.host.specs.Run as running
use Rattle.host.specs.Run.{run_by}
use Rattle.host.specs.Mode as reports
use Rattle.host.specs.Mode.{report_by}
use Rattle.host.specs.declared.run.Ran.{Ran}
use Rattle.host.specs.declared.mode.Report.{Report}
use Rattle.host_routes.specs.Route.{run_route_by, load_by, load_buffer_by, write_by, write_buffer_by}
use Rattle.host_routes.specs.declared.route.RouteLoaded.{RouteLoaded}
use Rattle.host_routes.specs.declared.route.RouteNumbers.{RouteNumbers}
use Rattle.host_routes.specs.declared.route.RouteAnswer.{RouteAnswer}
use Rattle.host_routes.specs.declared.route.RouteRan.{RouteRan}

-- what a host holds: the guidance, the route's map and number, and the numbers of its points
pub record Held : Type 0 where
  pub guidance : PlaneGuidance
  pub map : ℕ
  pub number : ℕ
  pub numbers : List Float

-- nuthkolla_run (a number and bytes), nuthkolla_run_route (what comes with the call), nuthkolla_load_route (bytes and a place),
-- nuthkolla_write_route (lent bytes and a place), nuthkolla_report (a number)
pub data Ask : Type 0 where
  run : ℕ → List ℕ → Ask
  route : RouteNumbers → Ask
  load : List ℕ → ℕ → Ask
  write : List ℕ → ℕ → Ask
  report : ℕ → Ask

pub record Sent : Type 0 where
  pub caller : ℕ
  pub asks : Ask

-- what each gives: its answer, and of the writer the lent bytes after it
pub data Told : Type 0 where
  ran : RunAnswer → Told
  flown : RouteAnswer → Told
  loaded : RouteLoaded → Told
  written : Place → List ℕ → Told
  reported : Report → Told

-- ---- one call, by the definitions of the functions' contracts

abbrev pub ran_by : Held → Ran → Step Told Held
ran_by h o = record {
  answer = ran o.answer;
  left = record { guidance = o.guidance; map = h.map; number = h.number; numbers = h.numbers };
}

-- the call's numbers, with the map and the number that the host holds
abbrev pub on_route : Held → RouteNumbers → RouteNumbers
on_route h k = record {
  map = h.map;
  number = h.number;
  regime = k.regime;
  dt = k.dt;
  position_m = k.position_m;
  velocity_mps = k.velocity_mps;
  roll_rad = k.roll_rad;
  has_airspeed = k.has_airspeed;
  airspeed_mps = k.airspeed_mps;
  has_cap = k.has_cap;
  pitch_cap_rad = k.pitch_cap_rad;
}

abbrev pub flown_by : Held → RouteRan → Step Told Held
flown_by h o = record {
  answer = flown o.answer;
  left = record { guidance = o.guidance; map = h.map; number = o.answer.number; numbers = h.numbers };
}

-- a refused loading keeps map and number
abbrev pub loaded_by : Held → RouteLoaded → List Float → Step Told Held
loaded_by h o numbers = record {
  answer = loaded o;
  left = record {
    guidance = h.guidance;
    map = cond (eqb o.refusal 0) o.map h.map;
    number = cond (eqb o.refusal 0) o.number h.number;
    numbers = numbers;
  };
}

abbrev pub asked_by : Held → ℕ → Ask → Step Told Held
asked_by h caller (run what bytes) = ran_by h (run_by h.guidance caller what bytes)
asked_by h caller (route k) = flown_by h (run_route_by h.guidance caller (on_route h k) h.numbers)
asked_by h caller (load s at) = loaded_by h (load_by caller s at h.numbers) (load_buffer_by caller s at h.numbers)
asked_by h caller (write out at) =
    record { answer = written (write_by caller out at h.map h.numbers) (write_buffer_by caller out at h.map h.numbers); left = h }
asked_by h caller (report what) = record { answer = reported (report_by h.guidance caller what); left = h }

abbrev pub step : Held → Sent → Step Told Held
step h k = asked_by h k.caller k.asks

-- ---- rights

abbrev pub deed_of : Ask → Deed
deed_of (run what bytes) = running.deed_of what
deed_of (route k) = deed.RouteCall
deed_of (load s at) = deed.LoadRoute
deed_of (write out at) = deed.WriteRoute
deed_of (report what) = reports.deed_of what

abbrev pub is_forbidden : Sent → Bool
is_forbidden k = not (may k.caller (deed_of k.asks))

abbrev pub is_watchers : Sent → Bool
is_watchers k = eqb k.caller 2

-- the refusal's number
abbrev pub refusal : Told → ℕ
refusal (ran a) = a.refusal
refusal (flown a) = a.answer.refusal
refusal (loaded a) = a.refusal
refusal (written p out) = p.refusal
refusal (reported r) = r.refusal

-- the lent bytes that a call may change, and what it tells of them
abbrev pub lent_by : Ask → List ℕ
lent_by (run what bytes) = []
lent_by (route k) = []
lent_by (load s at) = []
lent_by (write out at) = out
lent_by (report what) = []

abbrev pub lent_after : Told → List ℕ
lent_after (ran a) = []
lent_after (flown a) = []
lent_after (loaded a) = []
lent_after (written p out) = out
lent_after (reported r) = []

-- Of the list `sent`, by any callers, from whatever a host holds.
pub record HostRights (h : Held) (sent : List Sent) : Type 0 where
  pub no_forbidden : TakenOut step is_forbidden h sent
  pub no_watchers : TakenOut step is_watchers h sent
  -- a forbidden call is told 13, and all that is held or lent is kept
  pub forbidden_kept :
      (before : List Sent) (k : Sent) (rest : List Sent) → sent ≡ before ++ (k ∷ rest) →
      let held = after step h before in
      is_forbidden k ≡ true →
      (refusal (step held k).answer ≡ 13) × (lent_after (step held k).answer ≡ lent_by k.asks) × ((step held k).left ≡ held)
