-- Calls on a guidance and its route, each by a caller. Definitions only.
use Rattle.std.specs.Prelude.{ℕ, Bool, cond, not, List, [], eqb, Float, Result, Ok, Err}
use Rattle.refusals.specs.declared.Refusal.{Refusal}
use Rattle.laws.specs.declared.config.InvalidConfig.{InvalidConfig}
use Rattle.laws.specs.declared.config.PlaneGuidanceConfig.{PlaneGuidanceConfig}
use Rattle.guidance.specs.Plane.{created, flight_mode, stall_guard}
use Rattle.guidance.specs.declared.plane.PlaneGuidance.{PlaneGuidance}
use Rattle.guidance.specs.declared.plane.Answer.{Answer}
use Rattle.guidance.specs.declared.plane.FlightModeReport.{FlightModeReport}
use Rattle.claims.specs.Calls.{Call, guide, prime, set_config, take_back, Reply, Outcome, perform}
use Rattle.route_records.specs.Record.{load_answer, load_buffer, write_answer, write_buffer}
use Rattle.route_records.specs.declared.Loaded.{Loaded}
use Rattle.routes.specs.Route.{RouteCall, fly}
use Rattle.routes.specs.declared.Route.{Route}
use Rattle.routes.specs.declared.Flown.{Flown}
use Rattle.rights.specs.Rights.{may}
use Rattle.rights.specs.declared.Deed.{Deed}
use Rattle.rights.specs.declared.Deed.TheVariants as deed
use Rattle.rights_claims.specs.Runs.{Step}

-- the guidance, the route's map and number, and the numbers of its points
pub record Held : Type 0 where
  pub guidance : PlaneGuidance
  pub route : Route
  pub numbers : List Float

-- ---- a call, whoever sends it

-- `new` of a configuration; one of demand 3's calls; a route loaded from bytes at a place; the route written into lent bytes at a
-- place; a route call; the mode report; K12's report
pub data Act : Type 0 where
  new : PlaneGuidanceConfig → Act
  call : Call → Act
  load : List ℕ → ℕ → Act
  write : List ℕ → ℕ → Act
  along : RouteCall → Act
  mode : Act
  guard : Act

-- what the caller gets: number 13; 0 or the field of number 1; a reply; a place or a refusal with the lent bytes after it; and so on
pub data Told : Type 0 where
  forbidden : List ℕ → Told
  made : ℕ → Told
  replied : Reply → Told
  loaded : Result Loaded Refusal → Told
  written : Result ℕ Refusal → List ℕ → Told
  flown : Result Answer Refusal → Told
  reported : FlightModeReport → Told
  stands : Bool → Told

abbrev pub with_guidance : Held → PlaneGuidance → Held
with_guidance h g = record h { guidance = g }

-- number 1 keeps the guidance that was there
abbrev pub made_by : Held → Result PlaneGuidance InvalidConfig → Step Told Held
made_by h (Err e) = record { answer = made e.field; left = h }
made_by h (Ok g) = record { answer = made 0; left = with_guidance h g }

abbrev pub replied_by : Held → Outcome → Step Told Held
replied_by h o = record { answer = replied o.reply; left = with_guidance h o.next }

-- "The number starts at 1 on loading"; a refused loading keeps route and number
abbrev pub loaded_by : Held → List Float → Result Loaded Refusal → Step Told Held
loaded_by h numbers (Ok l) = record {
  answer = loaded (Ok l);
  left = record h { route = record { map = l.map; number = 1 }; numbers = numbers };
}
loaded_by h numbers (Err why) = record { answer = loaded (Err why); left = h }

abbrev pub flown_by : Held → Flown → Step Told Held
flown_by h o = record {
  answer = flown o.answer;
  left = record h { guidance = o.guidance; route = record { map = h.route.map; number = o.number } };
}

-- what the contracts of guidance, route_records and routes say
unfoldable pub act : Held → Act → Step Told Held
act h (new c) = made_by h (created c)
act h (call k) = replied_by h (perform h.guidance k)
act h (load s at) = loaded_by h (load_buffer s at h.numbers) (load_answer s at h.numbers)
act h (write out at) =
    let m = h.route.map in
    record { answer = written (write_answer out at m h.numbers) (write_buffer out at m h.numbers); left = h }
act h (along k) = flown_by h (fly h.guidance h.route h.numbers k)
act h mode = record { answer = reported (flight_mode h.guidance); left = h }
act h guard = record { answer = stands (stall_guard h.guidance); left = h }

-- ---- a call by a caller

-- its row of the table of rights
abbrev pub deed_of : Act → Deed
deed_of (new c) = deed.New
deed_of (call (guide dt regime input s cap)) = deed.Guide
deed_of (call prime) = deed.Prime
deed_of (call (set_config c)) = deed.SetConfig
deed_of (call take_back) = deed.TakeBack
deed_of (load s at) = deed.LoadRoute
deed_of (write out at) = deed.WriteRoute
deed_of (along k) = deed.RouteCall
deed_of mode = deed.ModeReport
deed_of guard = deed.GuardReport

-- the lent bytes that a call may change
abbrev pub lent_by : Act → List ℕ
lent_by (new c) = []
lent_by (call k) = []
lent_by (load s at) = []
lent_by (write out at) = out
lent_by (along k) = []
lent_by mode = []
lent_by guard = []

pub record Sent : Type 0 where
  pub caller : ℕ
  pub wants : Act

abbrev pub is_forbidden : Sent → Bool
is_forbidden k = not (may k.caller (deed_of k.wants))

abbrev pub is_watchers : Sent → Bool
is_watchers k = eqb k.caller 2

-- "13: the caller lacks the right, before every other check": guidance, route, number and every buffer are kept
unfoldable pub answer_to : Held → Sent → Step Told Held
answer_to h k = cond (is_forbidden k) (record { answer = forbidden (lent_by k.wants); left = h }) (act h k.wants)
