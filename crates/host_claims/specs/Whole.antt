-- Demand 3 of lists of everything that a host hands to the functions that take a caller, route calls and loadings among them.
use Rattle.std.specs.Prelude.{ℕ, ◌≡◌, Bool, true, false, cond, not, ◌&&◌, List, [], ◌∷◌, ◌++◌, eqb, ltb, length, Float, Option, is_ok}
use Rattle.laws.specs.Config.{validate}
use Rattle.laws.specs.declared.config.PlaneGuidanceConfig.{PlaneGuidanceConfig}
use Rattle.laws.specs.declared.types.ControlInput.TheVariants as Command
use Rattle.laws.specs.declared.types.VehicleState.{VehicleState}
use Rattle.laws.specs.declared.types.WaypointCommand.{WaypointCommand}
use Rattle.guidance.specs.Plane.{fresh}
use Rattle.guidance.specs.declared.plane.PlaneGuidance.{PlaneGuidance}
use Rattle.guidance.specs.declared.plane.Laws.{Laws}
use Rattle.claims.specs.Calls.{Call, guide, prime, set_config, take_back, perform, struck, fell_back, unmarked, starts_fresh, settings_of, fresh_with}
use Rattle.claims.specs.Limits.{InForce, at_start, in_force_after, WaypointLimits}
use Rattle.fields.specs.Fields.{ones}
use Rattle.routes.specs.Route.{points_of, waypoint_for, wanted, counted, check_lent}
use Rattle.rights.specs.Rights.{may}
use Rattle.rights.specs.declared.Deed.TheVariants as deed
use Rattle.rights_claims.specs.Runs.{Step, answers, after}
use Rattle.host_answers.specs.Answer.{bare, of_reply, lateral_number, vertical_number}
use Rattle.host_answers.specs.declared.answer.RunAnswer.{RunAnswer}
use Rattle.host_routes.specs.Route.{route_call_of}
use Rattle.host_routes.specs.declared.route.RouteNumbers.{RouteNumbers}
use Rattle.host_claims.specs.Inputs.{Input, Meaning, a_call, a_fresh, refused_as, meaning, NoFresh}
use Rattle.host_claims.specs.Inputs as inputs
use Rattle.host_claims.specs.Rights.{Held, Ask, run, route, load, write, report, Sent, Told, ran, flown, loaded, written, reported, step, on_route, refusal, lent_by, lent_after}

-- ---- an input as the functions get it

-- what is sent, with the route's map, number and numbers as the host then holds them: it hands these over with a route call
pub record Handed : Type 0 where
  pub map : ℕ
  pub number : ℕ
  pub numbers : List Float
  pub sent : Sent

abbrev pub held_with : PlaneGuidance → Handed → Held
held_with g i = record { guidance = g; map = i.map; number = i.number; numbers = i.numbers }

abbrev pub handed_at : Held → Sent → Handed
handed_at h k = record { map = h.map; number = h.number; numbers = h.numbers; sent = k }

-- a host's list
unfoldable pub handed_over : Held → List Sent → List Handed
handed_over h [] = []
handed_over h (k ∷ ks) = handed_at h k ∷ handed_over (step h k).left ks

-- the mode report, whose value demand 3 does not speak of
abbrev pub asks_mode : Ask → Bool
asks_mode (run what bytes) = false
asks_mode (route k) = false
asks_mode (load s at) = false
asks_mode (write out at) = false
asks_mode (report what) = eqb what 0

-- every answer but that value: of a mode report counts whether it is refused
abbrev pub spoken : Ask → Told → Told
spoken a (ran r) = ran r
spoken a (flown r) = flown r
spoken a (loaded r) = loaded r
spoken a (written p out) = written p out
spoken a (reported r) = reported (record { refusal = r.refusal; value = cond (asks_mode a) 0 r.value })

-- the answer, and the guidance that is left
abbrev pub hears : PlaneGuidance → Handed → Step Told PlaneGuidance
hears g i =
    let o = step (held_with g i) i.sent in
    record { answer = spoken i.sent.asks o.answer; left = o.left.guidance }

-- the answers to a host's list
unfoldable pub heard : Held → List Sent → List Told
heard h [] = []
heard h (k ∷ ks) = spoken k.asks (step h k).answer ∷ heard (step h k).left ks

abbrev pub is_refused : Told → Bool
is_refused t = not (eqb (refusal t) 0)

-- the answer to a call on the guidance
abbrev pub answer_of : Told → RunAnswer
answer_of (ran a) = a
answer_of (flown a) = a.answer
answer_of (loaded a) = bare 0 0 0
answer_of (written p out) = bare 0 0 0
answer_of (reported r) = bare 0 0 0

-- ---- what it counts as

-- one of demand 3's calls, with the place after its record; or nothing, where no such call is reached
pub data Counts : Type 0 where
  makes : Call → ℕ → Counts
  aside : Counts

abbrev pub by_meaning : Meaning → Counts
by_meaning (a_call k next) = makes k next
by_meaning (a_fresh c next) = aside
by_meaning (refused_as n failing next) = aside

-- the guide call that a route call makes; of the guidance the configuration in force is read, and nothing else
abbrev pub guide_of : Held → RouteNumbers → Call
guide_of h k =
    let c = route_call_of (on_route h k) in
    let points = ones 64 h.map in
    let ps = points_of points h.numbers in
    guide c.dt c.regime (Command.Waypoint (waypoint_for ps (wanted h.guidance ps (counted points h.number) c))) c.state c.cap

-- a route call makes it unless the caller, the regime or the lent numbers are refused
abbrev pub reaches : Held → ℕ → RouteNumbers → Bool
reaches h caller k = may caller deed.RouteCall && (not (ltb 1 k.regime) && is_ok (check_lent h.map (length h.numbers)))

abbrev pub counts_by : Held → ℕ → Ask → Counts
counts_by h caller (run what bytes) = by_meaning (meaning (record { caller = caller; what = what; bytes = bytes }))
counts_by h caller (route k) = cond (reaches h caller k) (makes (guide_of h k) 0) aside
counts_by h caller (load s at) = aside
counts_by h caller (write out at) = aside
counts_by h caller (report what) = aside

abbrev pub counts_as : PlaneGuidance → Handed → Counts
counts_as g i = counts_by (held_with g i) i.sent.caller i.sent.asks

-- no fresh guidance is made: that would start a list of its own
abbrev pub NoNew : ℕ → Ask → Type 0
NoNew caller (run what bytes) = NoFresh (meaning (record { caller = caller; what = what; bytes = bytes }))
NoNew caller (route k) = Unit {0}
NoNew caller (load s at) = Unit {0}
NoNew caller (write out at) = Unit {0}
NoNew caller (report what) = Unit {0}

unfoldable pub OneFlight : List Sent → Type 0
OneFlight [] = Unit {0}
OneFlight (k ∷ ks) = NoNew k.caller k.asks × OneFlight ks

unfoldable pub sents : List Handed → List Sent
sents [] = []
sents (i ∷ is) = i.sent ∷ sents is

-- ---- striking, by the input and its answer

-- every refused input, and every hold unless the last accepted guide, route or prime call before it was a fallback
abbrev pub struck_by : Bool → Counts → Bool → Bool
struck_by before (makes k next) refused = struck before k refused
struck_by before aside refused = refused

abbrev pub fell_back_by : Bool → Counts → Bool → Bool
fell_back_by before (makes k next) refused = fell_back before k refused
fell_back_by before aside refused = before

-- the marks of a run, read off the list as first run; `before`: the last such call was a fallback
unfoldable pub marks_from : Bool → PlaneGuidance → List Handed → List Bool
marks_from before g [] = []
marks_from before g (i ∷ is) =
    let o = hears g i in
    let r = is_refused o.answer in
    struck_by before (counts_as g i) r ∷ marks_from (fell_back_by before (counts_as g i) r) o.left is

-- ---- limits, of the host's own numbers

-- an accepted waypoint's answer: a plane setpoint within the limits, with the numbers of its two laws
pub record Tells (i : InForce) (dt : Float) (w : WaypointCommand) (s : VehicleState) (cap : Option Float) (a : RunAnswer) : Type 0 where
  pub laws : Laws
  pub setpoint_is : a.setpoint ≡ 1
  pub lateral_is : a.lateral ≡ lateral_number laws.lateral
  pub vertical_is : a.vertical ≡ vertical_number laws.vertical
  pub within : WaypointLimits i dt w s cap laws a.roll a.pitch a.thrust

abbrev pub HostObeys : InForce → Call → RunAnswer → Type 0
HostObeys i (guide dt regime (Command.Attitude k) s cap) a = Unit {0}
HostObeys i (guide dt regime (Command.Rate k) s cap) a = Unit {0}
HostObeys i (guide dt regime (Command.Waypoint w) s cap) a = inputs.refused a ≡ false → Tells i dt w s cap a
HostObeys i (guide dt regime (Command.AbsoluteAttitude k) s cap) a = Unit {0}
HostObeys i (guide dt regime Command.Land s cap) a = Unit {0}
HostObeys i (guide dt regime (Command.AbsoluteRate k) s cap) a = Unit {0}
HostObeys i prime a = Unit {0}
HostObeys i (set_config c) a = Unit {0}
HostObeys i take_back a = Unit {0}

abbrev pub in_force_by : InForce → Counts → Bool → InForce
in_force_by i (makes k next) refused = in_force_after i k refused
in_force_by i aside refused = i

abbrev pub Within : InForce → Counts → Told → Type 0
Within i (makes k next) t = HostObeys i k (answer_of t)
Within i aside t = Unit {0}

-- every input of the list, with what is in force after it
unfoldable pub AllWithin : InForce → PlaneGuidance → List Handed → Type 0
AllWithin i g [] = Unit {0}
AllWithin i g (x ∷ xs) =
    let o = hears g x in
    let j = in_force_by i (counts_as g x) (is_refused o.answer) in
    Within j (counts_as g x) o.answer × AllWithin j o.left xs

-- ---- the claim

-- it does what it counts as: the guidance that the call leaves, and its reply in the host's numbers; else it keeps the guidance
abbrev pub Does : PlaneGuidance → Step Told PlaneGuidance → Counts → Type 0
Does g o (makes k next) = (o.left ≡ (perform g k).next) × (answer_of o.answer ≡ of_reply (perform g k).reply next)
Does g o aside = o.left ≡ g

-- Directly after a fresh start: both configurations of that moment pass `validate`, and all inputs that follow get the answers that a
-- fresh guidance with these settings gives.
pub record BesideFresh (g : PlaneGuidance) (rest : List Handed) : Type 0 where
  pub valid : validate (settings_of g).config ≡ 0
  pub kept_valid : validate (settings_of g).former.config ≡ 0
  pub same : answers hears g rest ≡ answers hears (fresh_with (settings_of g)) rest

-- Of the list `list`, run on a guidance that NEW made of the configuration c.
pub record HostWhole (c : PlaneGuidanceConfig) (list : List Handed) : Type 0 where
  -- Each input does what it counts as.
  pub does :
      (before : List Handed) (i : Handed) (rest : List Handed) → list ≡ before ++ (i ∷ rest) →
      let g = after hears (fresh c) before in
      Does g (hears g i) (counts_as g i)
  -- Struck inputs: the remaining ones, handed over as they were and run from the same start, get their first answers again. (As they were:
  -- a route call with the number of then, which a struck hold may have moved on.)
  pub struck :
      answers hears (fresh c) (unmarked (marks_from false (fresh c) list) list)
      ≡ unmarked (marks_from false (fresh c) list) (answers hears (fresh c) list)
  -- Fresh start: directly after an accepted prime or an accepted command other than a waypoint.
  pub fresh_start :
      (before : List Handed) (i : Handed) (rest : List Handed) → list ≡ before ++ (i ∷ rest) →
      let g = after hears (fresh c) before in
      let o = hears g i in
      (k : Call) (next : ℕ) → counts_as g i ≡ makes k next →
      starts_fresh k (is_refused o.answer) ≡ true →
      BesideFresh o.left rest
  -- Limits: every accepted waypoint call and route call obeys them.
  pub limits : AllWithin (at_start c) (fresh c) list

-- another guidance with the same route
abbrev pub beside_route : PlaneGuidance → Held → Held
beside_route g h = record { guidance = g; map = h.map; number = h.number; numbers = h.numbers }

-- From one `NUTHKOLLA_NEW` to the next: what the host, which then holds h, hands over in between is such a list, and gets its answers.
pub record FromNew (h : Held) (c : PlaneGuidanceConfig) (rest : List Sent) : Type 0 where
  pub started : h.guidance ≡ fresh c
  pub same : heard h rest ≡ answers hears (fresh c) (handed_over h rest)
  pub whole : HostWhole c (handed_over h rest)
  -- Directly after a fresh start the host's own list, route and all, goes on as it does with a fresh guidance of these settings.
  pub own_fresh :
      (before : List Sent) (k : Sent) (later : List Sent) → rest ≡ before ++ (k ∷ later) →
      let o = step (after step h before) k in
      (made : Call) (next : ℕ) → counts_by (after step h before) k.caller k.asks ≡ makes made next →
      starts_fresh made (is_refused o.answer) ≡ true →
      heard o.left later ≡ heard (beside_route (fresh_with (settings_of o.left.guidance)) o.left) later

-- ---- refused inputs alone

-- which of them were refused
unfoldable pub refusals_of : Held → List Sent → List Bool
refusals_of h [] = []
refusals_of h (k ∷ ks) = is_refused (step h k).answer ∷ refusals_of (step h k).left ks

-- Of every list of a host's own, from whatever it holds: without the refused inputs of every function, NEW among them, every other answer,
-- the reports' values too, and all that is held stay as they were, and a refused input keeps what is lent to it.
pub record RefusedGone (h : Held) (sent : List Sent) : Type 0 where
  pub same_answers : answers step h (unmarked (refusals_of h sent) sent) ≡ unmarked (refusals_of h sent) (answers step h sent)
  pub same_after : after step h (unmarked (refusals_of h sent) sent) ≡ after step h sent
  pub lent_kept :
      (before : List Sent) (k : Sent) (rest : List Sent) → sent ≡ before ++ (k ∷ rest) →
      let o = step (after step h before) k in
      is_refused o.answer ≡ true → lent_after o.answer ≡ lent_by k.asks

-- an input to `nuthkolla_run`, as sent
abbrev pub as_sent : Input → Sent
as_sent i = record { caller = i.caller; asks = run i.what i.bytes }
