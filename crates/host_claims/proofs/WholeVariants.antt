-- Why demand 3 of a host's lists is stated as it is: for each nearby statement a list on which it fails, by computation. Assumes nothing.
use Prim.Native.Nat.{ℕ}
use mathlib.Core.Path.{◌≡◌, refl}
use mathlib.Core.Bool.{Bool, true, false, ◌&&◌, ◌||◌}
use mathlib.Core.List.{List, [], ◌∷◌}
use lib.Dec.{eqb}
use lib.Ieee as Ieee
use lib.Ieee.{Float, neg, binary32, to_bits, of_bits, le, is_nan}
use Rattle.arithmetic.specs.Constants.{f32, n0, n1}
use Rattle.arithmetic.specs.Order.{least, greatest, clamp, finite, size}
use Rattle.arithmetic.specs.Root.{root_of}
use Rattle.arithmetic.specs.Vector.{norm, dot, normalise}
use Rattle.arithmetic.specs.Trigonometry.{sine, folded, cosine_of_folded, cosine, arctangent}
use Rattle.laws.specs.Config.{tecs_default, default}
use Rattle.laws.specs.Math.{limit_or_zero, clamp_symmetric, saturate_throttle, lagged, all_finite}
use Rattle.laws.specs.Types.{at_least_zero, valid_airspeed}
use Rattle.laws.specs.Navigation.{no_course, idle, cross_track, loiter_accel, finite_leg, lateral_accel, bank_for_accel, pi_pinned, pi_finite, pi_step}
use Rattle.laws.specs.Tecs.{reset, all_inputs_finite, hold}
use Rattle.guidance.specs.Plane as Plane
use Rattle.guidance.specs.Plane.{fresh}
use Rattle.guidance.specs.declared.plane.PlaneGuidance.{PlaneGuidance}
use Rattle.claims.specs.Calls.{Call, perform, struck, holds, fell_back, unmarked}
use Rattle.fields.specs.Fields.{ones}
use Rattle.routes.specs.Route as routes
use Rattle.route_records.specs.Record.{number_count, check_map}
use Rattle.rights.specs.Rights.{may}
use Rattle.rights_claims.specs.Runs.{Step, answers}
use Rattle.host_answers.specs.Answer.{bare}
use Rattle.call_numbers.specs.Call.{given, regime_of}
use Rattle.host.specs.Mode as reports
use Rattle.host_routes.specs.Route.{route_call_of, run_route, run_route_by}
use Rattle.host_claims.specs.Rights.{Held, route, report, Sent, Told, ran, flown, loaded, written, reported, step}
use Rattle.host_claims.specs.Whole.{Handed, held_with, handed_over, hears, is_refused, answer_of, Counts, makes, aside, counts_as}

-- ---- a route of two points, one metre up, the first at the origin and the second 1,000 metres north, at 20 m/s
start : Held
start = record {
  guidance = fresh default;
  map = 3;
  number = 1;
  numbers = n0 ∷ n0 ∷ n1 ∷ f32 0x41a00000 ∷ f32 0x447a0000 ∷ n0 ∷ n1 ∷ f32 0x41a00000 ∷ [];
}

-- a deckhand's route call at rest, this far north, with this regime and airspeed
call : Float → ℕ → ℕ → Float → Sent
call north regime has airspeed = record {
  caller = 1;
  asks = route (record {
    map = 0;
    number = 0;
    regime = regime;
    dt = n1;
    position_m = record { x = north; y = n0; z = n0 };
    velocity_mps = record { x = n0; y = n0; z = n0 };
    roll_rad = n0;
    has_airspeed = has;
    airspeed_mps = airspeed;
    has_cap = 0;
    pitch_cap_rad = n0;
  });
}

-- without an airspeed: a fallback, whose integral grows by 1
fall : Float → Sent
fall north = call north 1 0 n0

-- at an airspeed of infinity: a hold
held : ℕ → Sent
held regime = call n0 regime 1 (f32 0x7f800000)

-- ---- a way of striking
by : (Bool → Call → Bool → Bool) → Bool → Counts → Bool → Bool
by goes before (makes k next) r = goes before k r
by goes before aside r = r

fell : Bool → Counts → Bool → Bool
fell before (makes k next) r = fell_back before k r
fell before aside r = before

marks_by : (Bool → Call → Bool → Bool) → Bool → PlaneGuidance → List Handed → List Bool
marks_by goes before g [] = []
marks_by goes before g (i ∷ is) =
    let o = hears g i in
    let r = is_refused o.answer in
    by goes before (counts_as g i) r ∷ marks_by goes (fell before (counts_as g i) r) o.left is

exactly : Bool → Call → Bool → Bool
exactly before k r = struck before k r

-- a hold directly after a fallback too
always : Bool → Call → Bool → Bool
always before k r = r || holds k

pitches : List Told → List ℕ
pitches [] = []
pitches (t ∷ ts) = to_bits binary32 (answer_of t).pitch ∷ pitches ts

same : List ℕ → List ℕ → Bool
same [] [] = true
same [] (y ∷ ys) = false
same (x ∷ xs) [] = false
same (x ∷ xs) (y ∷ ys) = eqb x y && same xs ys

after_fallback : List Handed
after_fallback = handed_over start (fall n0 ∷ held 1 ∷ fall n0 ∷ [])

leaves_no_trace : (Bool → Call → Bool → Bool) → Bool
leaves_no_trace goes =
    let ms = marks_by goes false (fresh default) after_fallback in
    same (pitches (answers hears (fresh default) (unmarked ms after_fallback))) (pitches (unmarked ms (answers hears (fresh default) after_fallback)))

-- ---- the remaining list with the number that a host keeps by itself: a struck hold has moved it on
numbers_told : List Told → List ℕ
numbers_told [] = []
numbers_told (ran a ∷ ts) = numbers_told ts
numbers_told (flown a ∷ ts) = a.number ∷ numbers_told ts
numbers_told (loaded a ∷ ts) = numbers_told ts
numbers_told (written p out ∷ ts) = numbers_told ts
numbers_told (reported r ∷ ts) = numbers_told ts

-- a hold at the first point, and a fallback half way to the second
moving : List Sent
moving = held 1 ∷ fall (f32 0x43fa0000) ∷ []

moved : List Bool
moved = marks_by exactly false (fresh default) (handed_over start moving)

-- ---- the value of the mode report: a struck hold has requested its regime
hears_all : PlaneGuidance → Handed → Step Told PlaneGuidance
hears_all g i =
    let o = step (held_with g i) i.sent in
    record { answer = o.answer; left = o.left.guidance }

values : List Told → List ℕ
values [] = []
values (ran a ∷ ts) = values ts
values (flown a ∷ ts) = values ts
values (loaded a ∷ ts) = values ts
values (written p out ∷ ts) = values ts
values (reported r ∷ ts) = r.value ∷ values ts

asked_for_copter : List Handed
asked_for_copter = handed_over start (held 0 ∷ record { caller = 2; asks = report 0 } ∷ [])

copter : List Bool
copter = marks_by exactly false (fresh default) asked_for_copter

striking : List Bool
striking = leaves_no_trace exactly ∷ leaves_no_trace always ∷ []

own_numbers : List (List ℕ)
own_numbers =
    numbers_told (unmarked moved (answers step start moving)) ∷
    numbers_told (answers hears (fresh default) (unmarked moved (handed_over start moving))) ∷
    numbers_told (answers step start (unmarked moved moving)) ∷
    []

report_values : List (List ℕ)
report_values =
    values (unmarked copter (answers hears_all (fresh default) asked_for_copter)) ∷
    values (answers hears_all (fresh default) (unmarked copter asked_for_copter)) ∷
    []

computed :
    (striking ≡ true ∷ false ∷ [])
    × (own_numbers ≡ (2 ∷ []) ∷ (2 ∷ []) ∷ (1 ∷ []) ∷ [])
    × (report_values ≡ (1 ∷ []) ∷ (0 ∷ []) ∷ [])
unfolding striking own_numbers report_values leaves_no_trace after_fallback moving moved asked_for_copter copter start call fall held by fell marks_by
    exactly always pitches same numbers_told hears_all values handed_over answers unmarked perform
    may run_route_by run_route route_call_of given regime_of bare reports.report_by reports.deed_of number_count check_map ones
    routes.fly routes.check_lent routes.counted routes.settled routes.points_of routes.point_at routes.no_point routes.numbered routes.is_near
    routes.is_passed routes.meets routes.reached routes.waypoint_for
    Plane.flight_mode Plane.no_former fresh tecs_default default limit_or_zero clamp_symmetric saturate_throttle lagged all_finite at_least_zero
    valid_airspeed no_course idle cross_track loiter_accel finite_leg lateral_accel bank_for_accel pi_pinned pi_finite pi_step reset all_inputs_finite
    hold least greatest clamp finite size root_of norm dot normalise sine folded cosine_of_folded cosine arctangent Plane.cleared
    Plane.lateral_law Plane.on_energy_path Plane.inputs Plane.vertical_law Plane.top_thrust Plane.limits_of Plane.roll_of Plane.cross_track_of
    Plane.height_error Plane.fallback Plane.vertical Plane.all_finite Plane.commanded Plane.waypoint Plane.obeyed Plane.guided to_bits of_bits le is_nan
    Ieee.add Ieee.sub Ieee.mul Ieee.div Ieee.rem Ieee.lt Ieee.eq Ieee.ne Ieee.neg Ieee.round
computed = (refl, refl, refl)
