-- K2 of every list of what a host hands over, from an accepted loading of a route to the next. Assumes nothing.
use Rattle.std.specs.Prelude.{Option, Result, Ok, Err, is_ok, Float}
use Prim.Native.Nat.{ℕ, ◌+◌, ◌-◌, ◌≤◌}
use mathlib.Core.Path.{◌≡◌, refl, sym, ap, subst, ◌∙◌}
use mathlib.Core.Bool.{Bool, true, false, cond, ◌&&◌}
use mathlib.Core.List.{List, [], ◌∷◌, ◌++◌}
use native.Mathlib.Omega.{arith}
use borrow.Author.Tests.{eqb-true, leb-true}
use lib.Dec.{eqb, leb, ltb}
use lib.ListN.{length}
use Rattle.std.proofs.lemmas.Bool.{cond_both, and_parts}
use Rattle.refusals.specs.Numbers.{number}
use Rattle.refusals.specs.declared.Refusal.{Refusal}
use Rattle.refusals.specs.declared.Refusal.TheVariants as why
use Rattle.arithmetic.specs.declared.vector.Vec2.{Vec2}
use Rattle.laws.specs.declared.types.Setpoint.{Setpoint}
use Rattle.laws.specs.declared.types.Setpoint.TheVariants as Set
use Rattle.laws.specs.declared.types.ControlInput.TheVariants as Input
use Rattle.laws.specs.declared.types.FlightRegime.{FlightRegime}
use Rattle.laws.specs.declared.types.VehicleState.{VehicleState}
use Rattle.laws.specs.declared.types.WaypointCommand.{WaypointCommand}
use Rattle.guidance.specs.Plane.{guided, obeyed, waypoint, bad_time_step, bad_cap, all_finite}
use Rattle.guidance.specs.declared.plane.PlaneGuidance.{PlaneGuidance}
use Rattle.guidance.specs.declared.plane.Guided.{Guided}
use Rattle.guidance.specs.declared.plane.Answer.{Answer}
use Rattle.guidance.specs.declared.plane.Answer.TheVariants.{Commanded, Waypoint}
use Rattle.route_records.specs.Record.{RouteRead, answer_to, buffer_to, read_route, load_answer, load_buffer}
use Rattle.route_records.specs.declared.Loaded.{Loaded}
use Rattle.routes.specs.Route.{RouteCall, settled, is_near, is_passed, numbered, meets, reached, wanted, guided_to, route_call, check_lent, fly}
use Rattle.routes.specs.declared.Point.{Point}
use Rattle.route_claims.specs.Flights.{Lent, points}
use Rattle.route_claims.proofs.Loaded.{some, fly_is, flies}
use Rattle.rights.specs.Rights.{may}
use Rattle.rights.specs.declared.Deed.TheVariants as deed
use Rattle.rights_claims.specs.Runs.{after}
use Rattle.host_answers.specs.Answer.{bare, of_setpoint, of_answer}
use Rattle.host_answers.specs.declared.answer.RunAnswer.{RunAnswer}
use Rattle.host_routes.specs.Route.{loaded_of, route_call_of, flown_of, refused, run_route, run_route_by, load_by, load_buffer_by}
use Rattle.host_routes.specs.declared.route.RouteLoaded.{RouteLoaded}
use Rattle.host_routes.specs.declared.route.RouteNumbers.{RouteNumbers}
use Rattle.host_routes.specs.declared.route.RouteRan.{RouteRan}
use Rattle.host_claims.specs.Rights.{Held, Ask, run, route, load, write, report, Sent, flown, on_route, asked_by, step}
use Rattle.host_claims.specs.Routes.{lent, accepted, loads, NoLoading, meets_test, moves_on, along, HostRouteFlown, EveryLoading}

-- ---- answers as numbers

-- no refusal has the number of an answer
no_0 : (e : Refusal) → eqb (number e) 0 ≡ false
no_0 why.TimeStep = refl
no_0 why.PitchCap = refl
no_0 why.NotFinite = refl
no_0 why.TooFewBytes = refl
no_0 why.UnknownMap = refl
no_0 why.UnknownKind = refl
no_0 why.TooLittleRoom = refl
no_0 why.TooManyCalls = refl
no_0 why.NoPoint = refl
no_0 why.PointNotFinite = refl
no_0 why.StepCount = refl
no_0 why.NoRight = refl
no_0 why.NothingToTakeBack = refl
no_0 why.OtherEdition = refl
no_0 why.UnknownRequest = refl

setpoint_0 : (t : Setpoint) (lateral vertical : ℕ) (off : Float) → (of_setpoint t lateral vertical off 0).refusal ≡ 0
setpoint_0 (Set.Plane roll pitch thrust) lateral vertical off = refl
setpoint_0 (Set.PlaneRate roll pitch yaw thrust) lateral vertical off = refl

accepted_is : (a : Result Answer Refusal) → eqb (of_answer a 0).refusal 0 ≡ is_ok a
unfolding bare
accepted_is (Err e) = no_0 e
accepted_is (Ok (Commanded t)) = rw (setpoint_0 t _ _ _)
accepted_is (Ok (Waypoint a)) = rw (setpoint_0 a.setpoint _ _ _)

-- ---- a route call

-- a refused waypoint keeps the guidance
abbrev Keeps : PlaneGuidance → Guided → Type 0
Keeps g o = is_ok o.answer ≡ false → o.guidance ≡ g

waypoint_keeps : (g : PlaneGuidance) (dt : Float) (r : FlightRegime) (w : WaypointCommand) (s : VehicleState) (cap : Option Float)
    → Keeps g (guided g dt r (Input.Waypoint w) s cap)
unfolding guided obeyed waypoint
waypoint_keeps g dt r w s cap =
    cond_both (bad_time_step dt) _ _ (Keeps g) (λ b e. refl) (λ b.
    cond_both (bad_cap cap) _ _ (Keeps g) (λ b e. refl) (λ b. cond_both (all_finite _) _ _ (Keeps g) (λ b e. cc) (λ b e. refl)))

-- a number that the points have, or one past the last
abbrev Within : List Point → ℕ → Type 0
Within ps n = (1 ≤ n) × (n ≤ length ps + 1)

-- a route that is not refused, and one of its numbers
record Sound (r : Lent) (n : ℕ) : Type 0 where
  ok : check_lent r.map (length r.numbers) ≡ Ok tt
  within : Within (points r) n

-- what a route call that a host hands over may give
record Fits (h : Held) (k : RouteNumbers) (r : RouteRan) : Type 0 where
  rises : r.answer.number ≡ cond (eqb r.answer.answer.refusal 0 && meets_test h (route k)) (h.number + 1) h.number
  answers :
      eqb r.answer.answer.refusal 0 ≡ true →
      r.answer.answer ≡ of_answer (guided_to h.guidance (points (lent h)) r.answer.number (route_call_of (on_route h k))).answer 0
  keeps : eqb r.answer.answer.refusal 0 ≡ false → (r.guidance ≡ h.guidance) × (r.answer.number ≡ h.number)

refused_fits : (h : Held) (k : RouteNumbers) (e : Refusal) → Fits h k (refused h.guidance (on_route h k) e)
unfolding bare
refused_fits h k e = record {
  rises = rw (no_0 e) refl;
  answers = λ z. let no = no_0 e in absurd (cc);
  keeps = λ z. (refl, refl);
}

raised : (b met : Bool) (n : ℕ) → cond b (cond met (n + 1) n) n ≡ cond (b && met) (n + 1) n
raised true met n = refl
raised false met n = refl

flown_fits : (h : Held) (k : RouteNumbers) → Sound (lent h) h.number
    → Fits h k (flown_of (fly h.guidance (record { map = h.map; number = h.number }) h.numbers (route_call_of (on_route h k))))
unfolding route_call settled reached route_call_of
flown_fits h k s = rw (fly_is (lent h) s.ok h.guidance h.number c s.within.0 s.within.1) (record {
  rises = rw (accepted_is o.answer) (raised (is_ok o.answer) _ h.number);
  answers = λ z. let yes : is_ok o.answer ≡ true = sym (accepted_is o.answer) ∙ z in rw yes refl;
  keeps = λ z.
      let no : is_ok o.answer ≡ false = sym (accepted_is o.answer) ∙ z in
      (waypoint_keeps h.guidance c.dt c.regime _ c.state c.cap no, rw no refl);
})
  where
    c : RouteCall
    c = route_call_of (on_route h k)

    o : Guided
    o = guided_to h.guidance (points (lent h)) (wanted h.guidance (points (lent h)) h.number c) c

fits : (h : Held) (caller : ℕ) (k : RouteNumbers) → Sound (lent h) h.number → Fits h k (run_route_by h.guidance caller (on_route h k) h.numbers)
unfolding run_route_by run_route
fits h caller k s =
    cond_both (may caller deed.RouteCall) _ _ (Fits h k)
    (λ b. cond_both (ltb 1 k.regime) _ _ (Fits h k) (λ b. refused_fits h k why.UnknownKind) (λ b. flown_fits h k s))
    (λ b. refused_fits h k why.NoRight)

-- ---- loading

-- what a loading may give
record LoadFits (out : List Float) (l : RouteLoaded) (numbers : List Float) : Type 0 where
  taken : eqb l.refusal 0 ≡ true → (l.number ≡ 1) × (check_lent l.map (length numbers) ≡ Ok tt)
  kept : eqb l.refusal 0 ≡ false → numbers ≡ out

refused_load : (out : List Float) (e : Refusal) → LoadFits out (loaded_of (Err e)) out
refused_load out e = record { taken = λ z. let no = no_0 e in absurd (cc); kept = λ z. refl }

-- a refused loading keeps the lent numbers
not_loaded : (s : List ℕ) (at : ℕ) (out : List Float) (e : Refusal) → load_answer s at out ≡ Err e → load_buffer s at out ≡ out
unfolding load_answer load_buffer
not_loaded s at out e z = go (read_route s at) z
  where
    room : (b : Bool) (l : Loaded) (xs : List Float)
        → ◌≡◌ {A = Result Loaded Refusal} (cond b (Ok l) (Err why.TooLittleRoom)) (Err e) → cond b xs out ≡ out
    room true l xs q = cc
    room false l xs q = refl

    go : (w : RouteRead) → answer_to w out ≡ Err e → buffer_to w out ≡ out
    go (Err f) q = refl
    go (Ok (r, next)) q = room (leb (length r.numbers) (length out)) _ _ q

load_fits : (s : List ℕ) (at : ℕ) (out : List Float) → LoadFits out (loaded_of (load_answer s at out)) (load_buffer s at out)
load_fits s at out = go (load_answer s at out) refl
  where
    go : (a : Result Loaded Refusal) → load_answer s at out ≡ a → LoadFits out (loaded_of a) (load_buffer s at out)
    go (Ok l) q = record { taken = λ z. (refl, flies.loads s at out l.map l.next q); kept = λ z. cc }
    go (Err e) q = record { taken = λ z. let no = no_0 e in absurd (cc); kept = λ z. not_loaded s at out e q }

load_by_fits : (caller : ℕ) (s : List ℕ) (at : ℕ) (out : List Float) → LoadFits out (load_by caller s at out) (load_buffer_by caller s at out)
unfolding load_by load_buffer_by
load_by_fits caller s at out = go (may caller deed.LoadRoute)
  where
    go : (b : Bool) → LoadFits out (loaded_of (cond b (load_answer s at out) (Err why.NoRight))) (cond b (load_buffer s at out) out)
    go true = load_fits s at out
    go false = refused_load out why.NoRight

-- ---- one call that is no accepted loading

abbrev sent_as : ℕ → Ask → Sent
sent_as caller a = record { caller = caller; asks = a }

-- it keeps the route
kept : (h : Held) (caller : ℕ) (a : Ask) → loads h (sent_as caller a) ≡ false → lent (asked_by h caller a).left ≡ lent h
kept h caller (run what bytes) e = refl
kept h caller (route k) e = refl
kept h caller (load s at) e = rw (e, (load_by_fits caller s at h.numbers).kept e) refl
kept h caller (write out at) e = refl
kept h caller (report what) e = refl

unmet : (b : Bool) (n : ℕ) → n ≡ cond (b && false) (n + 1) n
unmet true n = refl
unmet false n = refl

rises_once : (h : Held) (caller : ℕ) (a : Ask) → Sound (lent h) h.number → loads h (sent_as caller a) ≡ false
    → (asked_by h caller a).left.number ≡ cond (moves_on h (sent_as caller a)) (h.number + 1) h.number
rises_once h caller (run what bytes) s e = unmet (accepted h (sent_as caller (run what bytes))) h.number
rises_once h caller (route k) s e = (fits h caller k s).rises
rises_once h caller (load p at) s e = rw e refl
rises_once h caller (write out at) s e = unmet (accepted h (sent_as caller (write out at))) h.number
rises_once h caller (report what) s e = unmet (accepted h (sent_as caller (report what))) h.number

-- where the test is met there is one more number
met_sound : (h : Held) (position : Vec2) → Sound (lent h) h.number → meets h.guidance.config.loiter_radius_m (points (lent h)) h.number position ≡ true
    → Sound (lent h) (h.number + 1)
unfolding meets
met_sound h position s e = record { ok = s.ok; within = go (eqb n 1) refl (leb n (length ps)) refl e }
  where
    n : ℕ
    n = h.number

    ps : List Point
    ps = points (lent h)

    go : (a : Bool) → eqb n 1 ≡ a → (b : Bool) → leb n (length ps) ≡ b
        → cond a (is_near (numbered ps 1) position h.guidance.config.loiter_radius_m)
        (cond b (is_passed (numbered ps (n - 1)) (numbered ps n) position) false)
        ≡ true
        → Within ps (n + 1)
    go true p b q z = let one : n ≡ 1 = eqb-true n 1 p in (omega arith, omega (arith, some (lent h) s.ok))
    go false p true q z = let l : n ≤ length ps = leb-true n (length ps) q in (omega arith, omega arith)
    go false p false q z = absurd (cc)

next_sound : (h : Held) (caller : ℕ) (a : Ask) → Sound (lent h) h.number → Sound (lent h) (cond (moves_on h (sent_as caller a)) (h.number + 1) h.number)
next_sound h caller a s =
    cond_both (moves_on h (sent_as caller a)) _ _ (Sound (lent h)) (λ b. met a (and_parts (accepted h (sent_as caller a)) (meets_test h a) b).1) (λ b. s)
  where
    met : (k : Ask) → meets_test h k ≡ true → Sound (lent h) (h.number + 1)
    met (run what bytes) e = absurd (cc)
    met (route k) e = met_sound h _ s e
    met (load p at) e = absurd (cc)
    met (write out at) e = absurd (cc)
    met (report what) e = absurd (cc)

-- ---- every list

-- what holds at a place of a list, of the route that was loaded
record Stands (r : Lent) (x : Held) (rest : List Sent) : Type 0 where
  same : lent x ≡ r
  sound : Sound (lent x) x.number
  none : NoLoading x rest

stands_next : (r : Lent) (x : Held) (k : Sent) (rest : List Sent) → Stands r x (k ∷ rest) → Stands r (step x k).left rest
unfolding NoLoading
stands_next r x k rest s =
    let same : lent (step x k).left ≡ lent x = kept x k.caller k.asks s.none.0 in
    record {
      same = same ∙ s.same;
      sound = subst (λ (q : Lent). Sound q (step x k).left.number) (sym same)
          (subst (Sound (lent x)) (sym (rises_once x k.caller k.asks s.sound s.none.0)) (next_sound x k.caller k.asks s.sound));
      none = s.none.1;
    }

stands_at : (r : Lent) (x : Held) (before rest : List Sent) → Stands r x (before ++ rest) → Stands r (after step x before) rest
unfolding after
stands_at r x [] rest s = s
stands_at r x (b ∷ bs) rest s = stands_at r (step x b).left bs rest (stands_next r x b (bs ++ rest) s)

here : (r : Lent) (x : Held) (k : Sent) (rest : List Sent) → Stands r x (k ∷ rest) → loads x k ≡ false
unfolding NoLoading
here r x k rest s = s.none.0

flown_list : (h : Held) (sent : List Sent) → h.number ≡ 1 → Stands (lent h) h sent → HostRouteFlown h sent
flown_list h sent one s =
    record {
      starts = one;
      rises = λ before k rest at.
          let p = stands_at (lent h) h before (k ∷ rest) (subst (Stands (lent h) h) at s) in
          rises_once (after step h before) k.caller k.asks p.sound (here (lent h) (after step h before) k rest p);
      within = λ before rest at.
          let held = after step h before in
          let p = stands_at (lent h) h before rest (subst (Stands (lent h) h) at s) in
          let w = (subst (λ (r : Lent). Sound r held.number) p.same p.sound).within in
          (p.same, w.0, w.1);
      answers = λ before caller k rest at e.
          let held = after step h before in
          let p = stands_at (lent h) h before (along caller k ∷ rest) (subst (Stands (lent h) h) at s) in
          let r = (step held (along caller k)).left.number in
          let says = (fits held caller k p.sound).answers e in
          ap (λ (a : RunAnswer). flown (record { answer = a; number = r }))
          (says ∙ ap (λ (q : Lent). of_answer (guided_to held.guidance (points q) r (route_call_of (on_route held k))).answer 0) p.same);
      refusals = λ before caller k rest at e.
          let held = after step h before in
          let p = stands_at (lent h) h before (along caller k ∷ rest) (subst (Stands (lent h) h) at s) in
          let same = (fits held caller k p.sound).keeps e in
          λ i. record { guidance = same.0 i; map = held.map; number = same.1 i; numbers = held.numbers };
    }

-- an accepted loading leaves number 1 and a route that is not refused
loaded_sound : (h : Held) (caller : ℕ) (a : Ask) → loads h (sent_as caller a) ≡ true →
    let x = (asked_by h caller a).left in
    (x.number ≡ 1) × (check_lent x.map (length x.numbers) ≡ Ok tt)
loaded_sound h caller (run what bytes) e = absurd (cc)
loaded_sound h caller (route k) e = absurd (cc)
loaded_sound h caller (load p at) e = rw e ((load_by_fits caller p at h.numbers).taken e)
loaded_sound h caller (write out at) e = absurd (cc)
loaded_sound h caller (report what) e = absurd (cc)

pub every_loading : EveryLoading
every_loading h l sent e n =
    let x = (step h l).left in
    let t = loaded_sound h l.caller l.asks e in
    let one : x.number ≡ 1 = t.0 in
    let points_stand : 1 ≤ length (points (lent x)) = some (lent x) t.1 in
    flown_list x sent one (record { same = refl; sound = record { ok = t.1; within = (omega arith, omega arith) }; none = n })
