-- Demand 3 of every list of everything that a host hands over, from one fresh guidance to the next. Assumes nothing.
use Prim.Native.Nat.{ℕ}
use Rattle.std.specs.Prelude.{Result, Ok, Err, is_ok, Option, Float}
use mathlib.Core.Path.{◌≡◌, refl, sym, ap, subst, ◌∙◌}
use mathlib.Core.Bool.{Bool, true, false, cond, not, ◌&&◌}
use mathlib.Core.List.{List, [], ◌∷◌, ◌++◌}
use lib.Dec.{eqb, ltb}
use lib.ListN.{length}
use Rattle.arithmetic.proofs.Bounds.{never, never'}
use Rattle.refusals.specs.declared.Refusal.{Refusal}
use Rattle.laws.specs.Config.{validate}
use Rattle.laws.specs.declared.config.PlaneGuidanceConfig.{PlaneGuidanceConfig}
use Rattle.laws.specs.declared.types.ControlInput.TheVariants as Command
use Rattle.laws.specs.declared.types.Setpoint.{Setpoint}
use Rattle.laws.specs.declared.types.Setpoint.TheVariants as Set
use Rattle.laws.specs.declared.types.VehicleState.{VehicleState}
use Rattle.laws.specs.declared.types.WaypointCommand.{WaypointCommand}
use Rattle.laws.specs.Tecs.{reset}
use Rattle.guidance.specs.Plane.{fresh, stall_guard, vertical_law}
use Rattle.guidance.specs.declared.plane.PlaneGuidance.{PlaneGuidance}
use Rattle.guidance.specs.declared.plane.VerticalLaw.{VerticalLaw}
use Rattle.guidance.specs.declared.plane.VerticalLaw.TheVariants.{Energy, Hold, Fallback}
use Rattle.guidance.specs.declared.plane.Laws.{Laws}
use Rattle.guidance.specs.declared.plane.Answer.TheVariants.{Commanded, Waypoint}
use Rattle.claims.specs.Calls.{Call, guide, prime, set_config, take_back, Reply, answered, done, field, back, perform, replies, refusals, is_hold, struck, fell_back, strikes, unmarked, starts_fresh, settings_of, fresh_with}
use Rattle.claims.specs.Calls as calls
use Rattle.claims.specs.Limits.{InForce, at_start, underspeed_by, in_force_after, SetpointLimits, Obeys}
use Rattle.claims.proofs.Alike.{alike_refl}
use Rattle.claims.proofs.Strike.{strike, start}
use Rattle.claims.proofs.Limited.{valid, in_force_of, stands, BothValid, fresh_valid, still_valid}
use Rattle.fields.specs.Fields.{ones}
use Rattle.routes.specs.Route.{RouteCall, points_of, settled, guided_to, unless_refused, check_lent, fly}
use Rattle.routes.specs.declared.Flown.{Flown}
use Rattle.rights.specs.Rights.{may}
use Rattle.rights.specs.declared.Deed.TheVariants as deed
use Rattle.rights_claims.specs.Runs.{Step, answers, after}
use Rattle.host_answers.specs.Answer.{bare, of_setpoint, of_answer, of_reply, lateral_number, vertical_number}
use Rattle.host_answers.specs.declared.answer.RunAnswer.{RunAnswer}
use Rattle.host.specs.Run.{performed}
use Rattle.host.specs.declared.run.Ran.{Ran}
use Rattle.host.specs.Mode as reports
use Rattle.host.specs.Mode.{report_by}
use Rattle.host.specs.declared.mode.Report.{Report}
use Rattle.host_routes.specs.Route.{route_call_of, flown_of, run_route, run_route_by, load_by, write_by, write_buffer_by}
use Rattle.host_routes.specs.declared.route.RouteNumbers.{RouteNumbers}
use Rattle.host_routes.specs.declared.route.RouteAnswer.{RouteAnswer}
use Rattle.host_routes.specs.declared.route.RouteRan.{RouteRan}
use Rattle.host_claims.specs.Inputs.{Input, Meaning, a_call, a_fresh, refused_as, meaning, NoFresh}
use Rattle.host_claims.specs.Rights.{Held, Ask, run, route, load, write, report, Sent, Told, ran, flown, loaded, written, reported, ran_by, step, on_route}
use Rattle.host_claims.specs.Whole.{Handed, held_with, handed_at, handed_over, spoken, heard, hears, is_refused, answer_of, Counts, makes, aside, by_meaning, guide_of, counts_by, counts_as, NoNew, OneFlight, sents, struck_by, fell_back_by, marks_from, Tells, HostObeys, in_force_by, Within, AllWithin, Does, BesideFresh, HostWhole, beside_route, FromNew, as_sent}
use Rattle.host_claims.proofs.HostRefused.{told_no, reached_by}
use Rattle.host_claims.proofs.Told.{run_as, run_is, refused_is, passes}

-- ---- one input: what it counts as, and its answer from the reply to that

abbrev next_of : PlaneGuidance → Counts → PlaneGuidance
next_of g (makes k next) = (perform g k).next
next_of g aside = g

abbrev reply_of : PlaneGuidance → Counts → Reply
reply_of g (makes k next) = (perform g k).reply
reply_of g aside = done

abbrev by_run : Meaning → Reply → RunAnswer
by_run (a_call k next) r = of_reply r next
by_run (a_fresh c next) r = bare 0 0 next
by_run (refused_as n failing next) r = bare n failing next

abbrev accepted : Reply → Bool
accepted (answered a) = is_ok a
accepted done = true
accepted (field n) = true
accepted (back n) = true

abbrev by_lent : Held → RouteNumbers → Result (Unit {0}) Refusal → Reply → RouteAnswer
by_lent h k (Ok u) r = record { answer = of_reply r 0; number = cond (accepted r) (reached_by h k) h.number }
by_lent h k (Err why) r = record { answer = of_answer (Err why) 0; number = h.number }

abbrev by_route : Held → ℕ → RouteNumbers → Reply → RouteAnswer
by_route h caller k r =
    cond (may caller deed.RouteCall) (cond (ltb 1 k.regime) (told_no h 7) (by_lent h k (check_lent h.map (length h.numbers)) r)) (told_no h 13)

-- of the guidance it reads the configuration, and whether the stall guard stands
abbrev told_by : Held → ℕ → Ask → Reply → Told
told_by h caller (run what bytes) r = ran (by_run (meaning (record { caller = caller; what = what; bytes = bytes })) r)
told_by h caller (route k) r = flown (by_route h caller k r)
told_by h caller (load s at) r = loaded (load_by caller s at h.numbers)
told_by h caller (write out at) r = written (write_by caller out at h.map h.numbers) (write_buffer_by caller out at h.map h.numbers)
told_by h caller (report what) r = spoken (report what) (reported (report_by h.guidance caller what))

-- what a step leaves, and what is heard of it
record Is (h : Held) (a : Ask) (o : Step Told Held) (t : Counts) (told : Told) : Type 0 where
  left : o.left.guidance ≡ next_of h.guidance t
  told_is : spoken a o.answer ≡ told

ran_as : (h : Held) (m : Meaning) → NoFresh m →
    ((run_as h.guidance m).guidance ≡ next_of h.guidance (by_meaning m))
    × ((run_as h.guidance m).answer ≡ by_run m (reply_of h.guidance (by_meaning m)))
unfolding performed
ran_as h (a_call k next) n = (refl, refl)
ran_as h (a_fresh c next) n = elim n [ ]
ran_as h (refused_as r failing next) n = (refl, refl)

abbrev RouteIs : Held → RouteRan → Counts → RouteAnswer → Type 0
RouteIs h o t a = (o.guidance ≡ next_of h.guidance t) × (o.answer ≡ a)

route_is : (h : Held) (caller : ℕ) (k : RouteNumbers) →
    let t = counts_by h caller (route k) in
    RouteIs h (run_route_by h.guidance caller (on_route h k) h.numbers) t (by_route h caller k (reply_of h.guidance t))
unfolding run_route_by run_route fly settled perform
route_is h caller k = go (may caller deed.RouteCall) (ltb 1 k.regime) (check_lent h.map (length h.numbers))
  where
    C : RouteCall
    C = route_call_of (on_route h k)

    F : Flown
    F = settled h.number (reached_by h k) (guided_to h.guidance (points_of (ones 64 h.map) h.numbers) (reached_by h k) C)

    no : ℕ → RouteRan
    no n = record { guidance = h.guidance; answer = told_no h n }

    go : (a b : Bool) (c : Result (Unit {0}) Refusal) →
        let t = cond (a && (not b && is_ok c)) (makes (guide_of h k) 0) aside in
        RouteIs h (cond a (cond b (no 7) (flown_of (unless_refused c h.guidance h.number F))) (no 13)) t
        (cond a (cond b (told_no h 7) (by_lent h k c (reply_of h.guidance t))) (told_no h 13))
    go false b c = (refl, refl)
    go true true c = (refl, refl)
    go true false (Ok u) = (refl, refl)
    go true false (Err why) = (refl, refl)

step_is : (h : Held) (caller : ℕ) (a : Ask) → NoNew caller a →
    let t = counts_by h caller a in
    Is h a (step h (record { caller = caller; asks = a })) t (told_by h caller a (reply_of h.guidance t))
step_is h caller (run what bytes) n =
    let i : Input = record { caller = caller; what = what; bytes = bytes } in
    let p = ran_as h (meaning i) n in
    let e = run_is h.guidance i in
    record {
      left = ap (λ (o : Ran). o.guidance) e ∙ p.0;
      told_is = ap (λ (o : Ran). ran o.answer) e ∙ ap ran p.1;
    }
step_is h caller (route k) n = let p = route_is h caller k in record { left = p.0; told_is = ap flown p.1 }
step_is h caller (load s at) n = record { left = refl; told_is = refl }
step_is h caller (write out at) n = record { left = refl; told_is = refl }
step_is h caller (report what) n = record { left = refl; told_is = refl }

abbrev told_from : PlaneGuidance → Handed → Reply → Told
told_from g i r = told_by (held_with g i) i.sent.caller i.sent.asks r

abbrev Plain : Handed → Type 0
Plain i = NoNew i.sent.caller i.sent.asks

abbrev HearsIs : PlaneGuidance → Handed → Counts → Type 0
HearsIs g i t = ((hears g i).left ≡ next_of g t) × ((hears g i).answer ≡ told_from g i (reply_of g t))

hears_is : (g : PlaneGuidance) (i : Handed) → Plain i → HearsIs g i (counts_as g i)
hears_is g i n = let p = step_is (held_with g i) i.sent.caller i.sent.asks n in (p.left, p.told_is)

hears_as : (g : PlaneGuidance) (i : Handed) → Plain i → (t : Counts) → counts_as g i ≡ t → HearsIs g i t
hears_as g i n t e = subst (HearsIs g i) e (hears_is g i n)

-- ---- two guidances with the same in force: configurations and underspeed

abbrev with : PlaneGuidance → PlaneGuidanceConfig → PlaneGuidance
with g c = record { config = c; requested = g.requested; altitude = g.altitude; tecs = g.tecs; former = g.former }

-- the configuration alone decides what an input counts as
counts_same : (g h : PlaneGuidance) → in_force_of g ≡ in_force_of h → (i : Handed) → counts_as g i ≡ counts_as h i
counts_same g h e i = go i.sent.asks
  where
    go : (a : Ask) → counts_by (held_with g i) i.sent.caller a ≡ counts_by (held_with h i) i.sent.caller a
    go (run what bytes) = refl
    go (route k) = ap (λ (f : InForce). counts_by (held_with (with g f.config) i) i.sent.caller (route k)) e
    go (load s at) = refl
    go (write out at) = refl
    go (report what) = refl

abbrev report_as : PlaneGuidance → Bool → Bool → Bool → Report
report_as g a b c = cond a (reports.reported g (cond b deed.ModeReport (cond c deed.GuardReport deed.Other))) (record { refusal = 13; value = 0 })

-- a report of the guard is of underspeed
report_same : (g h : PlaneGuidance) → stall_guard g ≡ stall_guard h → (caller what : ℕ) →
    spoken (report what) (reported (report_by g caller what)) ≡ spoken (report what) (reported (report_by h caller what))
unfolding report_by reports.deed_of
report_same g h e caller what = go (may caller (reports.deed_of what)) (eqb what 0) (eqb what 1)
  where
    go : (a b c : Bool) →
        reported (record { refusal = (report_as g a b c).refusal; value = cond b 0 (report_as g a b c).value })
        ≡ reported (record { refusal = (report_as h a b c).refusal; value = cond b 0 (report_as h a b c).value })
    go false b c = refl
    go true true c = refl
    go true false true = ap (λ (u : Bool). reported (record { refusal = 0; value = cond u 1 0 })) e
    go true false false = refl

told_same : (g h : PlaneGuidance) → in_force_of g ≡ in_force_of h → (i : Handed) (r : Reply) → told_from g i r ≡ told_from h i r
told_same g h e i r = go i.sent.asks
  where
    go : (a : Ask) → told_by (held_with g i) i.sent.caller a r ≡ told_by (held_with h i) i.sent.caller a r
    go (run what bytes) = refl
    go (route k) = ap (λ (f : InForce). told_by (held_with (with g f.config) i) i.sent.caller (route k) r) e
    go (load s at) = refl
    go (write out at) = refl
    go (report what) = report_same g h (ap (λ (f : InForce). f.underspeed) e) i.sent.caller what

-- ---- the answer to a call is its reply, as numbers

abbrev Replied : Counts → (Reply → Told) → Type 0
Replied (makes k next) told = (r : Reply) → (answer_of (told r) ≡ of_reply r next) × (is_refused (told r) ≡ calls.refused r)
Replied aside told = Unit {0}

replied : (h : Held) (caller : ℕ) (a : Ask) → Replied (counts_by h caller a) (told_by h caller a)
replied h caller (run what bytes) = go (meaning (record { caller = caller; what = what; bytes = bytes }))
  where
    go : (m : Meaning) → Replied (by_meaning m) (λ r. ran (by_run m r))
    go (a_call k next) = λ r. (refl, refused_is r next)
    go (a_fresh c next) = tt
    go (refused_as n failing next) = tt
replied h caller (route k) = go (may caller deed.RouteCall) (ltb 1 k.regime) (check_lent h.map (length h.numbers))
  where
    go : (a b : Bool) (c : Result (Unit {0}) Refusal) →
        Replied (cond (a && (not b && is_ok c)) (makes (guide_of h k) 0) aside)
        (λ r. flown (cond a (cond b (told_no h 7) (by_lent h k c r)) (told_no h 13)))
    go false b c = tt
    go true true c = tt
    go true false (Ok u) = λ r. (refl, refused_is r 0)
    go true false (Err why) = tt
replied h caller (load s at) = tt
replied h caller (write out at) = tt
replied h caller (report what) = tt

-- an input that makes a call
record Made (g : PlaneGuidance) (i : Handed) (k : Call) (next : ℕ) : Type 0 where
  left : (hears g i).left ≡ (perform g k).next
  answer : answer_of (hears g i).answer ≡ of_reply (perform g k).reply next
  refused : is_refused (hears g i).answer ≡ calls.refused (perform g k).reply

made : (g : PlaneGuidance) (i : Handed) → Plain i → (k : Call) (next : ℕ) → counts_as g i ≡ makes k next → Made g i k next
made g i n k next e =
    let p = hears_as g i n (makes k next) e in
    let q = subst (λ (t : Counts). Replied t (told_from g i)) e (replied (held_with g i) i.sent.caller i.sent.asks) (perform g k).reply in
    record { left = p.0; answer = ap answer_of p.1 ∙ q.0; refused = ap is_refused p.1 ∙ q.1 }

does_by : (g : PlaneGuidance) (i : Handed) → Plain i → (t : Counts) → counts_as g i ≡ t → Does g (hears g i) t
does_by g i n (makes k next) e = let m = made g i n k next e in (m.left, m.answer)
does_by g i n aside e = (hears_as g i n aside e).0

-- ---- validity along a list

abbrev One : List Handed → Type 0
One is = OneFlight (sents is)

abbrev Sound : PlaneGuidance → Type 0
Sound g = BothValid g.config g.former.config

sound_next : (g : PlaneGuidance) → Sound g → (t : Counts) → Sound (next_of g t)
sound_next g v (makes k next) = still_valid g k v
sound_next g v aside = v

sound_left : (g : PlaneGuidance) → Sound g → (i : Handed) → Plain i → Sound (hears g i).left
sound_left g v i n = subst Sound (sym (hears_is g i n).0) (sound_next g v (counts_as g i))

sound_along : (g : PlaneGuidance) → Sound g → (is : List Handed) → One is → Sound (after hears g is)
unfolding after OneFlight sents
sound_along g v [] n = v
sound_along g v (i ∷ is) n = sound_along (hears g i).left (sound_left g v i n.0) is n.1

one_before : (before rest : List Handed) → One (before ++ rest) → One before
unfolding OneFlight sents
one_before [] rest n = tt
one_before (i ∷ is) rest n = (n.0, one_before is rest n.1)

one_here : (before : List Handed) (i : Handed) (rest : List Handed) → One (before ++ (i ∷ rest)) → Plain i × One rest
unfolding OneFlight sents
one_here [] i rest n = n
one_here (b ∷ bs) i rest n = one_here bs i rest n.1

-- ---- two guidances with the same in force, call by call

record Pair (g h : PlaneGuidance) : Type 0 where
  force : in_force_of g ≡ in_force_of h
  sound : Sound g

sound_pair : {g h : PlaneGuidance} → Pair g h → Sound h
sound_pair p = subst (λ (i : InForce). BothValid i.config i.former.config) p.force p.sound

-- what is in force after a call
force_is : (g : PlaneGuidance) → Sound g → (k : Call) → in_force_of (perform g k).next ≡ in_force_after (in_force_of g) k (calls.refused (perform g k).reply)
force_is g v k = (stands g (valid g.config v.in_force_lem) k).agrees

perform_pair : (g h : PlaneGuidance) → Pair g h → (k : Call) → (perform g k).reply ≡ (perform h k).reply → Pair (perform g k).next (perform h k).next
perform_pair g h p k e = record {
  force =
      force_is g p.sound k
      ∙ ap (λ (i : InForce). in_force_after i k (calls.refused (perform g k).reply)) p.force
      ∙ ap (λ (r : Reply). in_force_after (in_force_of h) k (calls.refused r)) e
      ∙ sym (force_is h (sound_pair p) k);
  sound = still_valid g k p.sound;
}

abbrev SameReply : Counts → PlaneGuidance → PlaneGuidance → Type 0
SameReply (makes k next) g h = (perform g k).reply ≡ (perform h k).reply
SameReply aside g h = Unit {0}

-- one input, of both
record Both (g h : PlaneGuidance) (i : Handed) : Type 0 where
  answer : (hears g i).answer ≡ (hears h i).answer
  left : Pair (hears g i).left (hears h i).left

pair_next : (g h : PlaneGuidance) → Pair g h → (t : Counts) → SameReply t g h → (reply_of g t ≡ reply_of h t) × Pair (next_of g t) (next_of h t)
pair_next g h p (makes k next) e = (e, perform_pair g h p k e)
pair_next g h p aside e = (refl, p)

both : (g h : PlaneGuidance) → Pair g h → (i : Handed) → Plain i → (t : Counts) → counts_as g i ≡ t → SameReply t g h → Both g h i
both g h p i n t e same =
    let a = hears_as g i n t e in
    let b = hears_as h i n t (sym (counts_same g h p.force i) ∙ e) in
    let q = pair_next g h p t same in
    record {
      answer = a.1 ∙ ap (told_from g i) q.0 ∙ told_same g h p.force i (reply_of h t) ∙ sym b.1;
      left = subst (λ (x : PlaneGuidance). Pair x (hears h i).left) (sym a.0) (subst (Pair (next_of g t)) (sym b.0) q.1);
    }

-- ---- lists of replies

abbrev first_of : Reply → List Reply → Reply
first_of r [] = r
first_of r (x ∷ xs) = x

abbrev rest_of : List Reply → List Reply
rest_of [] = []
rest_of (x ∷ xs) = xs

-- ---- a fresh start: two guidances that answer every list of calls alike

abbrev Twins : PlaneGuidance → PlaneGuidance → Type 0
Twins g h = (ks : List Call) → replies g ks ≡ replies h ks

twin_reply : (g h : PlaneGuidance) → Twins g h → (t : Counts) → SameReply t g h
unfolding replies
twin_reply g h same (makes k next) = ap (first_of done) (same (k ∷ []))
twin_reply g h same aside = tt

twin_next : (g h : PlaneGuidance) → Twins g h → (t : Counts) → Twins (next_of g t) (next_of h t)
unfolding replies
twin_next g h same (makes k next) = λ ks. ap rest_of (same (k ∷ ks))
twin_next g h same aside = same

twins_left : (g h : PlaneGuidance) → Pair g h → Twins g h → (i : Handed) → Plain i → Twins (hears g i).left (hears h i).left
twins_left g h p same i n =
    let t = counts_as g i in
    subst (λ (x : PlaneGuidance). Twins x (hears h i).left) (sym (hears_is g i n).0)
    (subst (Twins (next_of g t)) (sym (hears_as h i n t (sym (counts_same g h p.force i))).0) (twin_next g h same t))

twin_answers : (g h : PlaneGuidance) → Pair g h → Twins g h → (is : List Handed) → One is → answers hears g is ≡ answers hears h is
unfolding answers OneFlight sents
twin_answers g h p same [] n = refl
twin_answers g h p same (i ∷ is) n =
    let b = both g h p i n.0 (counts_as g i) refl (twin_reply g h same (counts_as g i)) in
    let rest = twin_answers (hears g i).left (hears h i).left b.left (twins_left g h p same i n.0) is n.1 in
    λ x. b.answer x ∷ rest x

-- what starts fresh clears underspeed
cleared_after : (i : InForce) (k : Call) (q : Bool) → starts_fresh k q ≡ true → (in_force_after i k q).underspeed ≡ false
cleared_after i k true e = never e
cleared_after i (guide dt regime (Command.Attitude k) s cap) false e = refl
cleared_after i (guide dt regime (Command.Rate k) s cap) false e = refl
cleared_after i (guide dt regime (Command.Waypoint w) s cap) false e = never e
cleared_after i (guide dt regime (Command.AbsoluteAttitude k) s cap) false e = refl
cleared_after i (guide dt regime Command.Land s cap) false e = refl
cleared_after i (guide dt regime (Command.AbsoluteRate k) s cap) false e = refl
cleared_after i prime false e = refl
cleared_after i (set_config c) false e = never e
cleared_after i take_back false e = never e

beside : (g : PlaneGuidance) → Sound g → (in_force_of g).underspeed ≡ false → Twins g (fresh_with (settings_of g)) → (rest : List Handed) → One rest →
    BesideFresh g rest
unfolding fresh reset
beside g v u same rest n = record {
  valid = v.in_force_lem;
  kept_valid = v.kept;
  same = twin_answers g (fresh_with (settings_of g))
      (record { force = λ x. record { config = g.config; former = g.former; underspeed = u x }; sound = v }) same rest n;
}

starts : (g : PlaneGuidance) → Sound g → (i : Handed) → Plain i → (k : Call) (next : ℕ) → counts_as g i ≡ makes k next →
    starts_fresh k (is_refused (hears g i).answer) ≡ true → (rest : List Handed) → One rest → BesideFresh (hears g i).left rest
starts g v i n k next e fresh_is rest one =
    let m = made g i n k next e in
    let w = ap (starts_fresh k) (sym m.refused) ∙ fresh_is in
    let u = ap (λ (f : InForce). f.underspeed) (force_is g v k) ∙ cleared_after (in_force_of g) k (calls.refused (perform g k).reply) w in
    subst (λ (x : PlaneGuidance). BesideFresh x rest) (sym m.left)
    (beside (perform g k).next (still_valid g k v) u (λ ks. start g k ks w) rest one)

-- ---- limits

tells_setpoint : (i : InForce) (dt : Float) (w : WaypointCommand) (s : VehicleState) (cap : Option Float) (laws : Laws) (t : Setpoint) (off : Float) (next : ℕ) →
    SetpointLimits i dt w s cap laws t →
    Tells i dt w s cap (of_setpoint t (lateral_number laws.lateral) (vertical_number laws.vertical) off next)
tells_setpoint i dt w s cap laws (Set.Plane roll pitch thrust) off next p = record {
  laws = laws;
  setpoint_is = refl;
  lateral_is = refl;
  vertical_is = refl;
  within = p;
}
tells_setpoint i dt w s cap laws (Set.PlaneRate roll pitch yaw thrust) off next p = elim p [ ]

host_obeys : (i : InForce) (k : Call) (r : Reply) (next : ℕ) → Obeys i k r → HostObeys i k (of_reply r next)
host_obeys i (guide dt regime (Command.Attitude k) s cap) r next p = tt
host_obeys i (guide dt regime (Command.Rate k) s cap) r next p = tt
host_obeys i (guide dt regime (Command.Waypoint w) s cap) (answered (Err why)) next p = λ e. never' (sym p ∙ sym (refused_is (answered (Err why)) next) ∙ e)
host_obeys i (guide dt regime (Command.Waypoint w) s cap) (answered (Ok (Commanded t))) next p = elim p [ ]
host_obeys i (guide dt regime (Command.Waypoint w) s cap) (answered (Ok (Waypoint a))) next p =
    λ e. tells_setpoint i dt w s cap a.laws a.setpoint a.cross_track_m next p
host_obeys i (guide dt regime (Command.Waypoint w) s cap) done next p = elim p [ ]
host_obeys i (guide dt regime (Command.Waypoint w) s cap) (field n) next p = elim p [ ]
host_obeys i (guide dt regime (Command.Waypoint w) s cap) (back n) next p = elim p [ ]
host_obeys i (guide dt regime (Command.AbsoluteAttitude k) s cap) r next p = tt
host_obeys i (guide dt regime Command.Land s cap) r next p = tt
host_obeys i (guide dt regime (Command.AbsoluteRate k) s cap) r next p = tt
host_obeys i prime r next p = tt
host_obeys i (set_config c) r next p = tt
host_obeys i take_back r next p = tt

record WithinOne (g : PlaneGuidance) (x : Handed) (t : Counts) : Type 0 where
  within : Within (in_force_by (in_force_of g) t (is_refused (hears g x).answer)) t (hears g x).answer
  agrees : in_force_of (hears g x).left ≡ in_force_by (in_force_of g) t (is_refused (hears g x).answer)

within_one : (g : PlaneGuidance) → Sound g → (x : Handed) → Plain x → (t : Counts) → counts_as g x ≡ t → WithinOne g x t
within_one g v x n (makes k next) e =
    let m = made g x n k next e in
    let s = stands g (valid g.config v.in_force_lem) k in
    let q = ap (in_force_after (in_force_of g) k) (sym m.refused) in
    record {
      within = subst (HostObeys (in_force_after (in_force_of g) k (is_refused (hears g x).answer)) k) (sym m.answer)
          (subst (λ (i : InForce). HostObeys i k (of_reply (perform g k).reply next)) q (host_obeys _ k (perform g k).reply next s.obeys));
      agrees = ap in_force_of m.left ∙ s.agrees ∙ q;
    }
within_one g v x n aside e = record { within = tt; agrees = ap in_force_of (hears_as g x n aside e).0 }

all_within : (g : PlaneGuidance) (i : InForce) → Sound g → i ≡ in_force_of g → (xs : List Handed) → One xs → AllWithin i g xs
unfolding AllWithin OneFlight sents
all_within g i v p [] n = tt
all_within g i v p (x ∷ xs) n =
    let t = within_one g v x n.0 (counts_as g x) refl in
    subst (λ (j : InForce). AllWithin j g (x ∷ xs)) (sym p)
    (t.within, all_within (hears g x).left _ (sound_left g v x n.0) (sym t.agrees) xs n.1)

-- ---- struck inputs

-- the marks of calls, after a first run from g
abbrev CallMarks : Bool → PlaneGuidance → List Call → List Bool
CallMarks b g ks = strikes b ks (refusals (replies g ks))

-- h, which got the calls that stayed, gives them what g gave
abbrev Struck : Bool → PlaneGuidance → PlaneGuidance → Type 0
Struck b g h = (ks : List Call) → replies h (unmarked (CallMarks b g ks) ks) ≡ unmarked (CallMarks b g ks) (replies g ks)

-- a struck call keeps what is in force
kept_after : (i : InForce) (b : Bool) (k : Call) (q : Bool) → struck b k q ≡ true → in_force_after i k q ≡ i
kept_after i b k true e = refl
kept_after i b (guide dt regime (Command.Attitude k) s cap) false e = never e
kept_after i b (guide dt regime (Command.Rate k) s cap) false e = never e
kept_after i b (guide dt regime (Command.Waypoint w) s cap) false e = go (vertical_law dt w s) e
  where
    go : (l : VerticalLaw) → is_hold l && not b ≡ true → record { config = i.config; former = i.former; underspeed = underspeed_by l i s } ≡ i
    go Energy f = never f
    go Hold f = refl
    go Fallback f = never f
kept_after i b (guide dt regime (Command.AbsoluteAttitude k) s cap) false e = never e
kept_after i b (guide dt regime Command.Land s cap) false e = never e
kept_after i b (guide dt regime (Command.AbsoluteRate k) s cap) false e = never e
kept_after i b prime false e = never e
kept_after i b (set_config c) false e = never e
kept_after i b take_back false e = never e

struck_pair : (g h : PlaneGuidance) → Pair g h → (b : Bool) (k : Call) → struck b k (calls.refused (perform g k).reply) ≡ true → Pair (perform g k).next h
struck_pair g h p b k e = record {
  force = force_is g p.sound k ∙ kept_after (in_force_of g) b k (calls.refused (perform g k).reply) e ∙ p.force;
  sound = still_valid g k p.sound;
}

-- the calls from k on, by whether it is struck
abbrev ByMark : Bool → PlaneGuidance → PlaneGuidance → Call → List Bool → List Call → Type 0
ByMark m g h k ms ks =
    replies h (cond m (unmarked ms ks) (k ∷ unmarked ms ks))
    ≡ cond m (unmarked ms (replies (perform g k).next ks)) ((perform g k).reply ∷ unmarked ms (replies (perform g k).next ks))

struck_next : (b : Bool) (g h : PlaneGuidance) → Struck b g h → (k : Call) (m : Bool) → struck b k (calls.refused (perform g k).reply) ≡ m → (ks : List Call) →
    ByMark m g h k (CallMarks (fell_back b k (calls.refused (perform g k).reply)) (perform g k).next ks) ks
unfolding replies refusals strikes unmarked
struck_next b g h same k m e ks =
    subst (λ (x : Bool). ByMark x g h k (CallMarks (fell_back b k (calls.refused (perform g k).reply)) (perform g k).next ks) ks) e (same (k ∷ ks))

-- what is left, by whether the input is struck
record Onward (b : Bool) (g h : PlaneGuidance) (i : Handed) (t : Counts) (m : Bool) : Type 0 where
  answer : m ≡ false → (hears g i).answer ≡ (hears h i).answer
  left : Pair (hears g i).left (cond m h (hears h i).left)
  struck_lem : Struck (fell_back_by b t (is_refused (hears g i).answer)) (hears g i).left (cond m h (hears h i).left)

onward : (b : Bool) (g h : PlaneGuidance) → Pair g h → Struck b g h → (i : Handed) → Plain i → (t : Counts) → counts_as g i ≡ t →
    (m : Bool) → struck_by b t (is_refused (hears g i).answer) ≡ m → Onward b g h i t m
unfolding replies refusals strikes unmarked
onward b g h p same i n (makes k next) e true s =
    let o = made g i n k next e in
    let w = ap (struck b k) (sym o.refused) ∙ s in
    record {
      answer = λ x. never' x;
      left = subst (λ (x : PlaneGuidance). Pair x h) (sym o.left) (struck_pair g h p b k w);
      struck_lem = subst (λ (q : Bool). Struck (fell_back b k q) (hears g i).left h) (sym o.refused)
          (subst (λ (x : PlaneGuidance). Struck (fell_back b k (calls.refused (perform g k).reply)) x h) (sym o.left) (struck_next b g h same k true w));
    }
onward b g h p same i n (makes k next) e false s =
    let o = made g i n k next e in
    let o' = made h i n k next (sym (counts_same g h p.force i) ∙ e) in
    let w = ap (struck b k) (sym o.refused) ∙ s in
    let calls_next = struck_next b g h same k false w in
    let r : (perform g k).reply ≡ (perform h k).reply = sym (ap (first_of done) (calls_next [])) in
    let u = both g h p i n (makes k next) e r in
    let q = calls.refused (perform g k).reply in
    let rest : Struck (fell_back b k q) (perform g k).next (perform h k).next = λ ks. ap rest_of (calls_next ks) in
    record {
      answer = λ x. u.answer;
      left = u.left;
      struck_lem = subst (λ (y : Bool). Struck (fell_back b k y) (hears g i).left (hears h i).left) (sym o.refused)
          (subst (λ (x : PlaneGuidance). Struck (fell_back b k q) x (hears h i).left) (sym o.left)
          (subst (Struck (fell_back b k q) (perform g k).next) (sym o'.left) rest));
    }
onward b g h p same i n aside e true s =
    let l = sym (hears_as g i n aside e).0 in
    record {
      answer = λ x. never' x;
      left = subst (λ (x : PlaneGuidance). Pair x h) l p;
      struck_lem = subst (λ (x : PlaneGuidance). Struck b x h) l same;
    }
onward b g h p same i n aside e false s =
    let l = sym (hears_as g i n aside e).0 in
    let l' = sym (hears_as h i n aside (sym (counts_same g h p.force i) ∙ e)).0 in
    let u = both g h p i n aside e tt in
    record {
      answer = λ x. u.answer;
      left = u.left;
      struck_lem = subst (λ (x : PlaneGuidance). Struck b x (hears h i).left) l (subst (Struck b g) l' same);
    }

remaining : (h : PlaneGuidance) (i : Handed) (us : List Handed) (a : Told) (vs : List Told) (m : Bool) → (m ≡ false → a ≡ (hears h i).answer) →
    answers hears (cond m h (hears h i).left) us ≡ vs → answers hears h (cond m us (i ∷ us)) ≡ cond m vs (a ∷ vs)
unfolding answers
remaining h i us a vs true e rest = rest
remaining h i us a vs false e rest = let f = sym (e refl) in λ x. f x ∷ rest x

struck_list : (b : Bool) (g h : PlaneGuidance) → Pair g h → Struck b g h → (is : List Handed) → One is →
    answers hears h (unmarked (marks_from b g is) is) ≡ unmarked (marks_from b g is) (answers hears g is)
unfolding answers unmarked marks_from OneFlight sents
struck_list b g h p same [] n = refl
struck_list b g h p same (i ∷ is) n =
    let t = counts_as g i in
    let q = is_refused (hears g i).answer in
    let m = struck_by b t q in
    let o = onward b g h p same i n.0 t refl m refl in
    let ms = marks_from (fell_back_by b t q) (hears g i).left is in
    remaining h i (unmarked ms is) (hears g i).answer (unmarked ms (answers hears (hears g i).left is)) m o.answer
    (struck_list (fell_back_by b t q) (hears g i).left (cond m h (hears h i).left) o.left o.struck_lem is n.1)

-- ---- every list

pub host_whole : (c : PlaneGuidanceConfig) → validate c ≡ 0 → (list : List Handed) → One list → HostWhole c list
unfolding fresh reset
host_whole c e list n = record {
  does = λ before i rest at.
      let g = after hears (fresh c) before in
      does_by g i (one_here before i rest (subst One at n)).0 (counts_as g i) refl;
  struck = struck_list false (fresh c) (fresh c) (record { force = refl; sound = fresh_valid c e })
      (strike (fresh c) (fresh c) false (alike_refl (fresh c)) (λ b. refl)) list n;
  fresh_start = λ before i rest at k next is starting.
      let all = subst One at n in
      let here = one_here before i rest all in
      starts (after hears (fresh c) before) (sound_along (fresh c) (fresh_valid c e) before (one_before before (i ∷ rest) all)) i here.0 k next is starting rest
      here.1;
  limits = all_within (fresh c) (at_start c) (fresh_valid c e) refl list n;
}

-- a host's list is the list of what it hands over
as_handed : (h : Held) (sent : List Sent) → heard h sent ≡ answers hears h.guidance (handed_over h sent)
unfolding answers heard handed_over
as_handed h [] = refl
as_handed h (k ∷ ks) = ap (λ (l : List Told). spoken k.asks (step h k).answer ∷ l) (as_handed (step h k).left ks)

one_given : (h : Held) (sent : List Sent) → OneFlight sent → One (handed_over h sent)
unfolding OneFlight sents handed_over
one_given h [] n = tt
one_given h (k ∷ ks) n = (n.0, one_given (step h k).left ks n.1)

-- ---- a host's own list with another guidance

number_of : Told → ℕ
number_of (ran r) = 0
number_of (flown r) = r.number
number_of (loaded r) = 0
number_of (written p out) = 0
number_of (reported r) = 0

-- the route is left the same where the answers are
route_left : (h : Held) (g : PlaneGuidance) (k : Sent) → spoken k.asks (step h k).answer ≡ spoken k.asks (step (beside_route g h) k).answer →
    (step (beside_route g h) k).left ≡ beside_route (step (beside_route g h) k).left.guidance (step h k).left
unfolding number_of
route_left h g k e = go k.asks e
  where
    go : (a : Ask) →
        let o = step h (record { caller = k.caller; asks = a }) in
        let o' = step (beside_route g h) (record { caller = k.caller; asks = a }) in
        spoken a o.answer ≡ spoken a o'.answer → o'.left ≡ beside_route o'.left.guidance o.left
    go (run what bytes) f = refl
    go (route n) f =
        let o' = step (beside_route g h) (record { caller = k.caller; asks = route n }) in
        ap (λ (m : ℕ). record { guidance = o'.left.guidance; map = h.map; number = m; numbers = h.numbers }) (sym (ap number_of f))
    go (load s at) f = refl
    go (write out at) f = refl
    go (report what) f = refl

first_told : List Told → Told
first_told [] = reported (record { refusal = 0; value = 0 })
first_told (x ∷ xs) = x

rest_told : List Told → List Told
rest_told [] = []
rest_told (x ∷ xs) = xs

own : (h : Held) (g : PlaneGuidance) (sent : List Sent) →
    answers hears h.guidance (handed_over h sent) ≡ answers hears g (handed_over h sent) → heard h sent ≡ heard (beside_route g h) sent
unfolding answers heard handed_over first_told rest_told
own h g [] e = refl
own h g (k ∷ ks) e =
    let o = step h k in
    let o' = step (beside_route g h) k in
    let first = ap first_told e in
    let later =
    own o.left o'.left.guidance ks (ap rest_told e)
    ∙ ap (λ (x : Held). heard x ks) (sym (route_left h g k first)) in
    λ x. first x ∷ later x

sound_own : (h : Held) → Sound h.guidance → (sent : List Sent) → OneFlight sent → Sound (after step h sent).guidance
unfolding after OneFlight
sound_own h v [] n = v
sound_own h v (k ∷ ks) n = sound_own (step h k).left (sound_left h.guidance v (handed_at h k) n.0) ks n.1

sent_here : (before : List Sent) (k : Sent) (later : List Sent) → OneFlight (before ++ (k ∷ later)) → OneFlight before × (NoNew k.caller k.asks × OneFlight later)
unfolding OneFlight
sent_here [] k later n = (tt, n)
sent_here (b ∷ bs) k later n = let m = sent_here bs k later n.1 in ((n.0, m.0), m.1)

same_refused : (a : Ask) (t : Told) → is_refused (spoken a t) ≡ is_refused t
same_refused a (ran r) = refl
same_refused a (flown r) = refl
same_refused a (loaded r) = refl
same_refused a (written p out) = refl
same_refused a (reported r) = refl

own_start : (h : Held) → Sound h.guidance → (k : Sent) → NoNew k.caller k.asks → (later : List Sent) → OneFlight later →
    let o = step h k in
    (made : Call) (next : ℕ) → counts_by h k.caller k.asks ≡ makes made next → starts_fresh made (is_refused o.answer) ≡ true →
    heard o.left later ≡ heard (beside_route (fresh_with (settings_of o.left.guidance)) o.left) later
own_start h v k n later one made_is next e fresh_is =
    let o = step h k in
    let b = starts h.guidance v (handed_at h k) n made_is next e (ap (starts_fresh made_is) (same_refused k.asks o.answer) ∙ fresh_is)
    (handed_over o.left later) (one_given o.left later one) in
    own o.left (fresh_with (settings_of o.left.guidance)) later b.same

-- what an accepted NEW leaves
new_is : (h : Held) (i : Input) (c : PlaneGuidanceConfig) (next : ℕ) → meaning i ≡ a_fresh c next →
    step h (as_sent i) ≡ ran_by h (record { guidance = fresh c; answer = bare 0 0 next })
new_is h i c next e = ap (ran_by h) (run_is h.guidance i ∙ ap (run_as h.guidance) e)

answers_join : (h : Held) (before rest : List Sent) → answers step h (before ++ rest) ≡ answers step h before ++ answers step (after step h before) rest
unfolding answers after
answers_join h [] rest = refl
answers_join h (k ∷ ks) rest = ap (λ (l : List Told). (step h k).answer ∷ l) (answers_join (step h k).left ks rest)

answers_new : (h : Held) (i : Input) (c : PlaneGuidanceConfig) (next : ℕ) (rest : List Sent) → meaning i ≡ a_fresh c next →
    answers step h (as_sent i ∷ rest) ≡ ran (bare 0 0 next) ∷ answers step (step h (as_sent i)).left rest
unfolding answers
answers_new h i c next rest e = ap (λ (o : Step Told Held). o.answer ∷ answers step (step h (as_sent i)).left rest) (new_is h i c next e)

-- Every list, whatever is held and whoever calls: an accepted `NUTHKOLLA_NEW` starts a list of its own, and of that list the claim holds
-- up to the next one.
pub from_new : (h : Held) (before : List Sent) (i : Input) (c : PlaneGuidanceConfig) (next : ℕ) (rest : List Sent) →
    meaning i ≡ a_fresh c next → OneFlight rest →
    let held = (step (after step h before) (as_sent i)).left in
    (answers step h (before ++ (as_sent i ∷ rest)) ≡ answers step h before ++ (ran (bare 0 0 next) ∷ answers step held rest)) × FromNew held c rest
from_new h before i c next rest e n =
    let then = after step h before in
    let held = (step then (as_sent i)).left in
    let start_is : held.guidance ≡ fresh c = ap (λ (o : Step Told Held). o.left.guidance) (new_is then i c next e) in (
      answers_join h before (as_sent i ∷ rest) ∙ ap (λ (l : List Told). answers step h before ++ l) (answers_new then i c next rest e),
      record {
        started = start_is;
        same = as_handed held rest ∙ ap (λ (g : PlaneGuidance). answers hears g (handed_over held rest)) start_is;
        whole = host_whole c (passes i c next e) (handed_over held rest) (one_given held rest n);
        own_fresh = λ ks k later at made_is place is starting.
            let m = sent_here ks k later (subst OneFlight at n) in
            own_start (after step held ks)
            (sound_own held (subst Sound (sym start_is) (fresh_valid c (passes i c next e))) ks m.0) k m.1.0 later m.1.1 made_is place is starting;
      },
    )
