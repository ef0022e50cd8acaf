-- Refused inputs of every function change nothing that a host holds or lends, in every list. Assumes nothing.
use Prim.Native.Nat.{ℕ, ◌+◌}
use Rattle.std.specs.Prelude.{Result, Ok, Err, is_ok, is_err, map, Option, Float}
use Rattle.std.specs.Result.{result_and}
use Rattle.std.proofs.lemmas.Bool.{not-true}
use mathlib.Core.Path.{◌≡◌, refl, sym, ap, subst, ◌∙◌}
use mathlib.Core.Bool.{Bool, true, false, cond, not}
use mathlib.Core.List.{List, [], ◌∷◌, ◌++◌}
use lib.Dec.{eqb, ltb, leb}
use lib.ListN.{length, drop}
use Rattle.arithmetic.proofs.Bounds.{never, never'}
use Rattle.refusals.specs.Numbers.{number}
use Rattle.refusals.specs.declared.Refusal.{Refusal}
use Rattle.refusals.specs.declared.Refusal.TheVariants as why
use Rattle.laws.specs.Config.{validate}
use Rattle.laws.specs.declared.types.ControlInput.{ControlInput}
use Rattle.laws.specs.declared.types.ControlInput.TheVariants as Command
use Rattle.laws.specs.declared.types.FlightRegime.{FlightRegime}
use Rattle.laws.specs.declared.types.VehicleState.{VehicleState}
use Rattle.laws.specs.Tecs.{flag}
use Rattle.guidance.specs.Plane.{restored, bad_time_step, bad_cap, all_finite, commanded, waypoint, obeyed, guided}
use Rattle.guidance.specs.declared.plane.PlaneGuidance.{PlaneGuidance}
use Rattle.guidance.specs.declared.plane.Guided.{Guided}
use Rattle.guidance.specs.declared.plane.Answer.{Answer}
use Rattle.claims.specs.Calls.{Call, guide, prime, set_config, take_back, answered, perform, unmarked}
use Rattle.claims.specs.Calls as calls
use Rattle.claims.proofs.Performed.{set_config_is, taken_to, take_back_is}
use Rattle.fields.specs.Fields.{ones}
use Rattle.fields.specs.Bytes.{has_bytes, put_at}
use Rattle.fields.specs.Writing as writing
use Rattle.route_records.specs.Record.{Route, RouteRead, number_count, check_map, route_record, route_of, write_answer, write_buffer, read_route, answer_to, buffer_to, load_answer, load_buffer}
use Rattle.routes.specs.Route.{points_of, settled, guided_to, unless_refused, check_lent, fly, wanted, counted}
use Rattle.routes.specs.declared.Flown.{Flown}
use Rattle.rights.specs.Rights.{may}
use Rattle.rights.specs.declared.Deed.TheVariants as deed
use Rattle.rights_claims.specs.Runs.{Step, answers, after}
use Rattle.host_answers.specs.Answer.{bare, of_answer}
use Rattle.host_answers.specs.Place.{place_of}
use Rattle.host.specs.Run.{performed}
use Rattle.host.specs.declared.run.Ran.{Ran}
use Rattle.host_routes.specs.Route.{route_call_of, flown_of, run_route, run_route_by, loaded_of, load_by, load_buffer_by, write_by, write_buffer_by}
use Rattle.host_routes.specs.declared.route.RouteNumbers.{RouteNumbers}
use Rattle.host_routes.specs.declared.route.RouteAnswer.{RouteAnswer}
use Rattle.host_routes.specs.declared.route.RouteRan.{RouteRan}
use Rattle.host_claims.specs.Inputs.{Input, Meaning, a_call, a_fresh, refused_as, meaning}
use Rattle.host_claims.specs.Rights.{Held, Ask, run, route, load, write, report, Sent, Told, ran_by, flown_by, loaded_by, step, on_route, lent_by, lent_after}
use Rattle.host_claims.specs.Whole.{is_refused, refusals_of, RefusedGone}
use Rattle.host_claims.proofs.Told.{run_as, run_is, refused_is}

-- ---- a refused call

-- a refused call keeps the guidance
abbrev Keeps : PlaneGuidance → Guided → Type 0
Keeps g o = calls.refused (answered o.answer) ≡ true → o.guidance ≡ g

either : (g : PlaneGuidance) (b : Bool) (x y : Guided) → Keeps g x → Keeps g y → Keeps g (cond b x y)
either g true x y p q = p
either g false x y p q = q

keeps_obeyed : (g : PlaneGuidance) (dt : Float) (regime : FlightRegime) (k : ControlInput) (s : VehicleState) (cap : Option Float) →
    Keeps g (obeyed g dt regime k s cap)
unfolding obeyed commanded waypoint
keeps_obeyed g dt regime (Command.Attitude k) s cap = λ e. never e
keeps_obeyed g dt regime (Command.Rate k) s cap = λ e. never e
keeps_obeyed g dt regime (Command.Waypoint w) s cap =
    either g (bad_cap cap) _ _ (λ e. refl) (either g (all_finite _) _ _ (λ e. never e) (λ e. refl))
keeps_obeyed g dt regime (Command.AbsoluteAttitude k) s cap = λ e. never e
keeps_obeyed g dt regime Command.Land s cap = λ e. never e
keeps_obeyed g dt regime (Command.AbsoluteRate k) s cap = λ e. never e

keeps_guided : (g : PlaneGuidance) (dt : Float) (regime : FlightRegime) (k : ControlInput) (s : VehicleState) (cap : Option Float) →
    Keeps g (guided g dt regime k s cap)
unfolding guided
keeps_guided g dt regime k s cap = either g (bad_time_step dt) _ _ (λ e. refl) (keeps_obeyed g dt regime k s cap)

by_valid : (g h : PlaneGuidance) (b : Bool) → not b ≡ true → cond b h g ≡ g
by_valid g h true e = never e
by_valid g h false e = refl

by_kept : (g h : PlaneGuidance) (b : Bool) → calls.refused (taken_to g h b).reply ≡ true → (taken_to g h b).next ≡ g
by_kept g h true e = never e
by_kept g h false e = refl

refused_kept : (g : PlaneGuidance) (k : Call) → calls.refused (perform g k).reply ≡ true → (perform g k).next ≡ g
unfolding perform
refused_kept g (guide dt regime k s cap) = keeps_guided g dt regime k s cap
refused_kept g prime = λ e. never e
refused_kept g (set_config c) = rw (set_config_is g c) (by_valid g _ (eqb (validate c) 0))
refused_kept g take_back = rw (take_back_is g) (by_kept g (restored g) (flag g.former.kept))

-- ---- a refused input

-- the number that an accepted route call reaches
abbrev pub reached_by : Held → RouteNumbers → ℕ
reached_by h k = wanted h.guidance (points_of (ones 64 h.map) h.numbers) (counted (ones 64 h.map) h.number) (route_call_of (on_route h k))

abbrev pub told_no : Held → ℕ → RouteAnswer
told_no h n = record { answer = bare n 0 0; number = h.number }

abbrev Kept : Held → Step Told Held → Type 0
Kept h o = is_refused o.answer ≡ true → o.left ≡ h

kept_run : (h : Held) (m : Meaning) → Kept h (ran_by h (run_as h.guidance m))
unfolding performed bare
kept_run h (a_call k next) = λ e.
    ap (λ (g : PlaneGuidance). record { guidance = g; map = h.map; number = h.number; numbers = h.numbers })
    (refused_kept h.guidance k (sym (refused_is (perform h.guidance k).reply next) ∙ e))
kept_run h (a_fresh c next) = λ e. never e
kept_run h (refused_as n failing next) = λ e. refl

kept_flown : (h : Held) (n : ℕ) (o : Guided) → Keeps h.guidance o → Kept h (flown_by h (flown_of (settled h.number n o)))
unfolding settled
kept_flown h n o = go o.answer o.guidance
  where
    go : (a : Result Answer Refusal) (g : PlaneGuidance) → (calls.refused (answered a) ≡ true → g ≡ h.guidance) →
        Kept h (flown_by h (record { guidance = g; answer = record { answer = of_answer a 0; number = cond (is_ok a) n h.number } }))
    go (Ok a) g keeps = λ e. never (sym (refused_is (answered (Ok a)) 0) ∙ e)
    go (Err why) g keeps = λ e.
        ap (λ (x : PlaneGuidance). record { guidance = x; map = h.map; number = h.number; numbers = h.numbers })
        (keeps (sym (refused_is (answered (Err why)) 0) ∙ e))

kept_route : (h : Held) (caller : ℕ) (k : RouteNumbers) → Kept h (flown_by h (run_route_by h.guidance caller (on_route h k) h.numbers))
unfolding run_route_by run_route fly
kept_route h caller k = go (may caller deed.RouteCall) (ltb 1 k.regime) (check_lent h.map (length h.numbers))
  where
    O : Guided
    O = guided_to h.guidance (points_of (ones 64 h.map) h.numbers) (reached_by h k) (route_call_of (on_route h k))

    F : Flown
    F = settled h.number (reached_by h k) O

    no : ℕ → RouteRan
    no n = record { guidance = h.guidance; answer = told_no h n }

    go : (a b : Bool) (c : Result (Unit {0}) Refusal) →
        Kept h (flown_by h (cond a (cond b (no 7) (flown_of (unless_refused c h.guidance h.number F))) (no 13)))
    go false b c = λ e. refl
    go true true c = λ e. refl
    go true false (Ok u) = kept_flown h (reached_by h k) O (keeps_guided h.guidance _ _ _ _ _)
    go true false (Err why) = λ e. refl

kept_load : (h : Held) (caller : ℕ) (s : List ℕ) (at : ℕ) → Kept h (loaded_by h (load_by caller s at h.numbers) (load_buffer_by caller s at h.numbers))
unfolding load_by load_buffer_by load_answer load_buffer
kept_load h caller s at = go (may caller deed.LoadRoute) (read_route s at)
  where
    -- by whether the number is 0, which no refusal's is
    refused_load : (b : Bool) (map number : ℕ) → not b ≡ true →
        record { guidance = h.guidance; map = cond b map h.map; number = cond b number h.number; numbers = h.numbers } ≡ h
    refused_load true map number e = never e
    refused_load false map number e = refl

    with_room : (b : Bool) (r : Route) (next : ℕ) →
        Kept h (loaded_by h (loaded_of (cond b (Ok (record { map = r.map; next = next })) (Err why.TooLittleRoom)))
        (cond b (r.numbers ++ drop (length r.numbers) h.numbers) h.numbers))
    with_room true r next = λ e. never e
    with_room false r next = λ e. refl

    go : (a : Bool) (r : RouteRead) →
        Kept h (loaded_by h (loaded_of (cond a (answer_to r h.numbers) (Err why.NoRight))) (cond a (buffer_to r h.numbers) h.numbers))
    go false r = λ e. refl
    go true (Err e) = refused_load (eqb (number e) 0) 0 0
    go true (Ok (r, next)) = with_room (leb (length r.numbers) (length h.numbers)) r next

kept : (h : Held) (caller : ℕ) (a : Ask) → Kept h (step h (record { caller = caller; asks = a }))
kept h caller (run what bytes) =
    let i : Input = record { caller = caller; what = what; bytes = bytes } in
    subst (λ (o : Ran). Kept h (ran_by h o)) (sym (run_is h.guidance i)) (kept_run h (meaning i))
kept h caller (route k) = kept_route h caller k
kept h caller (load s at) = kept_load h caller s at
kept h caller (write out at) = λ e. refl
kept h caller (report what) = λ e. refl

-- a refused write changes no byte
write_kept : (out : List ℕ) (at m : ℕ) (numbers : List Float) → eqb (place_of (write_answer out at m numbers)).refusal 0 ≡ false →
    write_buffer out at m numbers ≡ out
unfolding write_answer write_buffer writing.answer_of writing.buffer_of
write_kept out at m numbers = go (check_map m) (leb (number_count m) (length numbers)) (has_bytes out at (length bs))
  where
    bs : List ℕ
    bs = route_record (route_of m numbers)

    go : (c : Result (Unit {0}) Refusal) (enough room : Bool) →
        eqb (place_of (result_and c (cond (not enough) (Err why.TooFewBytes) (cond room (Ok (at + length bs)) (Err why.TooLittleRoom))))).refusal 0 ≡ false →
        cond (is_err c) out (cond (not enough) out (cond room (put_at out at bs) out)) ≡ out
    go (Err e) enough room = λ f. refl
    go (Ok u) false room = λ f. refl
    go (Ok u) true true = λ f. never' f
    go (Ok u) true false = λ f. refl

lent : (h : Held) (caller : ℕ) (a : Ask) →
    let o = step h (record { caller = caller; asks = a }) in
    is_refused o.answer ≡ true → lent_after o.answer ≡ lent_by a
unfolding write_by write_buffer_by
lent h caller (run what bytes) = λ e. refl
lent h caller (route k) = λ e. refl
lent h caller (load s at) = λ e. refl
lent h caller (write out at) = go (may caller deed.WriteRoute)
  where
    go : (b : Bool) → not (eqb (place_of (cond b (write_answer out at h.map h.numbers) (Err why.NoRight))).refusal 0) ≡ true →
        cond b (write_buffer out at h.map h.numbers) out ≡ out
    go false e = refl
    go true e = write_kept out at h.map h.numbers (not-true _ e)
lent h caller (report what) = λ e. refl

gone_answers : (h : Held) (sent : List Sent) → answers step h (unmarked (refusals_of h sent) sent) ≡ unmarked (refusals_of h sent) (answers step h sent)
unfolding answers unmarked refusals_of
gone_answers h [] = refl
gone_answers h (k ∷ ks) = go (is_refused (step h k).answer) (kept h k.caller k.asks) (gone_answers (step h k).left ks)
  where
    o : Step Told Held
    o = step h k

    ms : List Bool
    ms = refusals_of o.left ks

    go : (b : Bool) → (b ≡ true → o.left ≡ h) → answers step o.left (unmarked ms ks) ≡ unmarked ms (answers step o.left ks) →
        answers step h (cond b (unmarked ms ks) (k ∷ unmarked ms ks)) ≡ cond b (unmarked ms (answers step o.left ks)) (o.answer ∷ unmarked ms (answers step o.left ks))
    go true e rest = ap (λ (x : Held). answers step x (unmarked ms ks)) (sym (e refl)) ∙ rest
    go false e rest = ap (λ (l : List Told). o.answer ∷ l) rest

gone_after : (h : Held) (sent : List Sent) → after step h (unmarked (refusals_of h sent) sent) ≡ after step h sent
unfolding after unmarked refusals_of
gone_after h [] = refl
gone_after h (k ∷ ks) = go (is_refused (step h k).answer) (kept h k.caller k.asks) (gone_after (step h k).left ks)
  where
    o : Step Told Held
    o = step h k

    ms : List Bool
    ms = refusals_of o.left ks

    go : (b : Bool) → (b ≡ true → o.left ≡ h) → after step o.left (unmarked ms ks) ≡ after step o.left ks →
        after step h (cond b (unmarked ms ks) (k ∷ unmarked ms ks)) ≡ after step o.left ks
    go true e rest = ap (λ (x : Held). after step x (unmarked ms ks)) (sym (e refl)) ∙ rest
    go false e rest = rest

pub refused_gone : (h : Held) (sent : List Sent) → RefusedGone h sent
refused_gone h sent = record { same_answers = gone_answers h sent; same_after = gone_after h sent; lent_kept = λ before k rest at. lent (after step h before) k.caller k.asks }
