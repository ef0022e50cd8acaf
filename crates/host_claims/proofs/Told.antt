-- Inputs as calls: a run of inputs is a run of the calls that they carry. Assumes nothing.
use Prim.Native.Nat.{ℕ}
use Rattle.std.specs.Prelude.{Result, Ok, Err}
use Rattle.refusals.specs.declared.Refusal.{Refusal}
use mathlib.Core.Path.{◌≡◌, refl, sym, ap, subst, ◌∙◌}
use mathlib.Core.Bool.{Bool, true, false, cond, not}
use mathlib.Core.List.{List, [], ◌∷◌, ◌++◌}
use lib.Dec.{eqb}
use lib.Ieee.{Float}
use borrow.Author.Tests.{eqb-true}
use Rattle.arithmetic.specs.Constants.{n0}
use Rattle.laws.specs.declared.config.PlaneGuidanceConfig.{PlaneGuidanceConfig}
use Rattle.laws.specs.declared.types.Setpoint.{Setpoint}
use Rattle.laws.specs.declared.types.Setpoint.TheVariants as Set
use Rattle.laws.specs.Config.{validate}
use Rattle.guidance.specs.Plane.{fresh, created}
use Rattle.guidance.specs.declared.plane.PlaneGuidance.{PlaneGuidance}
use Rattle.guidance.specs.declared.plane.Answer.TheVariants.{Commanded, Waypoint}
use Rattle.claims.specs.Calls.{Call, take_back, perform, Reply, answered, done, field, back, replies, after, refusals, strikes, unmarked, struck, fell_back}
use Rattle.claims.specs.Calls as calls
use Rattle.records.specs.Call.{read_call}
use Rattle.records.specs.Config.{read_config}
use Rattle.records.specs.declared.call.ReadCall.{ReadCall}
use Rattle.records.specs.declared.config.ReadConfig.{ReadConfig}
use Rattle.host_answers.specs.Answer.{bare, of_setpoint, of_field, of_reply}
use Rattle.rights.specs.Rights.{may}
use Rattle.host.specs.Run.{unchanged, performed, made, of_call, of_config, of_new, run_call, run_config, run_new, run_back, run, deed_of, run_by}
use Rattle.host_answers.specs.declared.answer.RunAnswer.{RunAnswer}
use Rattle.host.specs.declared.run.Ran.{Ran}
use Rattle.host_claims.specs.Inputs.{
  Input,
  Meaning,
  a_call,
  a_fresh,
  refused_as,
  call_meaning,
  config_meaning,
  new_of,
  new_meaning,
  asked,
  meaning,
  run_on,
  answers,
  left,
  calls_by,
  calls_of,
  NoFresh,
  OneList,
  refused,
  struck_by,
  fell_back_by,
  strikes_by,
  told_by,
  told,
}

-- ---- one input

-- what an input does, by its meaning
abbrev pub run_as : PlaneGuidance → Meaning → Ran
run_as g (a_call k next) = performed g k next
run_as g (a_fresh c next) = record { guidance = fresh c; answer = bare 0 0 next }
run_as g (refused_as n failing next) = unchanged g n failing next

call_is : (g : PlaneGuidance) (r : Result ReadCall Refusal) → of_call g r ≡ run_as g (call_meaning r)
call_is g (Err why) = refl
call_is g (Ok r) = refl

config_is : (g : PlaneGuidance) (r : Result ReadConfig Refusal) → of_config g r ≡ run_as g (config_meaning r)
config_is g (Err why) = refl
config_is g (Ok r) = refl

made_is : (g : PlaneGuidance) (c : PlaneGuidanceConfig) (next : ℕ) → made g (created c) next ≡ run_as g (new_of c next (created c))
unfolding created
made_is g c next = go (eqb (validate c) 0)
  where
    go : (b : Bool) → made g (cond b (Ok (fresh c)) (Err (record { field = validate c }))) next ≡ run_as g (new_of c next (cond b (Ok (fresh c)) (Err (record { field = validate c }))))
    go true = refl
    go false = refl

new_is : (g : PlaneGuidance) (r : Result ReadConfig Refusal) → of_new g r ≡ run_as g (new_meaning r)
new_is g (Err why) = refl
new_is g (Ok r) = made_is g r.config r.next

asked_is : (g : PlaneGuidance) (i : Input) → run g i.what i.bytes ≡ run_as g (asked i)
unfolding run run_call run_config run_new run_back asked
asked_is g i = go (eqb i.what 0) (eqb i.what 1) (eqb i.what 2) (eqb i.what 3)
  where
    r : Result ReadCall Refusal
    r = read_call i.bytes 0

    s : Result ReadConfig Refusal
    s = read_config i.bytes 0

    go : (a b c d : Bool) →
        cond a (of_call g r) (cond b (of_config g s) (cond c (of_new g s) (cond d (performed g take_back 0) (unchanged g 255 0 0))))
        ≡ run_as g (cond a (call_meaning r) (cond b (config_meaning s) (cond c (new_meaning s) (cond d (a_call take_back 0) (refused_as 255 0 0)))))
    go true b c d = call_is g r
    go false true c d = config_is g s
    go false false true d = new_is g s
    go false false false true = refl
    go false false false false = refl

pub run_is : (g : PlaneGuidance) (i : Input) → run_on g i ≡ run_as g (meaning i)
unfolding run_by meaning
run_is g i = go (may i.caller (deed_of i.what))
  where
    go : (b : Bool) → cond b (run g i.what i.bytes) (unchanged g 13 0 0) ≡ run_as g (cond b (asked i) (refused_as 13 0 0))
    go true = asked_is g i
    go false = refl

-- the host sees a refusal where the reply is one
setpoint_accepted : (t : Setpoint) (lateral vertical : ℕ) (off : Float) (next : ℕ) → (of_setpoint t lateral vertical off next).refusal ≡ 0
setpoint_accepted (Set.Plane roll pitch thrust) lateral vertical off next = refl
setpoint_accepted (Set.PlaneRate roll pitch yaw thrust) lateral vertical off next = refl

pub refused_is : (r : Reply) (next : ℕ) → refused (of_reply r next) ≡ calls.refused r
unfolding bare of_field
refused_is (answered (Err why)) next = refl
refused_is (answered (Ok (Commanded t))) next = ap (λ (n : ℕ). not (eqb n 0)) (setpoint_accepted t 0 0 n0 next)
refused_is (answered (Ok (Waypoint a))) next = ap (λ (n : ℕ). not (eqb n 0)) (setpoint_accepted a.setpoint _ _ _ next)
refused_is done next = refl
refused_is (back n) next = refl
refused_is (field n) next = go (eqb n 0)
  where
    go : (b : Bool) → refused (cond b (bare 0 0 next) (bare 1 n next)) ≡ not b
    go true = refl
    go false = refl

-- ---- a run

answers_next : (g : PlaneGuidance) (i : Input) (is : List Input) → answers g (i ∷ is) ≡ (run_as g (meaning i)).answer ∷ answers (run_as g (meaning i)).guidance is
unfolding answers
answers_next g i is = ap (λ (o : Ran). o.answer ∷ answers o.guidance is) (run_is g i)

told_by_lem : (g : PlaneGuidance) (m : Meaning) (is : List Input) → NoFresh m → ((h : PlaneGuidance) → answers h is ≡ told is (replies h (calls_of is))) →
    (run_as g m).answer ∷ answers (run_as g m).guidance is ≡ told_by m (replies g (calls_by m (calls_of is))) (λ rest. told is rest)
unfolding performed replies
told_by_lem g (a_call k next) is n ih = ap (λ (rest : List RunAnswer). of_reply (perform g k).reply next ∷ rest) (ih (perform g k).next)
told_by_lem g (a_fresh c next) is n ih = elim n [ ]
told_by_lem g (refused_as r failing next) is n ih = ap (λ (rest : List RunAnswer). bare r failing next ∷ rest) (ih g)

pub answers_told : (g : PlaneGuidance) (is : List Input) → OneList is → answers g is ≡ told is (replies g (calls_of is))
unfolding answers told calls_of OneList
answers_told g [] n = refl
answers_told g (i ∷ is) n = answers_next g i is ∙ told_by_lem g (meaning i) is n.0 (λ h. answers_told h is n.1)

left_by : (g : PlaneGuidance) (m : Meaning) (is : List Input) → NoFresh m → ((h : PlaneGuidance) → left h is ≡ after h (calls_of is)) →
    left (run_as g m).guidance is ≡ after g (calls_by m (calls_of is))
unfolding performed after
left_by g (a_call k next) is n ih = ih (perform g k).next
left_by g (a_fresh c next) is n ih = elim n [ ]
left_by g (refused_as r failing next) is n ih = ih g

pub left_after : (g : PlaneGuidance) (is : List Input) → OneList is → left g is ≡ after g (calls_of is)
unfolding left after calls_of OneList
left_after g [] n = refl
left_after g (i ∷ is) n = ap (λ (o : Ran). left o.guidance is) (run_is g i) ∙ left_by g (meaning i) is n.0 (λ h. left_after h is n.1)

-- ---- striking

-- the marks of inputs and of calls, after a first run from g
abbrev InputMarks : Bool → PlaneGuidance → List Input → List Bool
InputMarks b g is = strikes_by b is (answers g is)

abbrev CallMarks : Bool → PlaneGuidance → List Call → List Bool
CallMarks b g ks = strikes b ks (refusals (replies g ks))

marks_next : (b : Bool) (g : PlaneGuidance) (i : Input) (is : List Input) →
    let a = (run_as g (meaning i)).answer in
    InputMarks b g (i ∷ is) ≡ struck_by b (meaning i) a ∷ InputMarks (fell_back_by b (meaning i) a) (run_as g (meaning i)).guidance is
unfolding strikes_by
marks_next b g i is = ap (strikes_by b (i ∷ is)) (answers_next g i is)

-- an input that stays brings its call
pub calls_next : (i : Input) (m : Meaning) (is : List Input) → meaning i ≡ m → calls_of (i ∷ is) ≡ calls_by m (calls_of is)
unfolding calls_of
calls_next i m is e = ap (λ (x : Meaning). calls_by x (calls_of is)) e

calls_by_lem : (b : Bool) (g : PlaneGuidance) (i : Input) (m : Meaning) (is : List Input) → meaning i ≡ m → NoFresh m →
    ((d : Bool) (h : PlaneGuidance) → calls_of (unmarked (InputMarks d h is) is) ≡ unmarked (CallMarks d h (calls_of is)) (calls_of is)) →
    let a = (run_as g m).answer in
    calls_of (unmarked (struck_by b m a ∷ InputMarks (fell_back_by b m a) (run_as g m).guidance is) (i ∷ is))
    ≡ unmarked (CallMarks b g (calls_by m (calls_of is))) (calls_by m (calls_of is))
unfolding performed replies refusals strikes unmarked
calls_by_lem b g i (a_call k next) is e n ih = rw (refused_is (perform g k).reply next) (go (struck b k q) _ _ (ih (fell_back b k q) (perform g k).next))
  where
    q : Bool
    q = calls.refused (perform g k).reply

    go : (x : Bool) (us : List Input) (vs : List Call) → calls_of us ≡ vs → calls_of (cond x us (i ∷ us)) ≡ cond x vs (k ∷ vs)
    go true us vs h = h
    go false us vs h = calls_next i (a_call k next) us e ∙ ap (λ (l : List Call). k ∷ l) h
calls_by_lem b g i (a_fresh c next) is e n ih = elim n [ ]
calls_by_lem b g i (refused_as r failing next) is e n ih = ih b g

pub calls_left : (b : Bool) (g : PlaneGuidance) (is : List Input) → OneList is →
    calls_of (unmarked (InputMarks b g is) is) ≡ unmarked (CallMarks b g (calls_of is)) (calls_of is)
unfolding calls_of unmarked OneList strikes_by strikes
calls_left b g [] n = refl
calls_left b g (i ∷ is) n =
    ap (λ (ms : List Bool). calls_of (unmarked ms (i ∷ is))) (marks_next b g i is)
    ∙ calls_by_lem b g i (meaning i) is refl n.0 (λ d h. calls_left d h is n.1)

-- an input that stays keeps its answer
told_next : (i : Input) (m : Meaning) (is : List Input) (rs : List Reply) → meaning i ≡ m → told (i ∷ is) rs ≡ told_by m rs (λ rest. told is rest)
unfolding told
told_next i m is rs e = ap (λ (x : Meaning). told_by x rs (λ rest. told is rest)) e

told_left_by : (b : Bool) (g : PlaneGuidance) (i : Input) (m : Meaning) (is : List Input) → meaning i ≡ m → NoFresh m →
    ((d : Bool) (h : PlaneGuidance)
    → told (unmarked (InputMarks d h is) is) (unmarked (CallMarks d h (calls_of is)) (replies h (calls_of is)))
    ≡ unmarked (InputMarks d h is) (answers h is)) →
    let a = (run_as g m).answer in
    let ms = struck_by b m a ∷ InputMarks (fell_back_by b m a) (run_as g m).guidance is in
    told (unmarked ms (i ∷ is)) (unmarked (CallMarks b g (calls_by m (calls_of is))) (replies g (calls_by m (calls_of is))))
    ≡ unmarked ms (a ∷ answers (run_as g m).guidance is)
unfolding performed replies refusals strikes unmarked
told_left_by b g i (a_call k next) is e n ih = rw (refused_is (perform g k).reply next) (go (struck b k q) _ _ _ (ih (fell_back b k q) (perform g k).next))
  where
    q : Bool
    q = calls.refused (perform g k).reply

    go : (x : Bool) (us : List Input) (vs : List Reply) (ws : List RunAnswer) → told us vs ≡ ws →
        told (cond x us (i ∷ us)) (cond x vs ((perform g k).reply ∷ vs)) ≡ cond x ws (of_reply (perform g k).reply next ∷ ws)
    go true us vs ws h = h
    go false us vs ws h = told_next i (a_call k next) us ((perform g k).reply ∷ vs) e ∙ ap (λ (l : List RunAnswer). of_reply (perform g k).reply next ∷ l) h
told_left_by b g i (a_fresh c next) is e n ih = elim n [ ]
told_left_by b g i (refused_as r failing next) is e n ih = ih b g

pub told_left : (b : Bool) (g : PlaneGuidance) (is : List Input) → OneList is →
    told (unmarked (InputMarks b g is) is) (unmarked (CallMarks b g (calls_of is)) (replies g (calls_of is))) ≡ unmarked (InputMarks b g is) (answers g is)
unfolding calls_of unmarked OneList strikes_by strikes told answers replies
told_left b g [] n = refl
told_left b g (i ∷ is) n =
    ap (λ (ms : List Bool).
    told (unmarked ms (i ∷ is))
    (unmarked (CallMarks b g (calls_by (meaning i) (calls_of is))) (replies g (calls_by (meaning i) (calls_of is)))))
    (marks_next b g i is)
    ∙ told_left_by b g i (meaning i) is refl n.0 (λ d h. told_left d h is n.1)
    ∙ ap (λ (ms : List Bool). unmarked ms ((run_as g (meaning i)).answer ∷ answers (run_as g (meaning i)).guidance is)) (sym (marks_next b g i is))
    ∙ ap (unmarked (InputMarks b g (i ∷ is))) (sym (answers_next g i is))

-- what is left of one list is one list
pub still_one : (ms : List Bool) (is : List Input) → OneList is → OneList (unmarked ms is)
unfolding unmarked OneList
still_one [] is n = n
still_one (x ∷ ms) [] n = n
still_one (x ∷ ms) (i ∷ is) n = go x (still_one ms is n.1)
  where
    go : (b : Bool) → OneList (unmarked ms is) → OneList (cond b (unmarked ms is) (i ∷ unmarked ms is))
    go true o = o
    go false o = (n.0, o)

-- parts of one list
pub one_before : (before rest : List Input) → OneList (before ++ rest) → OneList before
unfolding OneList
one_before [] rest n = tt
one_before (i ∷ before) rest n = (n.0, one_before before rest n.1)

pub one_after : (before rest : List Input) → OneList (before ++ rest) → OneList rest
unfolding OneList
one_after [] rest n = n
one_after (i ∷ before) rest n = one_after before rest n.1

pub one_rest : (i : Input) (rest : List Input) → OneList (i ∷ rest) → OneList rest
unfolding OneList
one_rest i rest n = n.1

pub calls_join : (before rest : List Input) → calls_of (before ++ rest) ≡ calls_of before ++ calls_of rest
unfolding calls_of
calls_join [] rest = refl
calls_join (i ∷ before) rest = ap (calls_by (meaning i)) (calls_join before rest) ∙ go (meaning i)
  where
    go : (m : Meaning) → calls_by m (calls_of before ++ calls_of rest) ≡ calls_by m (calls_of before) ++ calls_of rest
    go (a_call k next) = refl
    go (a_fresh c next) = refl
    go (refused_as n failing next) = refl

-- ---- a fresh guidance

-- a fresh guidance is made of a configuration that passes
abbrev Passes : Meaning → Type 0
Passes (a_call k next) = Unit {0}
Passes (a_fresh c next) = validate c ≡ 0
Passes (refused_as n failing next) = Unit {0}

new_passes : (c : PlaneGuidanceConfig) (next : ℕ) → Passes (new_of c next (created c))
unfolding created
new_passes c next = go (eqb (validate c) 0) refl
  where
    go : (b : Bool) → eqb (validate c) 0 ≡ b → Passes (new_of c next (cond b (Ok (fresh c)) (Err (record { field = validate c }))))
    go true e = eqb-true (validate c) 0 e
    go false e = tt

call_passes : (r : Result ReadCall Refusal) → Passes (call_meaning r)
call_passes (Err why) = tt
call_passes (Ok r) = tt

config_passes : (r : Result ReadConfig Refusal) → Passes (config_meaning r)
config_passes (Err why) = tt
config_passes (Ok r) = tt

made_passes : (r : Result ReadConfig Refusal) → Passes (new_meaning r)
made_passes (Err why) = tt
made_passes (Ok r) = new_passes r.config r.next

asked_passes : (i : Input) → Passes (asked i)
unfolding asked
asked_passes i = go (eqb i.what 0) (eqb i.what 1) (eqb i.what 2) (eqb i.what 3)
  where
    called : Meaning
    called = call_meaning (read_call i.bytes 0)

    read : Result ReadConfig Refusal
    read = read_config i.bytes 0

    go : (x y z b : Bool) →
        Passes (cond x called (cond y (config_meaning read) (cond z (new_meaning read) (cond b (a_call take_back 0) (refused_as 255 0 0)))))
    go true y z b = call_passes (read_call i.bytes 0)
    go false true z b = config_passes read
    go false false true b = made_passes read
    go false false false true = tt
    go false false false false = tt

pub passes : (i : Input) (c : PlaneGuidanceConfig) (next : ℕ) → meaning i ≡ a_fresh c next → validate c ≡ 0
unfolding meaning
passes i c next e = subst Passes e (go (may i.caller (deed_of i.what)))
  where
    go : (b : Bool) → Passes (cond b (asked i) (refused_as 13 0 0))
    go true = asked_passes i
    go false = tt

-- what follows a fresh guidance does not depend on what came before
pub fresh_next : (g : PlaneGuidance) (i : Input) (is : List Input) (c : PlaneGuidanceConfig) (next : ℕ) → meaning i ≡ a_fresh c next →
    answers g (i ∷ is) ≡ bare 0 0 next ∷ answers (fresh c) is
fresh_next g i is c next e = answers_next g i is ∙ ap (λ (m : Meaning). (run_as g m).answer ∷ answers (run_as g m).guidance is) e

pub answers_join : (g : PlaneGuidance) (before rest : List Input) → answers g (before ++ rest) ≡ answers g before ++ answers (left g before) rest
unfolding answers left
answers_join g [] rest = refl
answers_join g (i ∷ before) rest = ap (λ (l : List RunAnswer). (run_on g i).answer ∷ l) (answers_join (run_on g i).guidance before rest)

-- ---- refusals that no guidance decides

-- the guidance is kept, and the answer is the refusal's number
pub kept : (g : PlaneGuidance) (i : Input) (n failing next : ℕ) → meaning i ≡ refused_as n failing next → run_on g i ≡ unchanged g n failing next
kept g i n failing next e = run_is g i ∙ ap (run_as g) e
