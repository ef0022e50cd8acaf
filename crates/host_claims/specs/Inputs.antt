-- What a host hands to `nuthkolla_run`, one after the other, on one guidance. Definitions only.
use Rattle.std.specs.Prelude.{ℕ, Bool, true, false, cond, not, List, [], ◌∷◌, eqb, Result, Ok, Err}
use Rattle.refusals.specs.Numbers.{number}
use Rattle.refusals.specs.declared.Refusal.{Refusal}
use Rattle.refusals.specs.declared.Refusal.TheVariants as why
use Rattle.laws.specs.declared.config.InvalidConfig.{InvalidConfig}
use Rattle.laws.specs.declared.config.PlaneGuidanceConfig.{PlaneGuidanceConfig}
use Rattle.guidance.specs.Plane.{created}
use Rattle.guidance.specs.declared.plane.PlaneGuidance.{PlaneGuidance}
use Rattle.claims.specs.Calls.{Call, set_config, take_back, Reply, struck, fell_back}
use Rattle.records.specs.Call.{read_call}
use Rattle.records.specs.Config.{read_config}
use Rattle.records.specs.declared.call.ReadCall.{ReadCall}
use Rattle.records.specs.declared.config.ReadConfig.{ReadConfig}
use Rattle.calls.specs.Calls.{call_of}
use Rattle.host_answers.specs.Answer.{bare, of_reply}
use Rattle.rights.specs.Rights.{may}
use Rattle.host.specs.Run.{deed_of, run_by}
use Rattle.host_answers.specs.declared.answer.RunAnswer.{RunAnswer}
use Rattle.host.specs.declared.run.Ran.{Ran}

-- the caller, the number of what is wanted, and a record's bytes
pub record Input : Type 0 where
  pub caller : ℕ
  pub what : ℕ
  pub bytes : List ℕ

-- ---- what an input is, by its caller and its own bytes

-- one of demand 3's calls; a fresh guidance; or a refusal that no guidance decides: a caller without the right (13), a record that
-- cannot be read (5, 6, 7), a fresh guidance of a configuration that fails (1 with its field), an unknown number (255)
pub data Meaning : Type 0 where
  a_call : Call → ℕ → Meaning
  a_fresh : PlaneGuidanceConfig → ℕ → Meaning
  refused_as : ℕ → ℕ → ℕ → Meaning

abbrev pub call_meaning : Result ReadCall Refusal → Meaning
call_meaning (Err why) = refused_as (number why) 0 0
call_meaning (Ok r) = a_call (call_of r.call) r.next

abbrev pub config_meaning : Result ReadConfig Refusal → Meaning
config_meaning (Err why) = refused_as (number why) 0 0
config_meaning (Ok r) = a_call (set_config r.config) r.next

abbrev pub new_of : PlaneGuidanceConfig → ℕ → Result PlaneGuidance InvalidConfig → Meaning
new_of c next (Err invalid) = refused_as 1 invalid.field next
new_of c next (Ok g) = a_fresh c next

abbrev pub new_meaning : Result ReadConfig Refusal → Meaning
new_meaning (Err why) = refused_as (number why) 0 0
new_meaning (Ok r) = new_of r.config r.next (created r.config)

-- of a caller who has the right
unfoldable pub asked : Input → Meaning
asked i =
    cond (eqb i.what 0) (call_meaning (read_call i.bytes 0))
    (cond (eqb i.what 1) (config_meaning (read_config i.bytes 0))
    (cond (eqb i.what 2) (new_meaning (read_config i.bytes 0))
    (cond (eqb i.what 3) (a_call take_back 0)
    (refused_as (number why.UnknownRequest) 0 0))))

unfoldable pub meaning : Input → Meaning
meaning i = cond (may i.caller (deed_of i.what)) (asked i) (refused_as (number why.NoRight) 0 0)

-- ---- a run: each input gets the guidance that the one before it left

abbrev pub run_on : PlaneGuidance → Input → Ran
run_on g i = run_by g i.caller i.what i.bytes

unfoldable pub answers : PlaneGuidance → List Input → List RunAnswer
answers g [] = []
answers g (i ∷ is) = (run_on g i).answer ∷ answers (run_on g i).guidance is

unfoldable pub left : PlaneGuidance → List Input → PlaneGuidance
left g [] = g
left g (i ∷ is) = left (run_on g i).guidance is

-- ---- inputs as demand 3's list

abbrev pub calls_by : Meaning → List Call → List Call
calls_by (a_call k next) ks = k ∷ ks
calls_by (a_fresh c next) ks = ks
calls_by (refused_as n failing next) ks = ks

-- the calls that are read
unfoldable pub calls_of : List Input → List Call
calls_of [] = []
calls_of (i ∷ is) = calls_by (meaning i) (calls_of is)

-- no fresh guidance is made: that would start a list of its own
abbrev pub NoFresh : Meaning → Type 0
NoFresh (a_call k next) = Unit {0}
NoFresh (a_fresh c next) = ⊥
NoFresh (refused_as n failing next) = Unit {0}

unfoldable pub OneList : List Input → Type 0
OneList [] = Unit {0}
OneList (i ∷ is) = NoFresh (meaning i) × OneList is

-- ---- striking, by what the host sees: the input and its answer

abbrev pub refused : RunAnswer → Bool
refused a = not (eqb a.refusal 0)

-- every refused input, and every hold unless the last accepted guide or prime call before it was a fallback
abbrev pub struck_by : Bool → Meaning → RunAnswer → Bool
struck_by before (a_call k next) a = struck before k (refused a)
struck_by before (a_fresh c next) a = false
struck_by before (refused_as n failing next) a = true

abbrev pub fell_back_by : Bool → Meaning → RunAnswer → Bool
fell_back_by before (a_call k next) a = fell_back before k (refused a)
fell_back_by before (a_fresh c next) a = false
fell_back_by before (refused_as n failing next) a = before

unfoldable pub strikes_by : Bool → List Input → List RunAnswer → List Bool
strikes_by before [] rs = []
strikes_by before (i ∷ is) [] = []
strikes_by before (i ∷ is) (a ∷ rest) = struck_by before (meaning i) a ∷ strikes_by (fell_back_by before (meaning i) a) is rest

-- the marks of a run from a fresh guidance, read off the list as first run
abbrev pub input_marks : PlaneGuidance → List Input → List Bool
input_marks g is = strikes_by false is (answers g is)

-- ---- answers from replies

-- the answer to an input from the replies to the calls from it on
abbrev pub told_by : Meaning → List Reply → (List Reply → List RunAnswer) → List RunAnswer
told_by (a_call k next) [] rest = []
told_by (a_call k next) (r ∷ rs) rest = of_reply r next ∷ rest rs
told_by (a_fresh c next) rs rest = bare 0 0 next ∷ rest rs
told_by (refused_as n failing next) rs rest = bare n failing next ∷ rest rs

-- the answers to a list of inputs from the replies to its calls
unfoldable pub told : List Input → List Reply → List RunAnswer
told [] rs = []
told (i ∷ is) rs = told_by (meaning i) rs (λ rest. told is rest)
