-- The calls on a guidance that a host holds, by the number of what is wanted and a record's bytes. Definitions only.
use Rattle.std.specs.Prelude.{ℕ, Bool, cond, List, eqb, Result, Ok, Err}
use Rattle.guidance.specs.Plane.{created}
use Rattle.claims.specs.Calls.{Call, set_config, take_back, perform}
use Rattle.guidance.specs.declared.plane.PlaneGuidance.{PlaneGuidance}
use Rattle.laws.specs.declared.config.InvalidConfig.{InvalidConfig}
use Rattle.refusals.specs.Numbers.{number}
use Rattle.refusals.specs.declared.Refusal.{Refusal}
use Rattle.refusals.specs.declared.Refusal.TheVariants as why
use Rattle.records.specs.Call.{read_call}
use Rattle.records.specs.Config.{read_config}
use Rattle.records.specs.declared.call.ReadCall.{ReadCall}
use Rattle.records.specs.declared.config.ReadConfig.{ReadConfig}
use Rattle.calls.specs.Calls.{call_of}
use Rattle.host_answers.specs.Answer.{bare, of_reply}
use Rattle.rights.specs.Rights.{may}
use Rattle.rights.specs.declared.Deed.{Deed}
use Rattle.rights.specs.declared.Deed.TheVariants as deed
use Rattle.host.specs.declared.run.Ran.{Ran}

-- a refusal, or another call that leaves the guidance as it was
abbrev pub unchanged : PlaneGuidance → ℕ → ℕ → ℕ → Ran
unchanged g refusal failing next = record { guidance = g; answer = bare refusal failing next }

-- a refusal, with its number
abbrev pub refused : PlaneGuidance → Refusal → Ran
refused g why = unchanged g (number why) 0 0

-- one of demand 3's calls
unfoldable pub performed : PlaneGuidance → Call → ℕ → Ran
performed g k next = record { guidance = (perform g k).next; answer = of_reply (perform g k).reply next }

-- what 0: a call record, read at place 0
abbrev pub of_call : PlaneGuidance → Result ReadCall Refusal → Ran
of_call g (Err why) = refused g why
of_call g (Ok r) = performed g (call_of r.call) r.next

unfoldable pub run_call : PlaneGuidance → List ℕ → Ran
run_call g bytes = of_call g (read_call bytes 0)

-- what 1: a configuration record, set
abbrev pub of_config : PlaneGuidance → Result ReadConfig Refusal → Ran
of_config g (Err why) = refused g why
of_config g (Ok r) = performed g (set_config r.config) r.next

unfoldable pub run_config : PlaneGuidance → List ℕ → Ran
run_config g bytes = of_config g (read_config bytes 0)

-- what 2: what `new` makes of a configuration record; number 1 keeps the guidance that was there
abbrev pub made : PlaneGuidance → Result PlaneGuidance InvalidConfig → ℕ → Ran
made g (Err invalid) next = unchanged g 1 invalid.field next
made g (Ok fresh) next = record { guidance = fresh; answer = bare 0 0 next }

abbrev pub of_new : PlaneGuidance → Result ReadConfig Refusal → Ran
of_new g (Err why) = refused g why
of_new g (Ok r) = made g (created r.config) r.next

unfoldable pub run_new : PlaneGuidance → List ℕ → Ran
run_new g bytes = of_new g (read_config bytes 0)

-- what 3: a change taken back, of which no byte is read
unfoldable pub run_back : PlaneGuidance → Ran
run_back g = performed g take_back 0

-- any other number is refused with 255, which is none of document 01's numbers
unfoldable pub run : PlaneGuidance → ℕ → List ℕ → Ran
run g what bytes =
    cond (eqb what 0) (run_call g bytes)
    (cond (eqb what 1) (run_config g bytes)
    (cond (eqb what 2) (run_new g bytes)
    (cond (eqb what 3) (run_back g)
    (refused g why.UnknownRequest))))

-- ---- by a caller

-- the row of the table of rights: a call record is a guide or a prime, whose rows are alike
unfoldable pub deed_of : ℕ → Deed
deed_of what =
    cond (eqb what 0) deed.Guide
    (cond (eqb what 1) deed.SetConfig
    (cond (eqb what 2) deed.New
    (cond (eqb what 3) deed.TakeBack
    deed.Other)))

abbrev pub may_run : ℕ → ℕ → Bool
may_run caller what = may caller (deed_of what)

-- "13: the caller lacks the right, before every other check", of the record's bytes too
unfoldable pub run_by : PlaneGuidance → ℕ → ℕ → List ℕ → Ran
run_by g caller what bytes = cond (may_run caller what) (run g what bytes) (refused g why.NoRight)
