-- A recording: "one configuration, then calls". What is read of its bytes. Definitions only.
use Rattle.std.specs.Prelude.{cond, List, [], ◌∷◌, ℕ, zero, suc, leb, length, Result, Ok, Err}
use Rattle.refusals.specs.declared.Refusal.{Refusal}
use Rattle.refusals.specs.declared.Refusal.TheVariants as refusal
use Rattle.laws.specs.declared.config.PlaneGuidanceConfig.{PlaneGuidanceConfig}
use Rattle.records.specs.Config.{read_config}
use Rattle.records.specs.Call.{read_call}
use Rattle.records.specs.declared.config.ReadConfig.{ReadConfig}
use Rattle.records.specs.declared.call.Call.{Call}
use Rattle.records.specs.declared.call.ReadCall.{ReadCall}

-- a call, and the place where its record begins
pub record Recorded : Type 0 where
  pub place : ℕ
  pub call : Call

-- the input ends between calls, or a refusal stops it
pub data Ending : Type 0 where
  ends : Ending
  stops : Refusal → Ending

pub record Calls : Type 0 where
  pub calls : List Recorded
  pub ending : Ending

abbrev pub no_calls : Ending → Calls
no_calls e = record { calls = []; ending = e }

abbrev pub with_call : Recorded → Calls → Calls
with_call k rest = record { calls = k ∷ rest.calls; ending = rest.ending }

-- a bad record stops the input; after a call come the calls from the place after its record
abbrev pub on_read : ℕ → Result ReadCall Refusal → (ℕ → Calls) → Calls
on_read place (Err why) after = no_calls (stops why)
on_read place (Ok r) after = with_call (record { place = place; call = r.call }) (after r.next)

-- "after call 4,096"
abbrev pub most_calls : ℕ
most_calls = 4096

-- the calls from a place on, of which n may still come; then number 9, "the desk program has input left"
unfoldable pub read_calls : ℕ → List ℕ → ℕ → Calls
read_calls zero s at = cond (leb (length s) at) (no_calls ends) (no_calls (stops refusal.TooManyCalls))
read_calls (suc n) s at = cond (leb (length s) at) (no_calls ends) (on_read at (read_call s at) (λ (next : ℕ). read_calls n s next))

-- a bad configuration record with its refusal, or a configuration and the calls after it
pub data Recording : Type 0 where
  bad_config : Refusal → Recording
  recorded : PlaneGuidanceConfig → Calls → Recording

abbrev pub on_config : List ℕ → Result ReadConfig Refusal → Recording
on_config s (Err why) = bad_config why
on_config s (Ok r) = recorded r.config (read_calls most_calls s r.next)

unfoldable pub recording : List ℕ → Recording
recording s = on_config s (read_config s 0)
