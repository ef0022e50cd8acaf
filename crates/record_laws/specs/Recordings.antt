-- A whole recording as the writer spells it, and what is read of it. Statements only; proofs/RecordingBack.antt proves them.
use Rattle.std.specs.Prelude.{◌≡◌, List, [], ◌∷◌, ◌++◌, ℕ, ◌+◌, ◌≤◌, length}
use Rattle.laws.specs.declared.config.PlaneGuidanceConfig.{PlaneGuidanceConfig}
use Rattle.records.specs.declared.call.Call.{Call}
use Rattle.records.specs.Config.{config_record}
use Rattle.records.specs.Call.{call_record}
use Rattle.replay.specs.Recording.{Recorded, ends, recorded, recording}
use Rattle.record_laws.specs.Laws.{ConfigF32, CallF32}

-- calls' records, one behind the other
unfoldable pub call_records : List Call → List ℕ
call_records [] = []
call_records (k ∷ ks) = call_record k ++ call_records ks

-- a configuration's record followed by calls' records
unfoldable pub recording_of : PlaneGuidanceConfig → List Call → List ℕ
recording_of c ks = config_record c ++ call_records ks

-- f32s hold the numbers of each call
unfoldable pub CallsF32 : List Call → Type 0
CallsF32 [] = Unit {0}
CallsF32 (k ∷ ks) = CallF32 k × CallsF32 ks

-- the calls, each with the place where its record begins
unfoldable pub placed : ℕ → List Call → List Recorded
placed at [] = []
placed at (k ∷ ks) = record { place = at; call = k } ∷ placed (at + length (call_record k)) ks

-- reading a recording that was written gives its configuration and its calls, in order, and nothing is left
abbrev pub RecordingLaw : Type 0
RecordingLaw =
    (c : PlaneGuidanceConfig) (ks : List Call) → ConfigF32 c → CallsF32 ks → length ks ≤ 4096
    → recording (recording_of c ks) ≡ recorded c (record { calls = placed (length (config_record c)) ks; ending = ends })
