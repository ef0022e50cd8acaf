-- The steps of `compaction`'s code. Definitions only.
use Rattle.std.specs.Prelude.{◌≡◌, Bool, true, false, not, List, ◌++◌, ℕ, ◌+◌, ◌≤◌, length, take, Result, Ok, Err}
use Rattle.refusals.specs.declared.Refusal.{Refusal}
use Rattle.laws.specs.declared.config.InvalidConfig.{InvalidConfig}
use Rattle.guidance.specs.Plane.{created}
use Rattle.guidance.specs.declared.plane.PlaneGuidance.{PlaneGuidance}
use Rattle.guidance.specs.declared.plane.Answer.{Answer}
use Rattle.guidance.specs.declared.plane.Answer.TheVariants as Answered
use Rattle.guidance.specs.declared.plane.VerticalLaw.{VerticalLaw}
use Rattle.guidance.specs.declared.plane.VerticalLaw.TheVariants.{Energy, Hold, Fallback}
use Rattle.claims.specs.Calls.{Reply, answered, done, field, back, marks, unmarked}
use Rattle.records.specs.Config.{read_config}
use Rattle.records.specs.declared.config.ReadConfig.{ReadConfig}
use Rattle.fields.specs.Bytes.{put_at}
use Rattle.replay.specs.Recording.{Calls, Ending, ends, stops, most_calls, read_calls}
use Rattle.compaction.specs.Compaction.{calls_of, records_at}
use Rattle.compaction.specs.declared.BadRecording.{BadRecording}
use Rattle.compaction.specs.declared.BadRecording.TheVariants as bad
use Rattle.compaction.specs.declared.Judged.{Judged}
use Rattle.compaction.specs.declared.Sound.{Sound}

-- ---- the first pass

-- what comes after the calls before number n
abbrev pub ended : ℕ → Ending → Result (Unit {0}) BadRecording
ended n ends = Ok tt
ended n (stops why) = Err (bad.Call n why)

-- the first call has number n
unfoldable pub scanned : ℕ → Calls → Result (Unit {0}) BadRecording
scanned n c = ended (n + length c.calls) c.ending

abbrev pub if_scanned : Sound → Result (Unit {0}) BadRecording → Result Sound BadRecording
if_scanned sound (Ok u) = Ok sound
if_scanned sound (Err b) = Err b

unfoldable pub decided_calls : List ℕ → PlaneGuidance → ℕ → Result Sound BadRecording
decided_calls s g next = if_scanned (record { guidance = g; next = next }) (scanned 1 (read_calls most_calls s next))

abbrev pub decided_new : List ℕ → ℕ → Result PlaneGuidance InvalidConfig → Result Sound BadRecording
decided_new s next (Err invalid) = Err (bad.InvalidConfig invalid)
decided_new s next (Ok g) = decided_calls s g next

abbrev pub decided_config : List ℕ → Result ReadConfig Refusal → Result Sound BadRecording
decided_config s (Err why) = Err (bad.Config why)
decided_config s (Ok r) = decided_new s r.next (created r.config)

unfoldable pub decided : List ℕ → Result Sound BadRecording
decided s = decided_config s (read_config s 0)

-- ---- the second pass: a call judged by its answer

abbrev pub judgement : Bool → Bool → Judged
judgement struck fell = record { struck = struck; fell = fell }

abbrev pub judged_law : Bool → VerticalLaw → Judged
judged_law before Energy = judgement false false
judged_law before Hold = judgement (not before) false
judged_law before Fallback = judgement false true

abbrev pub judged_answer : Bool → Result Answer Refusal → Judged
judged_answer before (Err why) = judgement true before
judged_answer before (Ok (Answered.Commanded s)) = judgement false false
judged_answer before (Ok (Answered.Waypoint a)) = judged_law before a.laws.vertical

abbrev pub judged : Bool → Reply → Judged
judged before (answered a) = judged_answer before a
judged before done = judgement false false
judged before (field f) = judgement false before
judged before (back n) = judgement false before

-- a record that is moved to a place
pub record Moved (to : ℕ) (bs before after : List ℕ) (r : ℕ) : Type 0 where
  pub bytes : after ≡ put_at before to bs
  pub place : r ≡ to + length bs

-- the records that stay stand behind the bytes before the first call
pub record Closed (from : ℕ) (g : PlaneGuidance) (before after : List ℕ) (r : ℕ) : Type 0 where
  pub long : length after ≡ length before
  pub within : r ≤ length after
  pub is :
      let ks = (read_calls most_calls before from).calls in
      take r after ≡ take from before ++ records_at before (unmarked (marks g (calls_of ks)) ks)
