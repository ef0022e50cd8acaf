-- What is wanted of a compaction, for every buffer. Statements only; proofs/LawsProof proves them.
use Rattle.std.specs.Prelude.{◌≡◌, cond, List, [], ◌++◌, ℕ, ◌≤◌, eqb, length, Ok}
use Rattle.laws.specs.Config.{validate}
use Rattle.laws.specs.declared.config.PlaneGuidanceConfig.{PlaneGuidanceConfig}
use Rattle.guidance.specs.Plane.{fresh}
use Rattle.claims.specs.Calls.{replies, marks, unmarked}
use Rattle.lines.specs.declared.Line.{Line}
use Rattle.replay.specs.Recording.{Recorded, ends, Recording, bad_config, recorded, recording}
use Rattle.replay.specs.Text.{call_lines, recording_lines}
use Rattle.compaction.specs.Compaction.{calls_of, short, compacted, bytes_after, refusal_lines}

-- The short recording of one that the desk program reads to its end.
pub record Shortened (s : List ℕ) (c : PlaneGuidanceConfig) (ks : List Recorded) : Type 0 where
  pub no_longer : length (short s c ks) ≤ length s
  -- its calls, with the places that they have in it
  pub calls : List Recorded
  pub reads : recording (short s c ks) ≡ recorded c (record { calls = calls; ending = ends })
  -- are the calls that were not struck, in the same order
  pub remain : calls_of calls ≡ unmarked (marks (fresh c) (calls_of ks)) (calls_of ks)
  -- "replaying the short recording must give each remaining call the setpoint it had before, in the same order"
  pub answers : replies (fresh c) (calls_of calls) ≡ unmarked (marks (fresh c) (calls_of ks)) (replies (fresh c) (calls_of ks))
  -- "compacting it again must drop none"
  pub again : compacted (short s c ks) (recording (short s c ks)) ≡ Ok (length (short s c ks))
  pub unchanged : bytes_after (short s c ks) (recording (short s c ks)) ≡ short s c ks

-- the lines of the calls that the desk program carries out
abbrev pub answer_lines : Recording → List Line
answer_lines (bad_config why) = []
answer_lines (recorded c calls) = cond (eqb (validate c) 0) (call_lines 1 (fresh c) calls.calls) []

pub record Laws (s : List ℕ) : Type 0 where
  pub shortened : (c : PlaneGuidanceConfig) (ks : List Recorded) → validate c ≡ 0 → recording s ≡ recorded c (record { calls = ks; ending = ends }) → Shortened s c ks
  -- a refusal is "the first that the desk program would meet": its text's last line
  pub refusal : recording_lines (recording s) ≡ answer_lines (recording s) ++ refusal_lines (compacted s (recording s))
  -- and keeps every byte
  pub kept : ((n : ℕ) → compacted s (recording s) ≡ Ok n → ⊥) → bytes_after s (recording s) ≡ s
