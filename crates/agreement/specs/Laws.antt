-- What is wanted of an agreement, for every two byte strings. Statements only; proofs/LawsProof proves them.
use Rattle.std.specs.Prelude.{◌≡◌, List, ℕ, take, Ok}
use Rattle.laws.specs.declared.config.PlaneGuidanceConfig.{PlaneGuidanceConfig}
use Rattle.guidance.specs.Plane.{fresh}
use Rattle.claims.specs.Calls.{replies, marks, unmarked}
use Rattle.replay.specs.Recording.{Recorded, ends, recorded, recording}
use Rattle.compaction.specs.Compaction.{calls_of, compacted, bytes_after}
use Rattle.agreement.specs.Agreement.{agreement}
use Rattle.agreement.specs.declared.Agreement.TheVariants as answer

abbrev pub Agree : List ℕ → List ℕ → Type 0
Agree s t = agreement s t ≡ Ok answer.Agree

-- a recording that K7 would not refuse
abbrev pub Read : List ℕ → Type 0
Read s = (n : ℕ) × (compacted s (recording s) ≡ Ok n)

-- Two recordings that agree: one configuration, and the calls of each.
pub record OneStory (s t : List ℕ) : Type 0 where
  pub config : PlaneGuidanceConfig
  pub box_calls : List Recorded
  pub display_calls : List Recorded
  pub box_reads : recording s ≡ recorded config (record { calls = box_calls; ending = ends })
  pub display_reads : recording t ≡ recorded config (record { calls = display_calls; ending = ends })
  -- the remaining calls are the same
  pub calls :
      unmarked (marks (fresh config) (calls_of box_calls)) (calls_of box_calls)
      ≡ unmarked (marks (fresh config) (calls_of display_calls)) (calls_of display_calls)
  -- "the remaining calls have equal setpoints in both replays": whole answers, in the replays of the recordings as they are
  pub answers :
      unmarked (marks (fresh config) (calls_of box_calls)) (replies (fresh config) (calls_of box_calls))
      ≡ unmarked (marks (fresh config) (calls_of display_calls)) (replies (fresh config) (calls_of display_calls))

pub record Laws : Type 0 where
  pub one_story : (s t : List ℕ) → Agree s t → OneStory s t
  -- recordings that agree are not refused, and among those that are not, agreement is an equivalence
  pub both_read : (s t : List ℕ) → Agree s t → Read s × Read t
  pub reflexive : (s : List ℕ) → Read s → Agree s s
  pub symmetric : (s t : List ℕ) → Agree s t → Agree t s
  pub transitive : (s t u : List ℕ) → Agree s t → Agree t u → Agree s u
  -- a recording agrees with its compacted self: the bytes that compaction leaves, up to the length that it gives
  pub compacted_self : (s : List ℕ) (n : ℕ) → compacted s (recording s) ≡ Ok n → Agree s (take n (bytes_after s (recording s)))
