-- The steps of `agreement`'s code. Definitions only.
use Rattle.std.specs.Prelude.{Bool, false, cond, List, ℕ, ◌+◌, ◌-◌, Result, Ok, Err}
use Rattle.guidance.specs.declared.plane.PlaneGuidance.{PlaneGuidance}
use Rattle.claims.specs.Calls.{replies, refusals, strikes, unmarked}
use Rattle.replay.specs.Recording.{most_calls, read_calls}
use Rattle.compaction.specs.Compaction.{calls_of}
use Rattle.compaction.specs.declared.BadRecording.{BadRecording}
use Rattle.compaction.specs.declared.Sound.{Sound}
use Rattle.agreement.specs.Agreement.{Numbered, numbered, same_list, config_values, part_calls}
use Rattle.agreement.specs.declared.Agreement.{Agreement}
use Rattle.agreement.specs.declared.Agreement.TheVariants as answer
use Rattle.agreement.specs.declared.Refused.{Refused}
use Rattle.agreement.specs.declared.Side.{Side}
use Rattle.agreement.specs.declared.NumberedCall.{NumberedCall}
use Rattle.agreement.specs.declared.RemainingCalls.{RemainingCalls}

-- the calls that stay of a recording's, from a place on, where the next has number n
unfoldable pub calls_from : List ℕ → PlaneGuidance → ℕ → Bool → ℕ → List Numbered
calls_from s g at fell n =
    let ks = (read_calls (most_calls + 1 - n) s at).calls in
    unmarked (strikes fell (calls_of ks) (refusals (replies g (calls_of ks)))) (numbered n ks)

abbrev pub calls_left : RemainingCalls → List Numbered
calls_left c = calls_from c.recording.now c.guidance c.at c.fell c.number

abbrev pub calls_of_sound : List ℕ → Sound → List Numbered
calls_of_sound s d = calls_from s d.guidance d.next false 1

abbrev pub numbered_as : NumberedCall → Numbered
numbered_as k = record { number = k.number; call = k.call }

unfoldable pub parted : List ℕ → Sound → List ℕ → Sound → Agreement
parted s d t e =
    cond (same_list (config_values d.guidance.config) (config_values e.guidance.config)) (part_calls (calls_of_sound s d) (calls_of_sound t e)) answer.PartAtConfig

abbrev pub decided_for : Side → Result Sound BadRecording → Result Sound Refused
decided_for side (Ok d) = Ok d
decided_for side (Err why) = Err (record { side = side; why = why })
