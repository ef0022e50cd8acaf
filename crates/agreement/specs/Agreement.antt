-- Document 02, K13: two recordings held together. Definitions only.
use Rattle.std.specs.Prelude.{Bool, true, false, cond, ◌&&◌, List, [], ◌∷◌, ◌++◌, ℕ, ◌+◌, eqb, map, Some, None, Result, Ok, Err}
use Rattle.laws.specs.declared.config.PlaneGuidanceConfig.{PlaneGuidanceConfig}
use Rattle.guidance.specs.Plane.{fresh}
use Rattle.claims.specs.Calls.{marks, unmarked}
use Rattle.fields.specs.Numbers.{bits_of}
use Rattle.fields.specs.Fields.{bit_of}
use Rattle.config_numbers.specs.Numbers.{numbers_of}
use Rattle.records.specs.Call.{parts_of, values_of}
use Rattle.records.specs.declared.call.Call.{Call}
use Rattle.replay.specs.Recording.{Recorded, Recording, bad_config, recorded, recording}
use Rattle.compaction.specs.Compaction.{calls_of, compacted}
use Rattle.compaction.specs.declared.BadRecording.{BadRecording}
use Rattle.agreement.specs.declared.Agreement.{Agreement}
use Rattle.agreement.specs.declared.Refused.{Refused}
use Rattle.agreement.specs.declared.Side.{Side}
use Rattle.agreement.specs.declared.Side.TheVariants as side
use Rattle.agreement.specs.declared.Agreement.TheVariants as answer

-- ---- "Configuration and call values are held equal as bits, whatever map spelled them"; every NaN has the bits 7fc00000

unfoldable pub same_list : List ℕ → List ℕ → Bool
same_list [] [] = true
same_list [] (y ∷ ys) = false
same_list (x ∷ xs) [] = false
same_list (x ∷ xs) (y ∷ ys) = eqb x y && same_list xs ys

-- the bits of fields 1 to 33
unfoldable pub config_values : PlaneGuidanceConfig → List ℕ
config_values c = bits_of (numbers_of c)

-- kind, regime and the bits of the numbers, +0 for one that the kind doesn't use; then a 1 for each number of a leg, an airspeed
-- or a cap that is present
unfoldable pub call_values : Call → List ℕ
call_values k = values_of (parts_of k) ++ map bit_of (parts_of k).keeps

-- ---- "strike each by demand 3's rule"

-- a call, and its "original number"
pub record Numbered : Type 0 where
  pub number : ℕ
  pub call : Call

unfoldable pub numbered : ℕ → List Recorded → List Numbered
numbered n [] = []
numbered n (k ∷ ks) = record { number = n; call = k.call } ∷ numbered (n + 1) ks

-- the remaining calls of a recording that is read; the first call of the recording has number 1
abbrev pub remaining : Recording → List Numbered
remaining (bad_config r) = []
remaining (recorded c calls) = unmarked (marks (fresh c) (calls_of calls.calls)) (numbered 1 calls.calls)

abbrev pub settings : Recording → List ℕ
settings (bad_config r) = []
settings (recorded c calls) = config_values c

-- ---- "the first remaining call in each at which call values part"; "0 for a recording with no such call left"

unfoldable pub part_calls : List Numbered → List Numbered → Agreement
part_calls [] [] = answer.Agree
part_calls [] (y ∷ ys) = answer.Part None (Some y.number)
part_calls (x ∷ xs) [] = answer.Part (Some x.number) None
part_calls (x ∷ xs) (y ∷ ys) = cond (same_list (call_values x.call) (call_values y.call)) (part_calls xs ys) (answer.Part (Some x.number) (Some y.number))

-- "0 in both if the configurations part"
unfoldable pub parted : Recording → Recording → Agreement
parted r q = cond (same_list (settings r) (settings q)) (part_calls (remaining r) (remaining q)) answer.PartAtConfig

-- ---- "a recording that K7 would refuse gets that refusal"

abbrev pub or_refused : Side → Result ℕ BadRecording → Result Agreement Refused → Result Agreement Refused
or_refused whose (Ok n) otherwise = otherwise
or_refused whose (Err why) otherwise = Err (record { side = whose; why = why })

-- the box's and the display's; "the box's first"
unfoldable pub agreement : List ℕ → List ℕ → Result Agreement Refused
agreement s t =
    or_refused side.Box (compacted s (recording s))
    (or_refused side.Display (compacted t (recording t))
    (Ok (parted (recording s) (recording t))))
