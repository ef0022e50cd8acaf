-- Document 02, K7: "Compact a recording, the desk program's input, inside its buffer". Definitions only.
use Rattle.std.specs.Prelude.{cond, List, [], ◌∷◌, ◌++◌, ℕ, ◌+◌, ◌-◌, eqb, length, take, drop, replicate, Some, None, Result, Ok, Err}
use Rattle.refusals.specs.Numbers.{number}
use Rattle.laws.specs.Config.{validate}
use Rattle.laws.specs.declared.config.PlaneGuidanceConfig.{PlaneGuidanceConfig}
use Rattle.guidance.specs.Plane.{fresh}
use Rattle.claims.specs.Calls.{Call, marks, unmarked}
use Rattle.fields.specs.Bytes.{number_at}
use Rattle.fields.specs.Fields.{size_of}
use Rattle.records.specs.Config.{config_fields}
use Rattle.records.specs.Call.{call_fields}
use Rattle.calls.specs.Calls.{call_of}
use Rattle.lines.specs.declared.Line.{Line}
use Rattle.replay.specs.Recording.{Recorded, Ending, ends, stops, Recording, bad_config, recorded}
use Rattle.replay.specs.Text.{refused_line, stopped_line}
use Rattle.compaction.specs.declared.BadNumbers.{BadNumbers}
use Rattle.compaction.specs.declared.BadRecording.{BadRecording}
use Rattle.compaction.specs.declared.BadRecording.TheVariants as bad

-- ---- records as they were spelled: a map, and the bytes that it demands

unfoldable pub config_at : List ℕ → List ℕ
config_at s = take (5 + size_of config_fields (number_at 5 s)) s

unfoldable pub record_at : List ℕ → ℕ → List ℕ
record_at s at = take (4 + size_of call_fields (number_at 4 (drop at s))) (drop at s)

-- the records of calls, one after another
unfoldable pub records_at : List ℕ → List Recorded → List ℕ
records_at s [] = []
records_at s (k ∷ ks) = record_at s k.place ++ records_at s ks

-- ---- what stays

-- the calls on a guidance that the records carry
unfoldable pub calls_of : List Recorded → List Call
calls_of [] = []
calls_of (k ∷ ks) = call_of k.call ∷ calls_of ks

-- "drop exactly the calls that demand 3 allows to be struck"
unfoldable pub remaining : PlaneGuidanceConfig → List Recorded → List Recorded
remaining c ks = unmarked (marks (fresh c) (calls_of ks)) ks

-- "close the gaps"
unfoldable pub short : List ℕ → PlaneGuidanceConfig → List Recorded → List ℕ
short s c ks = config_at s ++ records_at s (remaining c ks)

-- "bytes past that length are zeros"
unfoldable pub padded : ℕ → List ℕ → List ℕ
padded n bs = bs ++ replicate (n - length bs) 0

-- ---- the answer and the buffer: a recording that the desk program would not read to its end is refused and kept

abbrev pub compacted_calls : List ℕ → PlaneGuidanceConfig → List Recorded → Ending → Result ℕ BadRecording
compacted_calls s c ks ends = Ok (length (short s c ks))
compacted_calls s c ks (stops why) = Err (bad.Call (1 + length ks) why)

unfoldable pub compacted : List ℕ → Recording → Result ℕ BadRecording
compacted s (bad_config why) = Err (bad.Config why)
compacted s (recorded c calls) =
    cond (eqb (validate c) 0) (compacted_calls s c calls.calls calls.ending) (Err (bad.InvalidConfig (record { field = validate c })))

abbrev pub bytes_of_calls : List ℕ → PlaneGuidanceConfig → List Recorded → Ending → List ℕ
bytes_of_calls s c ks ends = padded (length s) (short s c ks)
bytes_of_calls s c ks (stops why) = s

unfoldable pub bytes_after : List ℕ → Recording → List ℕ
bytes_after s (bad_config why) = s
bytes_after s (recorded c calls) = cond (eqb (validate c) 0) (bytes_of_calls s c calls.calls calls.ending) s

-- the desk program's line of a refusal
abbrev pub line_of : BadRecording → Line
line_of (bad.InvalidConfig invalid) = refused_line None invalid.field
line_of (bad.Config why) = stopped_line None (number why)
line_of (bad.Call n why) = stopped_line (Some n) (number why)

-- a refusal as numbers: 1 has the failing field's, a call's record its call's
abbrev pub numbers_of : BadRecording → BadNumbers
numbers_of (bad.InvalidConfig invalid) = record { refusal = 1; field = invalid.field; call = 0 }
numbers_of (bad.Config why) = record { refusal = number why; field = 0; call = 0 }
numbers_of (bad.Call n why) = record { refusal = number why; field = 0; call = n }

abbrev pub refusal_lines : Result ℕ BadRecording → List Line
refusal_lines (Ok n) = []
refusal_lines (Err b) = line_of b ∷ []
