-- The text of a recording: "it prints a line a call". Definitions only.
use Rattle.std.specs.Prelude.{cond, List, [], ◌∷◌, ◌++◌, ℕ, ◌+◌, eqb, length, Float, Option, Some, None, Result, Ok, Err}
use Rattle.std.specs.Float.{binary32}
use Rattle.std.specs.Float.Ieee.{to_bits}
use Rattle.refusals.specs.Numbers.{number}
use Rattle.refusals.specs.declared.Refusal.{Refusal}
use Rattle.laws.specs.Config.{validate}
use Rattle.laws.specs.declared.types.Setpoint.{Setpoint}
use Rattle.laws.specs.declared.types.Setpoint.TheVariants as Set
use Rattle.guidance.specs.Plane.{fresh}
use Rattle.claims.specs.Calls as guidance
use Rattle.claims.specs.Calls.{Reply, perform}
use Rattle.guidance.specs.declared.plane.PlaneGuidance.{PlaneGuidance}
use Rattle.guidance.specs.declared.plane.LateralLaw.{LateralLaw}
use Rattle.guidance.specs.declared.plane.LateralLaw.TheVariants as Lateral
use Rattle.guidance.specs.declared.plane.VerticalLaw.{VerticalLaw}
use Rattle.guidance.specs.declared.plane.VerticalLaw.TheVariants as Vertical
use Rattle.guidance.specs.declared.plane.Answer.{Answer}
use Rattle.guidance.specs.declared.plane.Answer.TheVariants as Answered
use Rattle.calls.specs.Calls.{call_of}
use Rattle.lines.specs.declared.Line.{Line}
use Rattle.lines.specs.declared.Values.{Values}
use Rattle.lines.specs.declared.Values.TheVariants as values
use Rattle.lines.specs.declared.Word.{Word}
use Rattle.lines.specs.declared.Word.TheVariants as word
use Rattle.lines.specs.Line.{text}
use Rattle.replay.specs.Recording.{Recorded, Calls, Ending, ends, stops, Recording, bad_config, recorded, recording}

-- ---- the forms of a line; a line of no call is the configuration's

abbrev pub number_line : Option ℕ → Word → Option ℕ → Line
number_line call w r = record { call = call; first = Some w; second = None; refusal = r; values = values.None }

-- `n refused R`, `config refused F`
abbrev pub refused_line : Option ℕ → ℕ → Line
refused_line call r = number_line call word.Refused (Some r)

-- `n stopped R`, `config stopped R`
abbrev pub stopped_line : Option ℕ → ℕ → Line
stopped_line call r = number_line call word.Stopped (Some r)

-- the call that a number names; 0 is the configuration
unfoldable pub called : ℕ → Option ℕ
called n = cond (eqb n 0) None (Some n)

-- `n prime`
abbrev pub prime_line : ℕ → Line
prime_line n = number_line (called n) word.Prime None

-- a number's bits; nan's are 7fc00000
abbrev pub bits : Float → ℕ
bits x = to_bits binary32 x

-- A setpoint's numbers. A waypoint has the distance off the line behind them (document 02, K6); no waypoint answers a rate setpoint.
unfoldable pub setpoint_values : Setpoint → Option Float → Values
setpoint_values (Set.Plane roll pitch thrust) None = values.Three (bits roll ∷ bits pitch ∷ bits thrust ∷ [])
setpoint_values (Set.Plane roll pitch thrust) (Some off) = values.Four (bits roll ∷ bits pitch ∷ bits thrust ∷ bits off ∷ [])
setpoint_values (Set.PlaneRate roll pitch yaw thrust) off = values.Four (bits roll ∷ bits pitch ∷ bits yaw ∷ bits thrust ∷ [])

-- one word or two, and a setpoint's numbers
abbrev pub setpoint_line : ℕ → Word → Option Word → Values → Line
setpoint_line n a b vs = record { call = called n; first = Some a; second = b; refusal = None; values = vs }

abbrev pub kind_word : Setpoint → Word
kind_word (Set.Plane roll pitch thrust) = word.Plane
kind_word (Set.PlaneRate roll pitch yaw thrust) = word.Rate

abbrev pub lateral_word : LateralLaw → Word
lateral_word Lateral.Track = word.Track
lateral_word Lateral.Loiter = word.Loiter
lateral_word Lateral.Idle = word.Idle

abbrev pub vertical_word : VerticalLaw → Word
vertical_word Vertical.Energy = word.Energy
vertical_word Vertical.Hold = word.Hold
vertical_word Vertical.Fallback = word.Fallback

-- "law names or setpoint kind"
unfoldable pub answer_line : ℕ → Result Answer Refusal → Line
answer_line n (Err why) = refused_line (called n) (number why)
answer_line n (Ok (Answered.Commanded s)) = setpoint_line n (kind_word s) None (setpoint_values s None)
answer_line n (Ok (Answered.Waypoint a)) =
    setpoint_line n (lateral_word a.laws.lateral) (Some (vertical_word a.laws.vertical)) (setpoint_values a.setpoint (Some a.cross_track_m))

-- no record of a recording's calls sets a configuration or takes one back, so no reply is a field or 14
unfoldable pub reply_line : ℕ → Reply → Line
reply_line n (guidance.answered a) = answer_line n a
reply_line n guidance.done = prime_line n
reply_line n (guidance.field f) = refused_line (called n) f
reply_line n (guidance.back r) = refused_line (called n) r

-- ---- the lines of a list of calls

-- the first call has number n; each call gets the guidance that the one before it left
unfoldable pub call_lines : ℕ → PlaneGuidance → List Recorded → List Line
call_lines n g [] = []
call_lines n g (k ∷ ks) =
    let o = perform g (call_of k.call) in
    reply_line n o.reply ∷ call_lines (n + 1) o.next ks

abbrev pub ending_lines : ℕ → Ending → List Line
ending_lines n ends = []
ending_lines n (stops why) = stopped_line (Some n) (number why) ∷ []

unfoldable pub run_lines : ℕ → PlaneGuidance → Calls → List Line
run_lines n g c = call_lines n g c.calls ++ ending_lines (n + length c.calls) c.ending

-- ---- the text of a recording

unfoldable pub recording_lines : Recording → List Line
recording_lines (bad_config why) = stopped_line None (number why) ∷ []
recording_lines (recorded c calls) = cond (eqb (validate c) 0) (run_lines 1 (fresh c) calls) (refused_line None (validate c) ∷ [])

unfoldable pub lines_text : List Line → List ℕ
lines_text [] = []
lines_text (l ∷ ls) = text l ++ lines_text ls

unfoldable pub recording_text : List ℕ → List ℕ
recording_text s = lines_text (recording_lines (recording s))
