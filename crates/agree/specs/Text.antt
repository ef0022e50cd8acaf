-- What the program agree writes of two recordings: a line. Definitions only.
use Rattle.std.specs.Prelude.{ℕ, List, ◌++◌, Option, None, Result, Ok, Err, take, unwrap_or, codes, decimal}
use Rattle.replay.specs.Sizes.{decisive}
use Rattle.lines.specs.Line.{text}
use Rattle.compaction.specs.Compaction.{line_of}
use Rattle.agreement.specs.Agreement.{agreement}
use Rattle.agreement.specs.declared.Agreement.{Agreement}
use Rattle.agreement.specs.declared.Agreement.TheVariants as answer
use Rattle.agreement.specs.declared.Refused.{Refused}
use Rattle.agreement.specs.declared.Side.{Side}
use Rattle.agreement.specs.declared.Side.TheVariants as side

-- a call's number, 0 where no call is left
abbrev pub number_text : Option ℕ → List ℕ
number_text call = decimal (unwrap_or call 0)

-- `part B D`
unfoldable pub part_text : Option ℕ → Option ℕ → List ℕ
part_text box_call display_call = codes "part " ++ (number_text box_call ++ (codes " " ++ (number_text display_call ++ codes "\n")))

-- `agree`, or `part` and the numbers of the calls, 0 in both where the configurations part
unfoldable pub answer_text : Agreement → List ℕ
answer_text answer.Agree = codes "agree\n"
answer_text answer.PartAtConfig = part_text None None
answer_text (answer.Part box_call display_call) = part_text box_call display_call

unfoldable pub side_text : Side → List ℕ
side_text side.Box = codes "box "
side_text side.Display = codes "display "

-- whose recording is refused, and the desk program's line of it
abbrev pub refused_text : Refused → List ℕ
refused_text r = side_text r.side ++ text (line_of r.why)

abbrev pub text_of : Result Agreement Refused → List ℕ
text_of (Ok a) = answer_text a
text_of (Err r) = refused_text r

-- of the bytes of the box that were read, and of all that the display has, of which as many decide
abbrev pub output_of : List ℕ → List ℕ → List ℕ
output_of ours theirs = text_of (agreement ours (take decisive theirs))
