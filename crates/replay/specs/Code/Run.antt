-- What the helpers of `replay` go over: the lines that are left. Definitions only.
use Rattle.std.specs.Prelude.{cond, List, [], ◌∷◌, ◌+◌, ◌-◌, ltb, Result, Ok, Err}
use Rattle.refusals.specs.declared.Refusal.{Refusal}
use Rattle.refusals.specs.declared.Refusal.TheVariants as refusal
use Rattle.records.specs.Call.{read_call}
use Rattle.records.specs.declared.call.ReadCall.{ReadCall}
use Rattle.lines.specs.declared.Line.{Line}
use Rattle.replay.specs.Recording.{most_calls, read_calls}
use Rattle.replay.specs.Text.{run_lines}
use Rattle.replay.specs.declared.run.CallLines.{CallLines}

-- the next call, or why there is none
unfoldable pub next_read : CallLines → Result ReadCall Refusal
next_read c = cond (ltb most_calls c.number) (Err refusal.TooManyCalls) (read_call c.recording.now c.at)

-- the lines of the calls that are left
unfoldable pub lines_left : CallLines → List Line
lines_left c = run_lines c.number c.guidance (read_calls (most_calls + 1 - c.number) c.recording.now c.at)

-- the lines of a recording that was started: those of its calls, or the one of a configuration that is refused
abbrev pub started : Result CallLines Line → List Line
started (Ok c) = lines_left c
started (Err l) = l ∷ []
