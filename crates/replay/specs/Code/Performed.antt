-- What the helpers of `replay` give, over the definitions of the text. Definitions only.
use Rattle.std.specs.Prelude.{ℕ}
use Rattle.claims.specs.Calls.{perform}
use Rattle.guidance.specs.declared.plane.PlaneGuidance.{PlaneGuidance}
use Rattle.records.specs.declared.call.Call.{Call}
use Rattle.calls.specs.Calls.{call_of}
use Rattle.replay.specs.Text.{reply_line}
use Rattle.replay.specs.declared.turn.CallLine.{CallLine}

-- a call's line, and the guidance after it
unfoldable pub call_line : ℕ → PlaneGuidance → Call → CallLine
call_line n g k =
    let o = perform g (call_of k) in
    record { line = reply_line n o.reply; guidance = o.next }
