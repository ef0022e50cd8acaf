use Rattle.std.proofs.Common.{◌≡◌, Ok, rules, sym, ◌∙◌}
use Rattle.records.specs.Call.{read_call}
use Rattle.compaction.proofs.Closing.{close_starts, close_done, close_asks, close_less, close_strikes, close_keeps}
use Rattle.compaction.proofs.close_gaps.Goals as goal
use Rattle.compaction.proofs.close_gaps.Goals.{then-not-judged, else-not-judged}

pub loop-read-init : goal.loop-read-init
loop-read-init c = close_starts _ _ _ c.requires.0 c.requires.1

pub keep-to-requires : goal.keep-to-requires
keep-to-requires c = close_asks c.loop-read.invariant _ (sym c.read_call.ensures ∙ c.in-Ok.is)

pub loop-read-smaller : goal.loop-read-smaller
loop-read-smaller c = close_less c.loop-read.invariant _ (sym c.read_call.ensures ∙ c.in-Ok.is)

pub loop-read-preserved : goal.loop-read-preserved
loop-read-preserved c =
    let read : read_call c.loop-read.s c.loop-read.at ≡ Ok c.in-Ok.read = sym c.read_call.ensures ∙ c.in-Ok.is in
    elim c.if-not-judged.branch [
      | then-not-judged w ↦
          rw (w.s-is, w.to-is)
          (close_keeps c.loop-read.invariant _ read _ c.perform-done.ensures _ c.judge-judged.ensures _ _ (search rules) w.keep-to.ensures)
      | else-not-judged w ↦
          rw (w.s-is, w.to-is) (close_strikes c.loop-read.invariant _ read _ c.perform-done.ensures _ c.judge-judged.ensures (search rules))
    ]

pub returns : goal.returns
returns c = close_done c.loop-read.invariant _ (sym c.read_call.ensures ∙ c.in_default.is)
