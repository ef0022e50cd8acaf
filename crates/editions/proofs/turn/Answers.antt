use Rattle.std.proofs.Common.{arith, sym, ◌∙◌}
use Rattle.editions.proofs.Loops.{turn_room, turn_turn, turn_skips, turn_done}
use Rattle.editions.proofs.turn.Goals as goal
use Rattle.editions.proofs.turn.Goals.{then-stands, else-stands}

pub turn_field-at-requires : goal.turn_field-at-requires
turn_field-at-requires c =
    (c.loop-n-test.true, turn_room c.loop-n.invariant c.loop-n-test.true (sym c.stands.ensures ∙ c.if-stands.true))

pub loop-n-preserved : goal.loop-n-preserved
loop-n-preserved c =
    elim c.if-stands.branch [
      | then-stands w ↦
          let e = w.turn_field-at.ensures in
          rw (w.part-is, w.at-is) (turn_turn c.loop-n.invariant c.loop-n-test.true (sym c.stands.ensures ∙ w.if-stands.true) _ e.0 _ e.1)
      | else-stands w ↦ rw (w.part-is, w.at-is) (turn_skips c.loop-n.invariant c.loop-n-test.true (sym c.stands.ensures ∙ w.if-stands.false))
    ]

pub returns : goal.returns
returns c = turn_done c.loop-n.invariant (omega arith)
