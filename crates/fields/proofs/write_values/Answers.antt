-- `write_values` meets its contract: fields 0 to x-index are written. Assumes nothing.
use native.Mathlib.Omega.{arith}
use Rattle.fields.proofs.FieldLaw.{rest_back, write_none, write_room, write_part, write_turn, write_skips, write_done, write_place}
use Rattle.fields.proofs.write_values.Goals as goal

pub returns-then-map-eq0 : goal.returns-then-map-eq0
returns-then-map-eq0 c = write_none _ _ _ _ c.if-map-eq0.true

pub write_word-requires : goal.write_word-requires
write_word-requires c = write_part c.loop-x.invariant c.loop-x-test.true c.if-bit-eq1.true

pub loop-x-preserved : goal.loop-x-preserved
loop-x-preserved c =
    let f = c.loop-x.invariant in
    let t = c.loop-x-test.true in
    elim c.if-bit-eq1.branch [
      | goal.then-bit-eq1 w ↦
          let b = w.if-bit-eq1.true in
          rw (w.part-is, w.to-is, rest_back c.loop-x.part w.write_word.new.part c.loop-x.to (omega (arith, write_room f t b)))
          (write_turn f t b w.write_word.new.part w.write_word.ensures)
      | goal.else-bit-eq1 w ↦ rw (w.part-is, w.to-is) (write_skips f t w.if-bit-eq1.false)
    ]

pub returns : goal.returns
returns c = (write_done c.loop-x.invariant c.loop-x-test.false, write_place c.loop-x.invariant c.loop-x-test.false)
