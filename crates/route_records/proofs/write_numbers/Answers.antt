-- `write_numbers` meets its contract: numbers 0 to x-index are written. Assumes nothing.
use native.Mathlib.Omega.{arith}
use Rattle.fields.proofs.FieldLaw.{rest_back}
use Rattle.route_records.proofs.NumbersLaw.{write_room, write_turn, write_done}
use Rattle.route_records.proofs.write_numbers.Goals as goal

pub loop-x-preserved : goal.loop-x-preserved
loop-x-preserved c =
    let w = c.loop-x.invariant in
    let h = c.loop-x-test.true in
    rw (rest_back c.loop-x.part c.write_word.new.part c.loop-x.at (omega (arith, write_room w h)))
    (write_turn w h _ c.to_bits.ensures c.write_word.new.part c.write_word.ensures)

pub returns : goal.returns
returns c = write_done c.loop-x.invariant c.loop-x-test.false
