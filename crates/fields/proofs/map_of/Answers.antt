-- `map_of` meets its contract: m is the map of fields i and up. Assumes nothing.
use Rattle.fields.proofs.FieldLaw.{map_starts, map_turn, map_done}
use Rattle.fields.proofs.map_of.Goals as goal

pub loop-i-init : goal.loop-i-init
loop-i-init c = map_starts _ _ _

pub loop-i-preserved : goal.loop-i-preserved
loop-i-preserved c =
    map_turn c.loop-i.invariant
    c.requires.0
    c.requires.1 c.loop-i-test.true
    c.is_written.result c.is_written.ensures.0

pub returns : goal.returns
returns c =
    let p = c.requires in
    map_done c.loop-i.invariant p.0 p.1 p.2 c.loop-i-test.false
