use mathlib.Core.Path.{sym, ◌∙◌}
use Rattle.editions.proofs.Loops.{down_room, field_turned, field_kept}
use Rattle.editions.proofs.turn_field.Goals as goal

pub turn_number-requires : goal.turn_number-requires
turn_number-requires c =
    let a = c.args in
    down_room a.part.now a.at a.n c.requires.1 (sym c.is_down.ensures ∙ c.if-is_down.true)

pub returns-then-is_down : goal.returns-then-is_down
returns-then-is_down c =
    let a = c.args in
    field_turned a.part.now a.at a.n c.requires.1 (sym c.is_down.ensures ∙ c.if-is_down.true) _ c.turn_number.ensures

pub returns : goal.returns
returns c =
    let a = c.args in
    field_kept a.part.now a.at a.n c.requires.1
    (sym c.is_down.ensures ∙ c.if-is_down.false) _ c.bytes_at.ensures
