use Rattle.std.proofs.Common.{arith, refl, ◌∙◌}
use Rattle.records.proofs.ConfigLaw.{exit_is}
use Rattle.editions.proofs.Writing.{kept, place_in, part_room, turned_in}
use Rattle.editions.proofs.write_second.Goals as goal

pub returns-in_err-next : goal.returns-in_err-next
returns-in_err-next c =
    let k = kept c.args.call _ _ _ _ c.in_err-next.ensures.0 c.in_err-next.ensures.1 in
    (exit_is _ c.from_residual.ensures.1 refl ∙ k.0, k.1)

pub slice_bounds-turn_record-count : goal.slice_bounds-turn_record-count
slice_bounds-turn_record-count c = omega (arith, place_in c.args.call _ _ _ _ c.in_ok-next.ensures.0 c.in_ok-next.ensures.1)

pub slice_bounds-turn_record-start : goal.slice_bounds-turn_record-start
slice_bounds-turn_record-start c = omega (arith, place_in c.args.call _ _ _ _ c.in_ok-next.ensures.0 c.in_ok-next.ensures.1)

pub turn_record-requires : goal.turn_record-requires
turn_record-requires c = part_room c.args.call _ _ _ _ c.in_ok-next.ensures.0 c.in_ok-next.ensures.1

pub returns : goal.returns
returns c = turned_in c.args.call _ _ _ _ c.in_ok-next.ensures.0 c.in_ok-next.ensures.1 _ c.turn_record.ensures
