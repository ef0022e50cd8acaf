-- `write_route` meets its contract: a lemma for each outcome. Assumes nothing.
use mathlib.Core.Path.{◌∙◌}
use Rattle.std.proofs.lemmas.Result.{err_from_is_err_and}
use Rattle.route_records.proofs.RecordLaw.{write_bad, write_short, write_full, numbers_fit, writes}
use Rattle.route_records.proofs.write_route.Goals as goal

pub returns-in_err-check_map : goal.returns-in_err-check_map
returns-in_err-check_map c =
    let p = err_from_is_err_and c.from_residual.result c.from_residual.ensures.1 in
    rw (p.1, p.2) (write_bad _ _ _ _ _ c.in_err-check_map.ensures)

pub returns-then-numbers-n : goal.returns-then-numbers-n
returns-then-numbers-n c = write_short _ _ _ _ c.in_ok-check_map.ensures _ c.numbers_of-n.ensures.0 c.if-numbers-n.true

pub returns-in_err-check_room : goal.returns-in_err-check_room
returns-in_err-check_room c =
    let p = err_from_is_err_and c.from_residual-in_err-check_room.result c.from_residual-in_err-check_room.ensures.1 in
    rw (p.1, p.2 ∙ c.in_err-check_room.ensures.1)
    (write_full _ _ _ _ c.in_ok-check_map.ensures _ c.numbers_of-n.ensures.0 c.if-numbers-n.false _ c.maps_size-maps.ensures.0 c.in_err-check_room.ensures.0)

pub write_numbers-requires : goal.write_numbers-requires
write_numbers-requires c =
    numbers_fit _ _ _ _ c.in_ok-check_map.ensures _ c.numbers_of-n.ensures.0 c.if-numbers-n.false _ c.maps_size-maps.ensures.0
    c.in_ok-check_room.ensures _ c.write_maps.ensures

pub returns : goal.returns
returns c =
    writes _ _ _ _ c.in_ok-check_map.ensures _ c.numbers_of-n.ensures.0 c.if-numbers-n.false _ c.maps_size-maps.ensures.0
    c.in_ok-check_room.ensures _ c.write_maps.ensures _ c.write_numbers.ensures
