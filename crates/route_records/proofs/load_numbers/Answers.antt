-- `load_numbers` meets its contract: a lemma for each outcome. Assumes nothing.
use Rattle.route_records.proofs.RecordLaw.{not_finite, no_room, loads}
use Rattle.route_records.proofs.load_numbers.Goals as goal

pub returns-then-not-all_finite : goal.returns-then-not-all_finite
returns-then-not-all_finite c =
    not_finite _ c.args.maps _ _ c.numbers_of-n.ensures.0 c.in_ok-part.ensures.0 _ c.in_ok-part.ensures.1 _
    c.all_finite.ensures c.if-not-all_finite.true

pub returns-then-out-n : goal.returns-then-out-n
returns-then-out-n c =
    no_room _ c.args.maps _ _ c.numbers_of-n.ensures.0 c.in_ok-part.ensures.0 _ c.in_ok-part.ensures.1 _
    c.all_finite.ensures c.if-not-all_finite.false c.if-out-n.true

pub returns : goal.returns
returns c =
    loads _ c.args.maps _ _ c.numbers_of-n.ensures.0 c.in_ok-part.ensures.0 _ c.in_ok-part.ensures.1 _
    c.all_finite.ensures c.if-not-all_finite.false c.if-out-n.false _ c.read_all.ensures
