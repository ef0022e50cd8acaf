-- A lemma for each outcome.
use Rattle.std.proofs.Common.{◌∙◌}
use Rattle.records.proofs.ConfigLaw.{exit_is, cut, unnamed, short, room, whole}
use Rattle.records.proofs.config.read_config.Goals as goal

pub returns-in_err-start : goal.returns-in_err-start
returns-in_err-start c = exit_is _ c.from_residual.ensures.1 c.in_err-start.ensures.1 ∙ cut _ _ c.in_err-start.ensures.0

pub returns-then-map-ge-FIRST_UNNAMED : goal.returns-then-map-ge-FIRST_UNNAMED
returns-then-map-ge-FIRST_UNNAMED c =
    unnamed _ _ c.in_ok-start.ensures.0 _ c.in_ok-start.ensures.1 _ c.read_number-map.ensures.0 c.if-map-ge-FIRST_UNNAMED.true

pub returns-in_err-bytes_from : goal.returns-in_err-bytes_from
returns-in_err-bytes_from c =
    exit_is _ c.from_residual-in_err-bytes_from.ensures.1 c.in_err-bytes_from.ensures.1
    ∙ short _ _ c.in_ok-start.ensures.0 _ c.in_ok-start.ensures.1 _ c.read_number-map.ensures.0 c.if-map-ge-FIRST_UNNAMED.false _ c.count.ensures.0
    c.in_err-bytes_from.ensures.0

pub read_values-requires : goal.read_values-requires
read_values-requires c =
    room _ _ c.in_ok-start.ensures.0 _ c.in_ok-start.ensures.1 _ c.read_number-map.ensures.0 c.if-map-ge-FIRST_UNNAMED.false _ c.count.ensures.0
    c.in_ok-bytes_from.ensures.0 _ c.default_bits-v.ensures

pub returns : goal.returns
returns c =
    whole _ _ c.in_ok-start.ensures.0 _ c.in_ok-start.ensures.1 _ c.read_number-map.ensures.0 c.if-map-ge-FIRST_UNNAMED.false _ c.count.ensures.0
    c.in_ok-bytes_from.ensures.0 _ c.default_bits-v.ensures _ _ c.read_values.ensures.0 c.config_of_bits.ensures
