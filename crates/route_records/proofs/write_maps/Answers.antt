-- `write_maps` meets its contract. Assumes nothing.
use Rattle.route_records.proofs.MapsLaw.{wrote_one, wrote_two}
use Rattle.route_records.proofs.write_maps.Goals as goal

pub returns-then-map-lt-SECOND : goal.returns-then-map-lt-SECOND
returns-then-map-lt-SECOND c = wrote_one _ _ _ c.if-map-lt-SECOND.true c.write_number.ensures

pub returns-else-map-lt-SECOND : goal.returns-else-map-lt-SECOND
returns-else-map-lt-SECOND c =
    wrote_two _ _ c.if-map-lt-SECOND.false c.requires _ c.write_number-else-map-lt-SECOND.ensures _ c.write_number-else-map-lt-SECOND-2.ensures
