use Rattle.records.proofs.CallLaw.{front_room, front_floats}
use Rattle.records.proofs.call.read_first.Goals as goal

pub read_values-requires : goal.read_values-requires
read_values-requires g c = let p = c.requires in front_room g.row.N p.0 c.args.map p.1 _ _ p.2

pub returns : goal.returns
returns g c = let p = c.requires in front_floats g.row.N p.0 c.args.map p.1 _ _ c.read_values.ensures.0
