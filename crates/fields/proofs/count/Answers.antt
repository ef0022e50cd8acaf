-- `count` meets its contract: a map has 64 bits. Assumes nothing.
use lib.Count as all
use Rattle.fields.proofs.FieldLaw.{ones_all}
use Rattle.fields.proofs.count.Goals as goal

pub returns : goal.returns
returns c = (ones_all 64 c.args.map c.ranges.map.fits, all.ones-le 64 c.args.map c.ranges.map.fits)
