-- `changed` meets its contract: of the first numbers too, none is written whatever its value. Assumes nothing.
use mathlib.Core.Bool.{false}
use lib.ListN.{length, length-replicate}
use Rattle.std.proofs.lemmas.List.{take-replicate}
use Rattle.fields.proofs.changed.Goals as goal

pub returns : goal.returns
returns c = rw (take-replicate (length c.args.v.now) 40 false c.requires.1, length-replicate) at c.map_of.ensures
