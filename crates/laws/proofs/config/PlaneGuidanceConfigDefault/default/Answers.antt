use lib.Ieee.{mul, div, of_bits}
use Rattle.laws.specs.Config.{default}
use Rattle.laws.proofs.config.PlaneGuidanceConfigDefault.default.Goals as goal

pub returns : goal.returns
unfolding default mul div of_bits
returns c = rw c.default.ensures
