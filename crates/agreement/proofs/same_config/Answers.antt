-- `same_config` meets its contract: the arrays of both, compared by `==`. Assumes nothing.
use Rattle.agreement.specs.Agreement.{config_values}
use Rattle.agreement.proofs.Same.{same_numbers}
use Rattle.agreement.proofs.same_config.Goals as goal

pub returns : goal.returns
unfolding config_values
returns c = rw (c.eq.ensures, c.bits_of.ensures, c.bits_of-2.ensures) (same_numbers _ _)
