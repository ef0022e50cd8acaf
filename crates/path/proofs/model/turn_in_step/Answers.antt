use mathlib.Core.Path.{◌≡◌, refl}
use mathlib.Core.Bool.{true}
use lib.Ieee.{le, of_bits}
use Rattle.arithmetic.specs.Constants.{n0, frac_pi2}
use Rattle.laws.proofs.Ordered.{sides_ordered}
use Rattle.path.proofs.model.turn_in_step.Goals as goal

above : le n0 frac_pi2 ≡ true
unfolding of_bits le
above = refl

pub clamp_ordered-requires : goal.clamp_ordered-requires
clamp_ordered-requires c = sides_ordered frac_pi2 above
