-- Every constant and every Default value has the value that the documents give it: the check computes it.
use mathlib.Core.Path.{◌≡◌}
use mathlib.Core.Bool.{true}
use lib.Ieee.{of_bits, to_bits, mul, div, round}
use Rattle.arithmetic.specs.Table.{all_hold}
use Rattle.laws.specs.Config.{tecs_default, default}
use Rattle.laws.specs.Values.{table}

pub values : all_hold table ≡ true
unfolding of_bits to_bits mul div round tecs_default default all_hold
values = cc
