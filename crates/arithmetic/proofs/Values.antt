-- Every constant has the value that document 01 gives it: the check computes it.
use mathlib.Core.Path.{◌≡◌}
use mathlib.Core.Bool.{true}
use lib.Ieee.{of_bits, to_bits, div, round}
use Rattle.arithmetic.specs.Table.{all_hold}
use Rattle.arithmetic.specs.Values.{table}

pub values : all_hold table ≡ true
unfolding of_bits to_bits div round all_hold
values = cc
