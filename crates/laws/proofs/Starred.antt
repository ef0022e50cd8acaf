-- Every case of the table holds: the check computes it.
use mathlib.Core.Path.{◌≡◌}
use mathlib.Core.Bool.{true}
use lib.Ieee.{is_nan, neg, lt, le, eq, of_bits, to_bits, add, sub, mul, div, rem}
use Rattle.arithmetic.specs.Order.{least, greatest, clamp, finite, size, negative}
use Rattle.arithmetic.specs.Root.{root_of}
use Rattle.arithmetic.specs.Table.{all_hold}
use Rattle.arithmetic.specs.Trigonometry.{sine, folded, cosine_of_folded, cosine, series, part, arctangent_of_size, arctangent, arctangent2}
use Rattle.laws.specs.Math.{limit_or_zero, clamp_symmetric, saturate_symmetric, saturate_unit, lagged}
use Rattle.laws.specs.Config.{first_failing, tecs_default, default, validate}
use Rattle.laws.specs.Navigation.{pi_pinned, pi_finite, pi_step}
use Rattle.laws.specs.Tecs.{update_underspeed, turn_rate, reset, hold}
use Rattle.laws.specs.Starred.{table}

pub starred : all_hold table ≡ true
unfolding is_nan neg lt le eq of_bits to_bits add sub mul div rem least greatest clamp finite size negative root_of sine folded
    cosine_of_folded cosine series part arctangent_of_size arctangent arctangent2 limit_or_zero clamp_symmetric saturate_symmetric
    saturate_unit lagged first_failing tecs_default default validate pi_pinned pi_finite pi_step update_underspeed
    turn_rate reset hold all_hold
starred = cc
