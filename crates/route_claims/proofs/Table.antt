-- The tables, computed. Assumes nothing.
use mathlib.Core.Path.{refl}
use lib.Ieee.{of_bits, add, sub, mul, le, is_nan}
use Rattle.arithmetic.specs.Order.{finite}
use Rattle.arithmetic.specs.Root.{root_of}
use Rattle.arithmetic.specs.Vector.{norm, dot}
use Rattle.fields.specs.Bytes.{number_at}
use Rattle.fields.specs.Fields.{ones}
use Rattle.route_records.specs.Record.{number_count, one_map, two_maps, read_maps, read_points, numbers_at, all_finite, read_route}
use Rattle.route_records.specs.Older.{older_check_map, older_read_route}
use Rattle.routes.specs.Route.{point_at, points_of, no_point, numbered, is_near, is_passed, meets}
use Rattle.route_claims.specs.Table.{found, wanted, TestTable, outcomes, expected, LoadTable, OlderTable}

pub test_table : TestTable
unfolding found wanted meets is_near is_passed numbered no_point point_at points_of norm dot root_of of_bits add sub mul le is_nan
    read_route read_maps two_maps read_points number_count numbers_at all_finite number_at ones finite
test_table = refl

pub load_table : LoadTable
unfolding outcomes expected read_route read_maps one_map two_maps read_points number_count numbers_at all_finite number_at ones finite of_bits
load_table = refl

pub older_table : OlderTable
unfolding outcomes expected older_read_route older_check_map number_count numbers_at all_finite number_at ones finite of_bits
older_table = refl
