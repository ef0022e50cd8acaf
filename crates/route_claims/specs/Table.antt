-- Edge cases of the test, and of loading: one table each. Statements only; proofs/Table.antt computes them.
use Rattle.std.specs.Prelude.{◌≡◌, Bool, true, false, List, [], ◌∷◌, ◌++◌, ℕ, length, replicate, Float, Ok, Err}
use Rattle.std.specs.Float.{nan}
use Rattle.refusals.specs.Numbers.{number}
use Rattle.arithmetic.specs.Constants.{f32, n0}
use Rattle.arithmetic.specs.declared.vector.Vec2.{Vec2}
use Rattle.fields.specs.Fields.{ones}
use Rattle.route_records.specs.Record.{RouteRead, read_route}
use Rattle.route_records.specs.Older.{older_read_route}
use Rattle.routes.specs.Route.{points_of, meets}
use Rattle.routes.specs.declared.Point.{Point}

-- a point at the height 0 with the cruise speed 0, and a position
abbrev pub point : Float → Float → Point
point north east = record { north_m = north; east_m = east; altitude_m = n0; cruise_speed_mps = n0 }

abbrev pub position : Float → Float → Vec2
position north east = record { x = north; y = east }

abbrev pub hundred : Float
hundred = f32 0x42c80000  -- 100

abbrev pub hundred_bytes : List ℕ
hundred_bytes = 0 ∷ 0 ∷ 200 ∷ 66 ∷ []

abbrev pub minus_hundred : Float
minus_hundred = f32 0xc2c80000  -- -100

abbrev pub minus_zero : Float
minus_zero = f32 0x80000000  -- -0

abbrev pub infinity : Float
infinity = f32 0x7f800000

abbrev pub large : Float
large = f32 0x7f61b1e6  -- 3e38

abbrev pub minus_large : Float
minus_large = f32 0xff61b1e6  -- -3e38

-- a radius of 60 m
abbrev pub radius : Float
radius = f32 0x42700000  -- 60

abbrev pub beyond : Float
beyond = f32 0x42700001  -- 60.000004, the f32 beyond 60

-- a route of one point, of two, of two equal ones, one whose leg overflows, and a leg to the origin from south-west
abbrev pub single : List Point
single = point n0 n0 ∷ []

abbrev pub pair : List Point
pair = point n0 n0 ∷ point hundred n0 ∷ []

abbrev pub equal_pair : List Point
equal_pair = point hundred n0 ∷ point hundred n0 ∷ []

abbrev pub far_pair : List Point
far_pair = point minus_large n0 ∷ point large n0 ∷ []

abbrev pub home_pair : List Point
home_pair = point minus_hundred minus_hundred ∷ point n0 n0 ∷ []

-- a route with gaps in both maps, bit 0 of the first and bits 0 and 30 of the second: the origin, 100 m north, and 100 m east of that
abbrev pub gapped_record : List ℕ
gapped_record =
    1 ∷ 0 ∷ 0 ∷ 128 ∷ 1 ∷ 0 ∷ 0 ∷ 64 ∷ replicate 16 0 ++ (hundred_bytes ++ replicate 12 0) ++ (hundred_bytes ++ hundred_bytes ++ replicate 8 0)

abbrev pub points_read : RouteRead → List Point
points_read (Err why) = []
points_read (Ok (r, next)) = points_of (ones 64 r.map) r.numbers

abbrev pub gapped : List Point
gapped = points_read (read_route gapped_record 0)

pub record Case : Type 0 where
  pub points : List Point
  pub number : ℕ
  pub at : Vec2
  pub moves : Bool

abbrev pub row : List Point → ℕ → Float → Float → Bool → Case
row ps n north east moves = record { points = ps; number = n; at = position north east; moves = moves }

abbrev pub cases : List Case
cases =
    -- at the exact radius, at the f32 beyond it, at the point
    row single 1 radius n0 true ∷
    row single 1 beyond n0 false ∷
    row single 1 n0 minus_zero true ∷
    -- NaN never moves it on: a position that is NaN, at the first point and on a leg
    row single 1 nan n0 false ∷
    row pair 2 n0 nan false ∷
    -- an infinite position is not within a radius; on a leg a dot of +infinity passes, one of -infinity does not
    row single 1 infinity n0 false ∷
    row pair 2 infinity n0 true ∷
    row pair 2 (f32 0xff800000) n0 false ∷
    -- short of the point, abeam of it (a dot of exactly 0), past it
    row pair 2 n0 n0 false ∷
    row pair 2 hundred radius true ∷
    row pair 2 (f32 0x42c80001) n0 true ∷
    -- a dot of -0
    row home_pair 2 minus_zero minus_zero true ∷
    -- two equal points: a leg of length 0 is passed, wherever the position is finite; 0 times infinity is NaN
    row equal_pair 2 minus_hundred minus_hundred true ∷
    row equal_pair 2 infinity n0 false ∷
    -- a leg that overflows: infinity times 0 is NaN, infinity times what is left passes
    row far_pair 2 large n0 false ∷
    row far_pair 2 infinity n0 true ∷
    -- gaps in the map, the points in their order: at the first, abeam of the second and short of it, abeam of the third and short of it
    row gapped 1 n0 n0 true ∷
    row gapped 2 hundred minus_hundred true ∷
    row gapped 2 n0 hundred false ∷
    row gapped 3 n0 hundred true ∷
    row gapped 3 hundred minus_hundred false ∷
    -- one past the last point it stays
    row single 2 n0 n0 false ∷
    row pair 3 hundred n0 false ∷
    row gapped 4 hundred hundred false ∷ []

unfoldable pub found : List Case → List Bool
found [] = []
found (c ∷ cs) = meets radius c.points c.number c.at ∷ found cs

unfoldable pub wanted : List Case → List Bool
wanted [] = []
wanted (c ∷ cs) = c.moves ∷ wanted cs

abbrev pub TestTable : Type 0
TestTable = found cases ≡ wanted cases

-- ---- loading: the refusal's number, or 0, the route's map, how many numbers were read, and the place after the record

abbrev pub outcome : RouteRead → List ℕ
outcome (Err why) = number why ∷ []
outcome (Ok (r, next)) = 0 ∷ r.map ∷ length r.numbers ∷ next ∷ []

-- sixteen bytes of a point, each 0, and the same with the first number NaN or infinite
abbrev pub still : List ℕ
still = replicate 16 0

abbrev pub odd : ℕ → List ℕ
odd low = 0 ∷ 0 ∷ low ∷ 127 ∷ replicate 12 0

pub record Load : Type 0 where
  pub bytes : List ℕ
  pub gives : List ℕ

-- without bit 31, to the older reader too
abbrev pub stored : List Load
stored =
    record { bytes = []; gives = 5 ∷ [] } ∷
    record { bytes = 255 ∷ 255 ∷ 255 ∷ []; gives = 5 ∷ [] } ∷
    -- the empty map, before the length
    record { bytes = 0 ∷ 0 ∷ 0 ∷ 0 ∷ []; gives = 10 ∷ [] } ∷
    record { bytes = 1 ∷ 0 ∷ 0 ∷ 0 ∷ replicate 15 0; gives = 5 ∷ [] } ∷
    -- 11 after 5: NaN and infinity; one point, and two with a gap between them
    record { bytes = 3 ∷ 0 ∷ 0 ∷ 0 ∷ odd 192; gives = 5 ∷ [] } ∷
    record { bytes = 1 ∷ 0 ∷ 0 ∷ 0 ∷ odd 192; gives = 11 ∷ [] } ∷
    record { bytes = 1 ∷ 0 ∷ 0 ∷ 0 ∷ odd 128; gives = 11 ∷ [] } ∷
    record { bytes = 1 ∷ 0 ∷ 0 ∷ 0 ∷ still; gives = 0 ∷ 1 ∷ 4 ∷ 20 ∷ [] } ∷
    record { bytes = 1 ∷ 0 ∷ 0 ∷ 64 ∷ still ++ still ++ (7 ∷ []); gives = 0 ∷ 0x40000001 ∷ 8 ∷ 36 ∷ [] } ∷ []

-- a point of each map: bit 0 of the first, bits 0 and 30 of the second; and sixty-two points
abbrev pub three_points : List ℕ
three_points = 1 ∷ 0 ∷ 0 ∷ 128 ∷ 1 ∷ 0 ∷ 0 ∷ 64 ∷ still ++ still ++ still ++ (7 ∷ [])

abbrev pub all_points : List ℕ
all_points = 255 ∷ 255 ∷ 255 ∷ 255 ∷ 255 ∷ 255 ∷ 255 ∷ 127 ∷ replicate 992 0

-- with bit 31
abbrev pub long : List Load
long =
    -- the second map cut short, whatever the first names
    record { bytes = 1 ∷ 0 ∷ 0 ∷ 128 ∷ []; gives = 5 ∷ [] } ∷
    record { bytes = 0 ∷ 0 ∷ 0 ∷ 128 ∷ 0 ∷ 0 ∷ 0 ∷ []; gives = 5 ∷ [] } ∷
    -- its being empty, also beside an empty first map and before the length; its bit 31
    record { bytes = 1 ∷ 0 ∷ 0 ∷ 128 ∷ 0 ∷ 0 ∷ 0 ∷ 0 ∷ still; gives = 6 ∷ [] } ∷
    record { bytes = 0 ∷ 0 ∷ 0 ∷ 128 ∷ 0 ∷ 0 ∷ 0 ∷ 0 ∷ []; gives = 6 ∷ [] } ∷
    record { bytes = 1 ∷ 0 ∷ 0 ∷ 128 ∷ 1 ∷ 0 ∷ 0 ∷ 128 ∷ still ++ still; gives = 6 ∷ [] } ∷
    record { bytes = 0 ∷ 0 ∷ 0 ∷ 128 ∷ 0 ∷ 0 ∷ 0 ∷ 128 ∷ []; gives = 6 ∷ [] } ∷
    -- the length by both maps; 11 after it
    record { bytes = 1 ∷ 0 ∷ 0 ∷ 128 ∷ 1 ∷ 0 ∷ 0 ∷ 0 ∷ odd 192; gives = 5 ∷ [] } ∷
    record { bytes = 1 ∷ 0 ∷ 0 ∷ 128 ∷ 1 ∷ 0 ∷ 0 ∷ 0 ∷ still ++ odd 192; gives = 11 ∷ [] } ∷
    -- an empty first map beside a second; points in both; sixty-two
    record { bytes = 0 ∷ 0 ∷ 0 ∷ 128 ∷ 1 ∷ 0 ∷ 0 ∷ 0 ∷ still; gives = 0 ∷ 0x80000000 ∷ 4 ∷ 24 ∷ [] } ∷
    record { bytes = three_points; gives = 0 ∷ 0x2000000080000001 ∷ 12 ∷ 56 ∷ [] } ∷
    record { bytes = all_points; gives = 0 ∷ 0x3fffffffffffffff ∷ 248 ∷ 1000 ∷ [] } ∷ []

-- bit 31 to the older reader, also where the length is short
abbrev pub refused_before : List Load
refused_before =
    record { bytes = 1 ∷ 0 ∷ 0 ∷ 128 ∷ []; gives = 6 ∷ [] } ∷
    record { bytes = 0 ∷ 0 ∷ 0 ∷ 128 ∷ []; gives = 6 ∷ [] } ∷
    record { bytes = three_points; gives = 6 ∷ [] } ∷
    record { bytes = all_points; gives = 6 ∷ [] } ∷ []

unfoldable pub outcomes : (List ℕ → ℕ → RouteRead) → List Load → List (List ℕ)
outcomes reader [] = []
outcomes reader (l ∷ ls) = outcome (reader l.bytes 0) ∷ outcomes reader ls

unfoldable pub expected : List Load → List (List ℕ)
expected [] = []
expected (l ∷ ls) = l.gives ∷ expected ls

abbrev pub LoadTable : Type 0
LoadTable = outcomes read_route (stored ++ long) ≡ expected (stored ++ long)

abbrev pub OlderTable : Type 0
OlderTable = outcomes older_read_route (stored ++ refused_before) ≡ expected (stored ++ refused_before)
