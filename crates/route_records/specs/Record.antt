-- Route record: "a 4-byte map, bits 0 to 30, then 16 bytes for each standing point: north, east, altitude, cruise speed"; "bit 31 of the
-- map now says that a second 4-byte map follows it directly, for 31 more points". Definitions only.
use Rattle.std.specs.Prelude.{Bool, true, cond, not, ◌&&◌, List, [], ◌∷◌, ◌++◌, ℕ, ◌+◌, ◌*◌, ◌/◌, ◌%◌, ◌^◌, eqb, leb, ltb, length, drop, take, Float, Result, Ok, Err}
use Rattle.std.specs.Float.{binary32}
use Rattle.std.specs.Float.Ieee.{to_bits}
use Rattle.std.specs.Result.{is_err, result_and}
use Rattle.arithmetic.specs.Order.{finite}
use Rattle.refusals.specs.declared.Refusal.{Refusal}
use Rattle.refusals.specs.declared.Refusal.TheVariants as refusal
use Rattle.fields.specs.Bytes.{number_at, bytes_of, has_bytes}
use Rattle.fields.specs.Fields.{ones}
unfoldable pub use Rattle.fields.specs.Numbers.{numbers_at}
use Rattle.fields.specs.Writing.{answer_of, buffer_of}
use Rattle.route_records.specs.declared.Loaded.{Loaded}

-- a route: its map, and the numbers of its standing points, four a point, in bit order. Bits 0 to 30 of its map are those of the
-- record's first map, bits 31 to 61 are bits 0 to 30 of the second.
pub record Route : Type 0 where
  pub map : ℕ
  pub numbers : List Float

-- how many numbers the points that stand in a map have
unfoldable pub number_count : ℕ → ℕ
number_count m = 4 * ones 64 m

-- of a route's map: refused for an unnamed bit, then for no point
unfoldable pub check_map : ℕ → Result (Unit {0}) Refusal
check_map m = cond (not (ltb m (2 ^ 62))) (Err refusal.UnknownMap) (cond (eqb m 0) (Err refusal.NoPoint) (Ok tt))

-- ---- reading the maps: the route's map and the place after them, or why they are refused

-- no second map: no point in an empty one
unfoldable pub one_map : ℕ → ℕ → Result Loaded Refusal
one_map first next = cond (eqb first 0) (Err refusal.NoPoint) (Ok (record { map = first; next = next }))

-- two maps as one: the points of the second come after those of the first
abbrev pub joined : ℕ → ℕ → ℕ
joined first second = first % 2 ^ 31 + 2 ^ 31 * second

-- "its own bit 31 is unnamed, and an empty second map is refused 6; beside a second map the first may be empty"
unfoldable pub two_maps : ℕ → ℕ → ℕ → Result Loaded Refusal
two_maps first second next =
    cond (not (ltb second (2 ^ 31))) (Err refusal.UnknownMap)
    (cond (eqb second 0) (Err refusal.UnknownMap)
    (Ok (record { map = joined first second; next = next })))

-- too few bytes for a place past the end or the first map cut short; without its bit 31 it stands alone, with it too few for the second cut short
unfoldable pub read_maps : List ℕ → ℕ → Result Loaded Refusal
read_maps s at =
    let first = number_at 4 (drop at s) in
    let second = number_at 4 (drop (at + 4) s) in
    cond (not (has_bytes s at 4)) (Err refusal.TooFewBytes)
    (cond (ltb first (2 ^ 31)) (one_map first (at + 4))
    (cond (not (has_bytes s at 8)) (Err refusal.TooFewBytes)
    (two_maps first second (at + 8))))

-- ---- reading the points

unfoldable pub all_finite : List Float → Bool
all_finite [] = true
all_finite (x ∷ xs) = finite x && all_finite xs

-- a route and the place after its record, or why it is refused
abbrev pub RouteRead : Type 0
RouteRead = Result (Route × ℕ) Refusal

abbrev pub read : Route → ℕ → RouteRead
read r next = Ok (r, next)

-- too few bytes where there are fewer than the map demands; then a number that is not finite
unfoldable pub read_points : Result Loaded Refusal → List ℕ → RouteRead
read_points (Err e) s = Err e
read_points (Ok maps) s =
    let n = number_count maps.map in
    let numbers = numbers_at n (drop maps.next s) in
    cond (not (has_bytes s maps.next (4 * n))) (Err refusal.TooFewBytes)
    (cond (not (all_finite numbers)) (Err refusal.PointNotFinite)
    (read (record { map = maps.map; numbers = numbers }) (maps.next + 4 * n)))

unfoldable pub read_route : List ℕ → ℕ → RouteRead
read_route s at = read_points (read_maps s at) s

-- into lent numbers: too little room where these are too few; a refused loading keeps them
abbrev pub answer_to : RouteRead → List Float → Result Loaded Refusal
answer_to (Err e) out = Err e
answer_to (Ok (r, next)) out = cond (leb (length r.numbers) (length out)) (Ok (record { map = r.map; next = next })) (Err refusal.TooLittleRoom)

abbrev pub buffer_to : RouteRead → List Float → List Float
buffer_to (Err e) out = out
buffer_to (Ok (r, next)) out = cond (leb (length r.numbers) (length out)) (r.numbers ++ drop (length r.numbers) out) out

unfoldable pub load_answer : List ℕ → ℕ → List Float → Result Loaded Refusal
load_answer s at out = answer_to (read_route s at) out

unfoldable pub load_buffer : List ℕ → ℕ → List Float → List Float
load_buffer s at out = buffer_to (read_route s at) out

-- ---- writing

unfoldable pub number_bytes : List Float → List ℕ
number_bytes [] = []
number_bytes (x ∷ xs) = bytes_of 4 (to_bits binary32 x) ++ number_bytes xs

-- "The writer uses a second map only when one of its bits stands."
unfoldable pub maps_bytes : ℕ → List ℕ
maps_bytes m = cond (ltb m (2 ^ 31)) (bytes_of 4 m) (bytes_of 4 (2 ^ 31 + m % 2 ^ 31) ++ bytes_of 4 (m / 2 ^ 31))

-- a route's record
unfoldable pub route_record : Route → List ℕ
route_record r = maps_bytes r.map ++ number_bytes r.numbers

-- the route that lent numbers hold at their front
abbrev pub route_of : ℕ → List Float → Route
route_of m numbers = record { map = m; numbers = take (number_count m) numbers }

-- by the map; then too few numbers for what the map demands; then too little room
unfoldable pub write_answer : List ℕ → ℕ → ℕ → List Float → Result ℕ Refusal
write_answer out at m numbers =
    result_and (check_map m)
    (cond (not (leb (number_count m) (length numbers))) (Err refusal.TooFewBytes)
    (answer_of out at (route_record (route_of m numbers))))

unfoldable pub write_buffer : List ℕ → ℕ → ℕ → List Float → List ℕ
write_buffer out at m numbers =
    cond (is_err (check_map m)) out
    (cond (not (leb (number_count m) (length numbers))) out
    (buffer_of out at (route_record (route_of m numbers))))
