-- The reader and the record of a display with the older program, which knows no second map: "bit 31 is unnamed". Definitions only, kept for
-- what stored routes and long ones mean to it.
use Rattle.std.specs.Prelude.{cond, not, List, ◌++◌, ℕ, ◌+◌, ◌*◌, ◌^◌, eqb, ltb, drop, Result, Ok, Err}
use Rattle.std.specs.Result.{result_and}
use Rattle.refusals.specs.declared.Refusal.{Refusal}
use Rattle.refusals.specs.declared.Refusal.TheVariants as refusal
use Rattle.fields.specs.Bytes.{number_at, bytes_of, has_bytes}
use Rattle.route_records.specs.Record.{Route, number_count, numbers_at, all_finite, RouteRead, read, number_bytes}

-- refused for an unnamed bit, then for no point
unfoldable pub older_check_map : ℕ → Result (Unit {0}) Refusal
older_check_map m = cond (not (ltb m (2 ^ 31))) (Err refusal.UnknownMap) (cond (eqb m 0) (Err refusal.NoPoint) (Ok tt))

-- too few bytes for a place past the end or a map cut short; by the map; too few for what it demands; then a number that is not finite
unfoldable pub older_read_route : List ℕ → ℕ → RouteRead
older_read_route s at =
    let map = number_at 4 (drop at s) in
    let size = 4 + 4 * number_count map in
    let numbers = numbers_at (number_count map) (drop (at + 4) s) in
    cond (not (has_bytes s at 4)) (Err refusal.TooFewBytes)
    (result_and (older_check_map map)
    (cond (not (has_bytes s at size)) (Err refusal.TooFewBytes)
    (cond (not (all_finite numbers)) (Err refusal.PointNotFinite)
    (read (record { map = map; numbers = numbers }) (at + size)))))

unfoldable pub older_route_record : Route → List ℕ
older_route_record r = bytes_of 4 r.map ++ number_bytes r.numbers
