-- The laws of the route record, for every route. Statements only; proofs/RouteBack.antt and Older.antt prove them.
use Rattle.std.specs.Prelude.{◌≡◌, true, List, [], ◌∷◌, ◌++◌, ℕ, ◌+◌, ◌-◌, ◌/◌, ◌%◌, ◌≤◌, ◌<◌, ◌^◌, length, take, drop, Float, Ok, Err}
use Rattle.fields.specs.Fields.{ones}
use Rattle.fields.specs.Numbers.{AreF32}
use Rattle.fields.specs.Laws.{Laws}
use Rattle.refusals.specs.declared.Refusal.TheVariants as refusal
use Rattle.route_records.specs.Record.{
  Route,
  number_count,
  check_map,
  joined,
  all_finite,
  read_route,
  read,
  answer_to,
  buffer_to,
  route_record,
  write_answer,
  write_buffer,
}
use Rattle.route_records.specs.Older.{older_read_route, older_route_record}

-- a route as loading makes it: a map that is not refused, four numbers for each standing point, each finite
pub record IsRoute (r : Route) : Type 0 where
  pub map : check_map r.map ≡ Ok tt
  pub long : length r.numbers ≡ number_count r.map
  pub held : AreF32 r.numbers
  pub finite : all_finite r.numbers ≡ true

abbrev pub RouteLaws : Type 0
RouteLaws = Laws IsRoute route_record read_route read

unfoldable pub AreBytes : List ℕ → Type 0
AreBytes [] = Unit {0}
AreBytes (b ∷ bs) = (b < 256) × AreBytes bs

-- What a route adds to these: its map has the first map's points and above them the second's, as many as both have; 4 + 4 + 62 · 16 bytes
-- are the most, written or read, which a route reaches; and writing what was read gives the bytes that were read.
pub record RouteKept : Type 0 where
  pub apart : (first second : ℕ) → (joined first second % 2 ^ 31 ≡ first % 2 ^ 31) × (joined first second / 2 ^ 31 ≡ second)
  pub counts : (first second : ℕ) → second < 2 ^ 31 → ones 64 (joined first second) ≡ ones 31 first + ones 31 second
  pub longest : (r : Route) → IsRoute r → length (route_record r) ≤ 1000
  pub stepped : (s : List ℕ) (at : ℕ) (r : Route) (next : ℕ) → read_route s at ≡ read r next → next ≤ at + 1000
  pub reached : (r : Route) × IsRoute r × (length (route_record r) ≡ 1000)
  pub bytes : (s : List ℕ) (at : ℕ) (r : Route) (next : ℕ) → AreBytes s → read_route s at ≡ read r next → route_record r ≡ take (next - at) (drop at s)

-- "Stored routes keep their bytes and meaning": what the older reader accepts, wherever it stands, is the same route with no second map, to
-- the same place after it, and is written to the bytes that were there, as by the older program.
pub record StoredKept (s : List ℕ) (at : ℕ) (r : Route) (next : ℕ) : Type 0 where
  pub same : read_route s at ≡ read r next
  pub alone : r.map < 2 ^ 31
  pub written : route_record r ≡ older_route_record r
  pub bytes : AreBytes s → route_record r ≡ take (next - at) (drop at s)

-- "A display with the older program refuses a long route with 6 and shows none of its points": a route with a bit in the second map, whose
-- record stands anywhere in a buffer, as the writer left it too.
pub record OlderDisplay : Type 0 where
  pub stored : (s : List ℕ) (at : ℕ) (r : Route) (next : ℕ) → older_read_route s at ≡ read r next → StoredKept s at r next
  pub long :
      (s : List ℕ) (at : ℕ) (r : Route) (rest : List ℕ) → 2 ^ 31 ≤ r.map → drop at s ≡ route_record r ++ rest → older_read_route s at ≡ Err refusal.UnknownMap
  pub written :
      (out : List ℕ) (at m : ℕ) (numbers : List Float) (next : ℕ) → 2 ^ 31 ≤ m → write_answer out at m numbers ≡ Ok next
      → older_read_route (write_buffer out at m numbers) at ≡ Err refusal.UnknownMap
  pub unseen :
      (s : List ℕ) (at : ℕ) (out : List Float) → older_read_route s at ≡ Err refusal.UnknownMap
      → (answer_to (older_read_route s at) out ≡ Err refusal.UnknownMap) × (buffer_to (older_read_route s at) out ≡ out)
