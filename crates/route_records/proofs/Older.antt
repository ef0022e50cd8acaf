-- What a display with the older program does with stored routes and with long ones. Assumes nothing.
use Rattle.std.specs.Prelude.{Result, Ok, Err}
use Rattle.std.specs.Result.{is_err, result_and}
use mathlib.Core.Path.{◌≡◌, refl, ap, subst, ◌∙◌}
use mathlib.Core.Bool.{Bool, true, false, cond, not}
use mathlib.Core.List.{List, ◌++◌, append_assoc}
use Prim.Native.Nat.{ℕ, ◌+◌, ◌*◌, ◌%◌, ◌<◌, ◌≤◌, ◌^◌}
use native.Mathlib.Omega.{arith}
use borrow.Author.Tests.{le-leb, lt-ltb, le-ltb, ne_eqb, leb-true}
use lib.Dec.{leb}
use lib.ListN.{length, drop, take}
use lib.Seq.{drop_at, length-take-le}
use lib.Ieee.{Float}
use Rattle.fields.specs.Bytes.{number_at, has_bytes, put_at}
use Rattle.fields.specs.Writing.{answer_of, buffer_of}
use Rattle.refusals.specs.declared.Refusal.{Refusal}
use Rattle.refusals.specs.declared.Refusal.TheVariants as refusal
use Rattle.route_records.specs.Record.{
  Route,
  number_count,
  check_map,
  one_map,
  read_maps,
  read_points,
  numbers_at,
  all_finite,
  read,
  read_route,
  number_bytes,
  maps_bytes,
  route_record,
  route_of,
  write_answer,
  write_buffer,
}
use Rattle.route_records.specs.Older.{older_check_map, older_read_route, older_route_record}
use Rattle.route_records.specs.Laws.{AreBytes, StoredKept, OlderDisplay}
use Rattle.route_records.proofs.MapsLaw.{named, one_map_bytes, two_maps_long, room, first_is}
use Rattle.route_records.proofs.RouteBack.{read_is, record_is, route_kept}

older_map : (m : ℕ) → older_check_map m ≡ Ok tt → (m < 2 ^ 31) × (m ≡ 0 → ⊥)
unfolding older_check_map
older_map m e = named (2 ^ 31) m e

-- ---- stored routes

-- the older reader's answer that is no refusal
inverted : (a d f : Bool) (k : Result (Unit {0}) Refusal) (v r : Route) (n next : ℕ)
    → cond (not a) (Err refusal.TooFewBytes) (result_and k (cond (not d) (Err refusal.TooFewBytes) (cond (not f) (Err refusal.PointNotFinite) (read v n)))) ≡ read r next
    → (a ≡ true) × (k ≡ Ok tt) × (d ≡ true) × (f ≡ true) × ◌≡◌ {A = Route × ℕ} (v, n) (r, next)
inverted true true true (Ok _) v r n next e = (refl, refl, refl, refl, read_is (v, n) (r, next) e)
inverted true true false (Ok _) v r n next e = absurd (cc)
inverted true false f (Ok _) v r n next e = absurd (cc)
inverted true d f (Err k) v r n next e = absurd (cc)
inverted false d f k v r n next e = absurd (cc)

same_record : (r : Route) → r.map < 2 ^ 31 → route_record r ≡ older_route_record r
unfolding route_record older_route_record
same_record r h = rw (one_map_bytes r.map h)

module _ (s : List ℕ) (at : ℕ) (r : Route) (next : ℕ) (e : older_read_route s at ≡ read r next) where
  abbrev Map : ℕ
  Map = number_at 4 (drop at s)

  abbrev Count : ℕ
  Count = number_count Map

  abbrev Numbers : List Float
  Numbers = numbers_at Count (drop (at + 4) s)

  answered : (has_bytes s at 4 ≡ true) × (older_check_map Map ≡ Ok tt) × (has_bytes s at (4 + 4 * Count) ≡ true) × (all_finite Numbers ≡ true)
      × ◌≡◌ {A = Route × ℕ} (record { map = Map; numbers = Numbers }, at + (4 + 4 * Count)) (r, next)
  unfolding older_read_route
  answered = inverted (has_bytes s at 4) (has_bytes s at (4 + 4 * Count)) (all_finite Numbers) (older_check_map Map) _ r _ next e

  route_is : record { map = Map; numbers = Numbers } ≡ r
  route_is = ap (λ (x : Route × ℕ). x.0) answered.4

  ends : at + (4 + 4 * Count) ≡ next
  ends = ap (λ (x : Route × ℕ). x.1) answered.4

  map_is : (Map < 2 ^ 31) × (Map ≡ 0 → ⊥)
  map_is = older_map Map answered.1

  maps_are : read_maps s at ≡ Ok (record { map = Map; next = at + 4 })
  unfolding read_maps one_map
  maps_are = rw (answered.0, lt-ltb Map (2 ^ 31) map_is.0, ne_eqb Map 0 map_is.1)

  read_same : read_route s at ≡ read r next
  unfolding read_route read_points
  read_same =
      let a = answered in
      let fits : at + 4 + 4 * Count ≤ length s = omega (arith, leb-true (at + (4 + 4 * Count)) (length s) a.2) in
      let place : at + 4 + 4 * Count ≡ next = omega (arith, ends) in
      rw (maps_are, le-leb (at + 4 + 4 * Count) (length s) fits, a.3, place, route_is)

  small : r.map < 2 ^ 31
  small = subst (λ (x : Route). x.map < 2 ^ 31) route_is map_is.0

  pub kept : StoredKept s at r next
  kept = record { same = read_same; alone = small; written = same_record r small; bytes = λ (h : AreBytes s). route_kept.bytes s at r next h read_same }

-- ---- long routes

module _ (s : List ℕ) (at : ℕ) (r : Route) (rest : List ℕ) (h : 2 ^ 31 ≤ r.map) (e : drop at s ≡ route_record r ++ rest) where
  abbrev Tail : List ℕ
  Tail = number_bytes r.numbers ++ rest

  starts : drop at s ≡ maps_bytes r.map ++ Tail
  starts = e ∙ rw (record_is r) (append_assoc (maps_bytes r.map) (number_bytes r.numbers) rest)

  pub refuses : older_read_route s at ≡ Err refusal.UnknownMap
  unfolding older_read_route older_check_map
  refuses =
      let fits : at + 4 ≤ length s = omega (arith, room s at r.map Tail starts, two_maps_long r.map h) in
      let first = first_is s at r.map Tail starts h in
      rw (le-leb (at + 4) (length s) fits, first, le-ltb (2 ^ 31 + r.map % 2 ^ 31) (2 ^ 31) (omega arith))

module _ (out : List ℕ) (at m : ℕ) (numbers : List Float) (next : ℕ) (h : 2 ^ 31 ≤ m) where
  abbrev Sent : Route
  Sent = route_of m numbers

  abbrev Bytes : List ℕ
  Bytes = route_record Sent

  refuses_put : at + length Bytes ≤ length out → older_read_route (put_at out at Bytes) at ≡ Err refusal.UnknownMap
  refuses_put k =
      let l : length (take at out) ≡ at = length-take-le at out (omega arith) in
      refuses (put_at out at Bytes) at Sent (drop (at + length Bytes) out) h (drop_at (take at out) (Bytes ++ drop (at + length Bytes) out) at l)

  refuses_written : write_answer out at m numbers ≡ Ok next → older_read_route (write_buffer out at m numbers) at ≡ Err refusal.UnknownMap
  unfolding write_answer write_buffer answer_of buffer_of
  refuses_written e = go (check_map m) (leb (number_count m) (length numbers)) (has_bytes out at (length Bytes)) refl e
    where
      go : (a : Result (Unit {0}) Refusal) (b d : Bool) → has_bytes out at (length Bytes) ≡ d
          → result_and a (cond (not b) (Err refusal.TooFewBytes) (cond d (Ok (at + length Bytes)) (Err refusal.TooLittleRoom))) ≡ Ok next
          → older_read_route (cond (is_err a) out (cond (not b) out (cond d (put_at out at Bytes) out))) at ≡ Err refusal.UnknownMap
      go (Ok _) true true q w = refuses_put (leb-true (at + length Bytes) (length out) q)
      go (Ok _) true false q w = absurd (cc)
      go (Ok _) false d q w = absurd (cc)
      go (Err e) b d q w = absurd (cc)

pub older_display : OlderDisplay
older_display =
    record {
      stored = kept;
      long = refuses;
      written = refuses_written;
      unseen = λ s at out e. (rw e, rw e);
    }
