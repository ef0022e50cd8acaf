-- Flying a route that was loaded is the route call over its points. Assumes nothing.
use Rattle.std.specs.Prelude.{Result, Ok, Err, Float}
use mathlib.Core.Path.{◌≡◌, refl, sym, ap}
use mathlib.Core.Bool.{Bool, true, false, cond}
use mathlib.Core.List.{List, ◌++◌}
use Prim.Native.Nat.{ℕ, ◌+◌, ◌≤◌}
use native.Mathlib.Omega.{arith}
use borrow.Author.Tests.{le-leb, leb-true, ne_eqb}
use lib.Dec.{leb}
use lib.ListN.{length, drop, length-append, length-drop}
use Rattle.refusals.specs.declared.Refusal.{Refusal}
use Rattle.refusals.specs.declared.Refusal.TheVariants as refusal
use Rattle.fields.specs.Fields.{ones}
use Rattle.guidance.specs.declared.plane.PlaneGuidance.{PlaneGuidance}
use Rattle.route_records.specs.Record.{Route, check_map, number_count, RouteRead, read, read_route, answer_to, buffer_to, load_answer, load_buffer}
use Rattle.route_records.specs.declared.Loaded.{Loaded}
use Rattle.route_records.proofs.RouteBack.{held}
use Rattle.routes.specs.Route.{RouteCall, counted, check_lent, route_call, fly}
use Rattle.routes.proofs.PointsLaw.{points_long, lent_map, some_points, few_points}
use Rattle.route_claims.specs.Flights.{Lent, points}
use Rattle.route_claims.specs.Claim.{Flies}

-- numbers that are at least as many as a route's
enough : (m long : ℕ) → check_map m ≡ Ok tt → number_count m ≤ long → check_lent m long ≡ Ok tt
unfolding check_lent
enough m long e h = rw (e, le-leb (number_count m) long h)

buffer_long : (xs out : List Float) → length xs ≤ length out → length (xs ++ drop (length xs) out) ≡ length out
buffer_long xs out h = simp (length-append, length-drop) (omega arith)

loads_whole : (s : List ℕ) (at : ℕ) (out : List Float) (map next : ℕ) → load_answer s at out ≡ Ok (record { map = map; next = next })
    → check_lent map (length (load_buffer s at out)) ≡ Ok tt
unfolding load_answer load_buffer
loads_whole s at out map next e = go (read_route s at) refl e
  where
    Answer : Type 0
    Answer = Result Loaded Refusal

    map_of : Answer → ℕ
    map_of (Ok l) = l.map
    map_of (Err why) = 0

    taken : (r : Route) (n : ℕ) → read_route s at ≡ read r n → (b : Bool) → leb (length r.numbers) (length out) ≡ b
        → ◌≡◌ {A = Answer} (cond b (Ok (record { map = r.map; next = n })) (Err refusal.TooLittleRoom)) (Ok (record { map = map; next = next }))
        → check_lent map (length (cond b (r.numbers ++ drop (length r.numbers) out) out)) ≡ Ok tt
    taken r n q true l z =
        let is = held s at r n q in
        let fits : length r.numbers ≤ length out = leb-true (length r.numbers) (length out) l in
        let same : map ≡ r.map = sym (ap map_of z) in
        rw (same, buffer_long r.numbers out fits) (enough r.map (length out) is.map (omega (arith, is.long)))
    taken r n q false l z = cc

    go : (w : RouteRead) → read_route s at ≡ w → answer_to w out ≡ Ok (record { map = map; next = next })
        → check_lent map (length (buffer_to w out)) ≡ Ok tt
    go (Err why) q z = cc
    go (Ok (r, n)) q z = taken r n q (leb (length r.numbers) (length out)) refl z

counted_is : (points n : ℕ) → 1 ≤ n → n ≤ points + 1 → counted points n ≡ n
unfolding counted
counted_is points n h l = rw (ne_eqb n 0 (λ (z : n ≡ 0). omega arith), le-leb n (points + 1) l)

module _ (r : Lent) (ok : check_lent r.map (length r.numbers) ≡ Ok tt) where
  points_are : length (points r) ≡ ones 64 r.map
  points_are = points_long (ones 64 r.map) r.numbers

  map_is : check_map r.map ≡ Ok tt
  map_is = lent_map r.map (length r.numbers) ok

  pub some : 1 ≤ length (points r)
  some = rw points_are (some_points r.map map_is)

  pub few : length (points r) ≤ 62
  few = rw points_are (few_points r.map map_is)

  pub fly_is : (g : PlaneGuidance) (n : ℕ) (k : RouteCall) → 1 ≤ n → n ≤ length (points r) + 1
      → fly g (record { map = r.map; number = n }) r.numbers k ≡ route_call g (points r) n k
  unfolding fly route_call
  fly_is g n k h l = rw (ok, counted_is (ones 64 r.map) n h (omega (arith, points_are)))

pub flies : Flies
flies =
    record {
      loads = loads_whole;
      flies = λ g r n k ok. (some r ok, few r ok, fly_is r ok g n k);
    }
