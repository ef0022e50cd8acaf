-- A route's points among lent numbers, and what is known of numbers that are not refused. Assumes nothing.
use Rattle.std.specs.Prelude.{Result, Ok, Err, Float}
use Rattle.std.specs.Result.{result_and}
use mathlib.Core.Path.{◌≡◌, refl, sym, ap, ◌∙◌}
use mathlib.Core.Bool.{Bool, true, false, cond}
use mathlib.Core.List.{List, [], ◌∷◌}
use Prim.Native.Nat.{ℕ, zero, suc, ◌-◌, ◌*◌, ◌≤◌}
use native.Mathlib.Omega.{arith}
use borrow.Author.Tests.{leb-true}
use lib.Dec.{leb}
use lib.ListN.{length, drop, take, get_or}
use Rattle.std.proofs.lemmas.List.{get_or-take}
use Rattle.std.proofs.Math.ListN.{get_or-map}
use lib.Ieee.{nan}
use Rattle.std.specs.Simd.{first_chunks}
use Rattle.refusals.specs.declared.Refusal.{Refusal}
use Rattle.refusals.specs.declared.Refusal.TheVariants as refusal
use Rattle.fields.specs.Fields.{ones}
use Rattle.fields.proofs.FieldLaw.{ones_le, ones_below, ones_all}
use Rattle.route_records.proofs.MapsLaw.{map_is}
use Rattle.std.proofs.lemmas.Nat.{zero_from_ones}
use Rattle.route_records.specs.Record.{check_map, number_count}
use Rattle.routes.specs.Route.{point_at, points_of, standing, no_point, numbered, check_lent}
use Rattle.routes.specs.declared.Point.{Point}

-- ---- points

pub points_long : (n : ℕ) (v : List Float) → length (points_of n v) ≡ n
unfolding points_of
points_long zero v = refl
points_long (suc n) v = ap suc (points_long n (drop 4 v))

-- a point's numbers are the first four
first_four : (v : List Float) → point_at (take 4 v) 0 ≡ point_at v 0
unfolding point_at
first_four v = rw (get_or-take 4 v 0 nan (omega arith), get_or-take 4 v 1 nan (omega arith), get_or-take 4 v 2 nan (omega arith), get_or-take 4 v 3 nan (omega arith))

pub standing_is : (n k : ℕ) (v : List Float) → n ≤ k → standing (take n (first_chunks 4 k v)) ≡ points_of n v
unfolding points_of
standing_is zero k v h = refl
standing_is (suc n) zero v h = absurd (omega arith)
standing_is (suc n) (suc k) v h = rw (first_four v) (ap (λ (ps : List Point). point_at v 0 ∷ ps) (standing_is n k (drop 4 v) (omega arith)))

pub numbered_is : (vs : List (List Float)) (k : ℕ) → point_at (get_or vs (k - 1) []) 0 ≡ numbered (standing vs) k
unfolding numbered no_point
numbered_is vs k = sym (get_or-map (λ (v : List Float). point_at v 0) vs (k - 1) [])

-- ---- lent numbers

-- a map that is not refused names a point, and no more than sixty-two
pub some_points : (m : ℕ) → check_map m ≡ Ok tt → 1 ≤ ones 64 m
some_points m e =
    let low = (map_is m e).0 in
    let same = ones_all 64 m (omega arith) in
    let some : ones 64 m ≡ 0 → ⊥ = λ (z : ones 64 m ≡ 0). (map_is m e).1 (zero_from_ones m (same ∙ z)) in
    omega arith

pub few_points : (m : ℕ) → check_map m ≡ Ok tt → ones 64 m ≤ 62
few_points m e = omega (arith, ones_below 62 2 m (map_is m e).0, ones_le 62 m)

-- lent numbers that are not refused, too
pub lent_map : (m long : ℕ) → check_lent m long ≡ Ok tt → check_map m ≡ Ok tt
unfolding check_lent
lent_map m long e = go (check_map m) e
  where
    go : (r : Result (Unit {0}) Refusal)
        → ◌≡◌ {A = Result (Unit {0}) Refusal} (result_and r (cond (leb (number_count m) long) (Ok tt) (Err refusal.TooFewBytes))) (Ok tt)
        → r ≡ Ok tt
    go (Ok u) w = refl
    go (Err why) w = cc

-- so there is a point, each has its numbers, and there are no more than sixty-two
pub lent_gives : (m long : ℕ) → check_lent m long ≡ Ok tt → (1 ≤ ones 64 m) × (4 * ones 64 m ≤ long) × (ones 64 m ≤ 62)
unfolding check_lent number_count
lent_gives m long e = (some_points m map, go (check_map m) (leb (4 * ones 64 m) long) refl e, few_points m map)
  where
    map : check_map m ≡ Ok tt
    map = lent_map m long e

    go : (r : Result (Unit {0}) Refusal) → (b : Bool) → leb (4 * ones 64 m) long ≡ b
        → ◌≡◌ {A = Result (Unit {0}) Refusal} (result_and r (cond b (Ok tt) (Err refusal.TooFewBytes))) (Ok tt)
        → 4 * ones 64 m ≤ long
    go (Ok u) true q w = leb-true (4 * ones 64 m) long q
    go (Ok u) false q w = absurd (cc)
    go (Err why) b q w = absurd (cc)
