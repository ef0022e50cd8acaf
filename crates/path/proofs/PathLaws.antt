-- The laws of drawn paths. Assumes nothing.
use Rattle.std.specs.Prelude.{Some, None, Result, Ok, Err}
use mathlib.Core.Path.{◌≡◌, refl, sym, ap, ◌∙◌}
use mathlib.Core.Bool.{true, false}
use mathlib.Core.List.{List, ◌∷◌, ◌++◌}
use Prim.Native.Nat.{ℕ, zero, suc, ◌+◌, ◌*◌, ◌≤◌}
use native.Mathlib.Omega.{arith}
use native.Mathlib.Nat.{suc-add}
use lib.Ieee.{Float}
use lib.ListN.{length, take, drop}
use Rattle.refusals.specs.declared.Refusal.{Refusal}
use Rattle.laws.specs.declared.types.Vec3.{Vec3}
use Rattle.laws.specs.declared.types.VehicleState.{VehicleState}
use Rattle.laws.specs.declared.types.Setpoint.TheVariants as Set
use Rattle.guidance.specs.Plane.{WaypointCall}
use Rattle.guidance.specs.declared.plane.PlaneGuidance.{PlaneGuidance}
use Rattle.guidance.specs.declared.plane.WaypointAnswer.{WaypointAnswer}
use Rattle.guidance.specs.declared.plane.Answer.{Answer}
use Rattle.guidance.specs.declared.plane.Answer.TheVariants.{Waypoint}
use Rattle.path.specs.Model.{step, by_answer, by_setpoint, flown, finite_plane, settled}
use Rattle.path.specs.Path.{Path, onward, next, path, start, put, numbers_of}
use Rattle.path.specs.Laws.{own_answer, StartsAsFlown, Begins, Counts}
use Rattle.path.specs.declared.model.Model.{Model}
use Rattle.path.specs.declared.model.Stop.{Stop}
use Rattle.path.specs.declared.model.Stop.TheVariants.{Refused, NotFinite}
use Rattle.path.proofs.Drawing.{moves, stops}

-- ---- the first step

step_is : (g : PlaneGuidance) (k : WaypointCall) (a : Result Answer Refusal) → (own_answer g k).answer ≡ a
    → by_answer k.state k.dt (own_answer g k).guidance a ≡ step k (start g k)
unfolding step
step_is g k a e = ap (by_answer k.state k.dt (own_answer g k).guidance) (sym e)

-- of a waypoint answered with this roll and pitch
first_is : (g : PlaneGuidance) (k : WaypointCall) (a : WaypointAnswer) (roll pitch thrust : Float) →
    (own_answer g k).answer ≡ Ok (Waypoint a) → a.setpoint ≡ Set.Plane roll pitch thrust
    → settled (own_answer g k).guidance (flown k.state k.dt roll pitch) ≡ step k (start g k)
first_is g k a roll pitch thrust e is = ap (by_setpoint k.state k.dt (own_answer g k).guidance) (sym is) ∙ step_is g k (Ok (Waypoint a)) e

settles : (g : PlaneGuidance) (s : VehicleState) → finite_plane s ≡ true → Ok (record { guidance = g; state = s }) ≡ settled g s
unfolding settled
settles g s h = rw h

stops_short : (g : PlaneGuidance) (s : VehicleState) → finite_plane s ≡ false → Err NotFinite ≡ settled g s
unfolding settled
stops_short g s h = rw h

pub starts_as_flown : (g : PlaneGuidance) (k : WaypointCall) → StartsAsFlown g k
starts_as_flown g k = record {
  refused = λ n why e. stops n k (start g k) (Refused why) (step_is g k (Err why) e);
  answered = λ n a roll pitch thrust e is h.
      let plane = flown k.state k.dt roll pitch in
      ap (λ (p : Path). take 1 p.points)
      (moves n k (start g k) (record { guidance = (own_answer g k).guidance; state = plane })
      (settles (own_answer g k).guidance plane h ∙ first_is g k a roll pitch thrust e is));
  not_finite = λ n a roll pitch thrust e is h.
      stops n k (start g k) NotFinite
      (stops_short (own_answer g k).guidance (flown k.state k.dt roll pitch) h ∙ first_is g k a roll pitch thrust e is);
}

-- ---- a path is the beginning of a longer one

begins_points : (n more : ℕ) (k : WaypointCall) (m : Model) → (path n k m).points ≡ take n (path (n + more) k m).points
unfolding path
begins_points zero more k m = refl
begins_points (suc n) more k m = rw (suc-add n more) (go (λ (m : Model). begins_points n more k m) (step k m))
  where
    go : ((m : Model) → (path n k m).points ≡ take n (path (n + more) k m).points)
        → (r : Result Model Stop) → (next r (path n k)).points ≡ take (suc n) (next r (path (n + more) k)).points
    go rest (Ok m) = ap (λ (ps : List Vec3). m.state.position_m ∷ ps) (rest m)
    go rest (Err why) = refl

begins_stopped : (n more : ℕ) (k : WaypointCall) (m : Model) (why : Stop) → (path n k m).stopped ≡ Some why → path (n + more) k m ≡ path n k m
unfolding path
begins_stopped zero more k m why h = cc
begins_stopped (suc n) more k m why h = rw (suc-add n more) (go (λ (m : Model). begins_stopped n more k m why) (step k m) h)
  where
    go : ((m : Model) → (path n k m).stopped ≡ Some why → path (n + more) k m ≡ path n k m)
        → (r : Result Model Stop) → (next r (path n k)).stopped ≡ Some why → next r (path (n + more) k) ≡ next r (path n k)
    go rest (Ok m) h = ap (onward m.state.position_m) (rest m h)
    go rest (Err w) h = refl

-- the first numbers of a buffer, point by point
take_next : (n : ℕ) (p : Vec3) (ps : List Vec3) (out : List Float) →
    take (3 * suc n) (put (p ∷ ps) out) ≡ numbers_of p ++ take (3 * n) (put ps (drop 3 out))
unfolding put
take_next n p ps out = let e : 3 * suc n ≡ suc (suc (suc (3 * n))) = omega arith in rw e refl

begins_numbers : (n more : ℕ) (k : WaypointCall) (m : Model) (out : List Float) →
    take (3 * n) (put (path (n + more) k m).points out) ≡ take (3 * n) (put (path n k m).points out)
unfolding path
begins_numbers zero more k m out = refl
begins_numbers (suc n) more k m out = rw (suc-add n more) (go (λ (m : Model). begins_numbers n more k m (drop 3 out)) (step k m))
  where
    go : ((m : Model) → take (3 * n) (put (path (n + more) k m).points (drop 3 out)) ≡ take (3 * n) (put (path n k m).points (drop 3 out)))
        → (r : Result Model Stop) → take (3 * suc n) (put (next r (path (n + more) k)).points out) ≡ take (3 * suc n) (put (next r (path n k)).points out)
    go rest (Ok m) =
        let p = m.state.position_m in
        take_next n p (path (n + more) k m).points out
        ∙ ap (λ (l : List Float). numbers_of p ++ l) (rest m)
        ∙ sym (take_next n p (path n k m).points out)
    go rest (Err why) = refl

pub begins : (n more : ℕ) (k : WaypointCall) (m : Model) → Begins n more k m
begins n more k m = record { points = begins_points n more k m; stopped = begins_stopped n more k m; numbers = begins_numbers n more k m }

-- ---- how many points

count_whole : (n : ℕ) (k : WaypointCall) (m : Model) → (path n k m).stopped ≡ None → length (path n k m).points ≡ n
unfolding path
count_whole zero k m h = refl
count_whole (suc n) k m h = go (λ (m : Model). count_whole n k m) (step k m) h
  where
    go : ((m : Model) → (path n k m).stopped ≡ None → length (path n k m).points ≡ n)
        → (r : Result Model Stop) → (next r (path n k)).stopped ≡ None → length (next r (path n k)).points ≡ suc n
    go rest (Ok m) h = ap suc (rest m h)
    go rest (Err why) h = cc

count_stopped : (n : ℕ) (k : WaypointCall) (m : Model) (why : Stop) → (path n k m).stopped ≡ Some why → length (path n k m).points + 1 ≤ n
unfolding path
count_stopped zero k m why h = cc
count_stopped (suc n) k m why h = go (λ (m : Model). count_stopped n k m why) (step k m) h
  where
    go : ((m : Model) → (path n k m).stopped ≡ Some why → length (path n k m).points + 1 ≤ n)
        → (r : Result Model Stop) → (next r (path n k)).stopped ≡ Some why → length (next r (path n k)).points + 1 ≤ suc n
    go rest (Ok m) h = let e = rest m h in omega arith
    go rest (Err w) h = omega arith

pub counts : (n : ℕ) (k : WaypointCall) (m : Model) → Counts n k m
counts n k m = record { whole = count_whole n k m; stopped = count_stopped n k m }
