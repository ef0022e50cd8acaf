-- What is claimed of drawn paths beside the entry's contract.
use Rattle.std.specs.Prelude.{ℕ, suc, ◌+◌, ◌*◌, ◌≤◌, ◌≡◌, true, false, List, [], ◌∷◌, Float, Some, None, Ok, Err, length, take}
use Rattle.refusals.specs.declared.Refusal.{Refusal}
use Rattle.laws.specs.declared.types.ControlInput.TheVariants as Input
use Rattle.laws.specs.declared.types.Setpoint.TheVariants as Set
use Rattle.guidance.specs.Plane.{WaypointCall, guided}
use Rattle.guidance.specs.declared.plane.PlaneGuidance.{PlaneGuidance}
use Rattle.guidance.specs.declared.plane.WaypointAnswer.{WaypointAnswer}
use Rattle.guidance.specs.declared.plane.Answer.TheVariants.{Waypoint}
use Rattle.guidance.specs.declared.plane.Guided.{Guided}
use Rattle.path.specs.Model.{flown, finite_plane}
use Rattle.path.specs.Path.{path, start, stopped_here, put}
use Rattle.path.specs.declared.model.Model.{Model}
use Rattle.path.specs.declared.model.Stop.{Stop}
use Rattle.path.specs.declared.model.Stop.TheVariants.{Refused, NotFinite}

-- the guidance's own answer to the call
abbrev pub own_answer : PlaneGuidance → WaypointCall → Guided
own_answer g k = guided g k.dt k.regime (Input.Waypoint k.command) k.state k.cap

-- What is drawn starts from what is flown: the first step is the guidance's own answer to the call. Refused, nothing is drawn
-- and the path says so; otherwise the plane of the call's sensors flies the answered roll and pitch, and that is the first point.
-- Where a number of its position or velocity is not finite, nothing is drawn and the path says that, with no refusal.
pub record StartsAsFlown (g : PlaneGuidance) (k : WaypointCall) : Type 0 where
  pub refused : (n : ℕ) (why : Refusal) → (own_answer g k).answer ≡ Err why → path (suc n) k (start g k) ≡ stopped_here (Refused why)
  pub answered :
      (n : ℕ) (a : WaypointAnswer) (roll pitch thrust : Float) →
      (own_answer g k).answer ≡ Ok (Waypoint a) → a.setpoint ≡ Set.Plane roll pitch thrust →
      let plane = flown k.state k.dt roll pitch in
      finite_plane plane ≡ true →
      take 1 (path (suc n) k (start g k)).points ≡ plane.position_m ∷ []
  pub not_finite :
      (n : ℕ) (a : WaypointAnswer) (roll pitch thrust : Float) →
      (own_answer g k).answer ≡ Ok (Waypoint a) → a.setpoint ≡ Set.Plane roll pitch thrust →
      finite_plane (flown k.state k.dt roll pitch) ≡ false →
      path (suc n) k (start g k) ≡ stopped_here NotFinite

-- A path of n steps is the beginning of one of n + more steps.
pub record Begins (n more : ℕ) (k : WaypointCall) (m : Model) : Type 0 where
  pub points : (path n k m).points ≡ take n (path (n + more) k m).points
  -- one that stopped is the longer one
  pub stopped : (why : Stop) → (path n k m).stopped ≡ Some why → path (n + more) k m ≡ path n k m
  -- in the buffer: as far as the shorter path may reach, both have the same numbers
  pub numbers : (out : List Float) → take (3 * n) (put (path (n + more) k m).points out) ≡ take (3 * n) (put (path n k m).points out)

-- How many points: one a step, unless the path stopped.
pub record Counts (n : ℕ) (k : WaypointCall) (m : Model) : Type 0 where
  pub whole : (path n k m).stopped ≡ None → length (path n k m).points ≡ n
  pub stopped : (why : Stop) → (path n k m).stopped ≡ Some why → length (path n k m).points + 1 ≤ n
