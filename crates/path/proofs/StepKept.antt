-- A step keeps the configuration in force and the kept one, so that they need not be put back. Assumes nothing.
use Rattle.std.specs.Prelude.{Result, Ok, Err, Float, IfOk}
use mathlib.Core.Path.{◌≡◌, ap, subst, sym}
use mathlib.Core.Bool.{Bool, true, false, cond}
use lib.Ieee.{Float}
use Rattle.refusals.specs.declared.Refusal.{Refusal}
use Rattle.laws.specs.declared.types.Setpoint.{Setpoint}
use Rattle.laws.specs.declared.types.Setpoint.TheVariants as Set
use Rattle.laws.specs.declared.types.ControlInput.TheVariants as Input
use Rattle.laws.specs.declared.types.VehicleState.{VehicleState}
use Rattle.guidance.specs.Plane.{WaypointCall, taken_over}
use Rattle.guidance.proofs.plane.Kept.{guided_keeps}
use Rattle.guidance.specs.declared.plane.PlaneGuidance.{PlaneGuidance}
use Rattle.guidance.specs.declared.plane.Answer.{Answer}
use Rattle.guidance.specs.declared.plane.Answer.TheVariants.{Commanded, Waypoint}
use Rattle.path.specs.Model as spec
use Rattle.path.specs.declared.model.Model.{Model}
use Rattle.path.specs.declared.model.Stop.{Stop}
use Rattle.path.specs.declared.model.Stop.TheVariants.{NotFinite}

-- if the model moves, it keeps these configurations
abbrev Kept : PlaneGuidance → Result Model Stop → Type 0
Kept g r = IfOk r (λ (next : Model). taken_over g next.guidance ≡ next.guidance)

settled_keeps : (g h : PlaneGuidance) (s : VehicleState) → taken_over g h ≡ h → Kept g (spec.settled h s)
unfolding spec.settled
settled_keeps g h s k = go (spec.finite_plane s)
  where
    go : (b : Bool) → Kept g (cond b (Ok (record { guidance = h; state = s })) (Err NotFinite))
    go true = k
    go false = tt

by_setpoint_keeps : (g : PlaneGuidance) (s : VehicleState) (dt : Float) (h : PlaneGuidance) (p : Setpoint) → taken_over g h ≡ h → Kept g (spec.by_setpoint s dt h p)
by_setpoint_keeps g s dt h (Set.Plane roll pitch thrust) k = settled_keeps g h (spec.flown s dt roll pitch) k
by_setpoint_keeps g s dt h (Set.PlaneRate roll pitch yaw thrust) k = tt

by_answer_keeps : (g : PlaneGuidance) (s : VehicleState) (dt : Float) (h : PlaneGuidance) (a : Result Answer Refusal) → taken_over g h ≡ h → Kept g (spec.by_answer s dt h a)
by_answer_keeps g s dt h (Err why) k = tt
by_answer_keeps g s dt h (Ok (Commanded p)) k = by_setpoint_keeps g s dt h p k
by_answer_keeps g s dt h (Ok (Waypoint a)) k = by_setpoint_keeps g s dt h a.setpoint k

step_keeps : (k : WaypointCall) (m : Model) → Kept m.guidance (spec.step k m)
unfolding spec.step
step_keeps k m = by_answer_keeps m.guidance m.state k.dt _ _ (guided_keeps m.guidance k.dt k.regime (Input.Waypoint k.command) m.state k.cap)

-- the rest of a step, put into the model, makes the model after it
pub moved_in_place : (k : WaypointCall) (m next : Model) → Ok next ≡ spec.step k m
    → record { guidance = taken_over m.guidance next.guidance; state = next.state } ≡ spec.moved m (spec.step k m)
moved_in_place k m next e =
    rw (sym e) (ap (λ (g : PlaneGuidance). record { guidance = g; state = next.state }) (subst (Kept m.guidance) (sym e) (step_keeps k m)))
