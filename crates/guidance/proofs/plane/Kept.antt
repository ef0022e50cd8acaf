-- A guide call keeps the configuration in force and the kept one: what `take_over` leaves is the guidance after it. Assumes nothing.
use Rattle.std.specs.Prelude.{Option, Float}
use mathlib.Core.Path.{◌≡◌, refl}
use mathlib.Core.Bool.{Bool, true, false, cond}
use lib.Ieee.{Float}
use Rattle.laws.specs.declared.types.FlightRegime.{FlightRegime}
use Rattle.laws.specs.declared.types.ControlInput.{ControlInput}
use Rattle.laws.specs.declared.types.ControlInput.TheVariants as Input
use Rattle.laws.specs.declared.types.VehicleState.{VehicleState}
use Rattle.guidance.specs.Plane.{cleared, taken_over, bad_time_step, bad_cap, all_finite, commanded, waypoint, obeyed, guided}
use Rattle.guidance.specs.declared.plane.PlaneGuidance.{PlaneGuidance}
use Rattle.guidance.specs.declared.plane.Guided.{Guided}

either : (g : PlaneGuidance) (b : Bool) (x y : Guided) → taken_over g x.guidance ≡ x.guidance → taken_over g y.guidance ≡ y.guidance
    → taken_over g (cond b x y).guidance ≡ (cond b x y).guidance
either g true x y p q = p
either g false x y p q = q

obeyed_keeps : (g : PlaneGuidance) (dt : Float) (r : FlightRegime) (k : ControlInput) (s : VehicleState) (cap : Option Float)
    → taken_over g (obeyed g dt r k s cap).guidance ≡ (obeyed g dt r k s cap).guidance
unfolding obeyed commanded cleared waypoint
obeyed_keeps g dt r (Input.Attitude k) s cap = refl
obeyed_keeps g dt r (Input.Rate k) s cap = refl
obeyed_keeps g dt r (Input.Waypoint w) s cap = either g (bad_cap cap) _ _ refl (either g (all_finite _) _ _ refl refl)
obeyed_keeps g dt r (Input.AbsoluteAttitude k) s cap = refl
obeyed_keeps g dt r Input.Land s cap = refl
obeyed_keeps g dt r (Input.AbsoluteRate k) s cap = refl

pub guided_keeps : (g : PlaneGuidance) (dt : Float) (r : FlightRegime) (k : ControlInput) (s : VehicleState) (cap : Option Float)
    → taken_over g (guided g dt r k s cap).guidance ≡ (guided g dt r k s cap).guidance
unfolding guided
guided_keeps g dt r k s cap = either g (bad_time_step dt) _ _ refl (obeyed_keeps g dt r k s cap)
