-- What the contracts of `new` and `guide_capped` say beside their equations follows from these. Assumes nothing.
use Rattle.std.specs.Prelude.{Option, Result, Ok, Err, Float}
use mathlib.Core.Path.{◌≡◌, refl, ap, ◌∙◌}
use mathlib.Core.Bool.{Bool, true, false, cond, ◌&&◌}
use mathlib.Core.List.{List, [], ◌∷◌}
use Prim.Native.Nat.{ℕ}
use lib.Dec.{eqb}
use borrow.Author.Tests.{eqb-true}
use lib.Ieee.{Float}
use Rattle.arithmetic.proofs.Bounds.{never'}
use Rattle.laws.specs.Config.{check_positive, validate, judged}
use Rattle.laws.proofs.Validated.{valid_judged, failed_judged, field_judged}
use Rattle.laws.specs.declared.config.PlaneGuidanceConfig.{PlaneGuidanceConfig}
use Rattle.laws.specs.declared.types.ControlInput.{ControlInput}
use Rattle.laws.specs.declared.types.ControlInput.TheVariants as Input
use Rattle.laws.specs.declared.types.FlightRegime.{FlightRegime}
use Rattle.laws.specs.declared.types.VehicleState.{VehicleState}
use Rattle.laws.specs.declared.types.WaypointCommand.{WaypointCommand}
use Rattle.laws.specs.declared.types.Setpoint.{Setpoint}
use Rattle.guidance.specs.Plane.{
  is_waypoint,
  if_valid,
  fresh,
  created,
  commanded,
  waypoint,
  obeyed,
  guided,
  refusal,
  flown,
  steered,
  vertical_law,
  all_finite,
  bad_time_step,
  bad_cap,
  refusal_number,
  setpoint_values,
  answer_values,
}
use Rattle.guidance.specs.Promises.{created_field, Creates, would_give, would_be_finite, guide_number, accepted_values, Guides}
use Rattle.guidance.specs.declared.plane.PlaneGuidance.{PlaneGuidance}
use Rattle.laws.specs.declared.config.InvalidConfig.{InvalidConfig}
use Rattle.refusals.specs.Numbers.{number}
use Rattle.refusals.specs.declared.Refusal.{Refusal}
use Rattle.refusals.specs.declared.Refusal.TheVariants as reason
use Rattle.guidance.specs.declared.plane.Guided.{Guided}
use Rattle.guidance.specs.declared.plane.Vertical.{Vertical}
use Rattle.guidance.specs.declared.plane.Steered.{Steered}

-- ---- new and set_config

-- by what `validate` answered
pub accepted_config : (c : PlaneGuidanceConfig) (g : PlaneGuidance) → Ok tt ≡ judged c → Ok g ≡ if_valid c g
accepted_config c g h = rw (valid_judged c h)

pub refused_config : (c : PlaneGuidanceConfig) (g : PlaneGuidance) (e : InvalidConfig) → Err e ≡ judged c → Err e ≡ if_valid c g
refused_config c g e h = rw (failed_judged c e h, field_judged c e h)

field_of : (n : ℕ) (g : PlaneGuidance) (b : Bool) → eqb n 0 ≡ b → created_field (cond b (Ok g) (Err (record { field = n }))) ≡ n
field_of n g true e = let z = eqb-true n 0 e in rw z
field_of n g false e = refl

pub creates : (c : PlaneGuidanceConfig) (r : Result PlaneGuidance InvalidConfig) → r ≡ created c → Creates c r
unfolding created
creates c r e = record { is = e; number = ap created_field e ∙ field_of (validate c) (fresh c) (eqb (validate c) 0) refl }

-- ---- guide

-- what `Guides` says of an answer beside its equation, by the number n and an accepted call's values
record Tells (g : PlaneGuidance) (n : ℕ) (vs : List Float) (r : Guided) : Type 0 where
  number : refusal_number r.answer ≡ n
  values : answer_values r.answer ≡ cond (eqb n 0) vs []
  kept : eqb n 0 ≡ false → r.guidance ≡ g

refused : (g : PlaneGuidance) (why : Refusal) (vs : List Float) → eqb (number why) 0 ≡ false → Tells g (number why) vs (refusal g why)
refused g why vs h = record { number = refl; values = rw h; kept = λ e. refl }

accepted : (g : PlaneGuidance) (r : Guided) → refusal_number r.answer ≡ 0 → Tells g 0 (answer_values r.answer) r
accepted g r h = record { number = h; values = refl; kept = λ e. never' e }

commanded_tells : (g : PlaneGuidance) (regime : FlightRegime) (t : Setpoint) → Tells g 0 (setpoint_values t) (commanded g regime t)
unfolding commanded
commanded_tells g regime t = accepted g (commanded g regime t) refl

waypoint_tells : (g : PlaneGuidance) (dt : Float) (regime : FlightRegime) (w : WaypointCommand) (s : VehicleState) (cap : Option Float) →
    Tells g (cond (bad_cap cap) 3 (cond (all_finite (would_give g dt w s cap)) 0 4)) (accepted_values g dt (Input.Waypoint w) s cap)
    (waypoint g dt regime w s cap)
unfolding waypoint
waypoint_tells g dt regime w s cap = go (bad_cap cap) (all_finite v)
  where
    v : Vertical
    v = would_give g dt w s cap

    lateral : Steered
    lateral = steered g.config w s

    go : (b f : Bool) → Tells g (cond b 3 (cond f 0 4)) (lateral.roll_rad ∷ v.pitch_rad ∷ v.thrust ∷ lateral.cross_track_m ∷ [])
        (cond b (refusal g reason.PitchCap) (cond f (flown g regime lateral (vertical_law dt w s) v) (refusal g reason.NotFinite)))
    go true f = refused g reason.PitchCap _ refl
    go false true = accepted g (flown g regime lateral (vertical_law dt w s) v) refl
    go false false = refused g reason.NotFinite _ refl

obeyed_tells : (g : PlaneGuidance) (dt : Float) (regime : FlightRegime) (input : ControlInput) (s : VehicleState) (cap : Option Float) →
    Tells g (cond (is_waypoint input && bad_cap cap) 3 (cond (would_be_finite g dt input s cap) 0 4)) (accepted_values g dt input s cap)
    (obeyed g dt regime input s cap)
unfolding obeyed
obeyed_tells g dt regime (Input.Attitude k) s cap = commanded_tells g regime _
obeyed_tells g dt regime (Input.Rate k) s cap = commanded_tells g regime _
obeyed_tells g dt regime (Input.Waypoint w) s cap = waypoint_tells g dt regime w s cap
obeyed_tells g dt regime (Input.AbsoluteAttitude k) s cap = commanded_tells g regime _
obeyed_tells g dt regime Input.Land s cap = commanded_tells g regime _
obeyed_tells g dt regime (Input.AbsoluteRate k) s cap = commanded_tells g regime _

guided_tells : (g : PlaneGuidance) (dt : Float) (regime : FlightRegime) (input : ControlInput) (s : VehicleState) (cap : Option Float) →
    Tells g (guide_number g dt input s cap) (accepted_values g dt input s cap) (guided g dt regime input s cap)
unfolding guided
guided_tells g dt regime input s cap = go (bad_time_step dt)
  where
    n : ℕ
    n = cond (is_waypoint input && bad_cap cap) 3 (cond (would_be_finite g dt input s cap) 0 4)

    go : (b : Bool) → Tells g (cond b 2 n) (accepted_values g dt input s cap) (cond b (refusal g reason.TimeStep) (obeyed g dt regime input s cap))
    go true = refused g reason.TimeStep _ refl
    go false = obeyed_tells g dt regime input s cap

pub guides : (g : PlaneGuidance) (dt : Float) (regime : FlightRegime) (input : ControlInput) (s : VehicleState) (cap : Option Float) (r : Guided) →
    r ≡ guided g dt regime input s cap → Guides g dt regime input s cap r
guides g dt regime input s cap r e =
    let t = guided_tells g dt regime input s cap in
    record {
      is = e;
      number = ap (λ (o : Guided). refusal_number o.answer) e ∙ t.number;
      values = ap (λ (o : Guided). answer_values o.answer) e ∙ t.values;
      kept = λ h. ap (λ (o : Guided). o.guidance) e ∙ t.kept h;
    }

-- the two ways that the code takes
pub guides_obeyed : (g : PlaneGuidance) (dt : Float) (regime : FlightRegime) (input : ControlInput) (s : VehicleState) (cap : Option Float) (r : Guided) →
    check_positive dt ≡ true → r ≡ obeyed g dt regime input s cap → Guides g dt regime input s cap r
unfolding guided
guides_obeyed g dt regime input s cap r h e = guides g dt regime input s cap r (rw h e)
