-- Document 02, K5: at a tie straight back the angle steered and the roll are to the right. Assumes nothing.
use Rattle.refusals.specs.declared.Refusal.{Refusal}
use Rattle.refusals.specs.declared.Refusal.TheVariants as reason
use Rattle.std.specs.Prelude.{Option, Float}
use mathlib.Core.Path.{◌≡◌, refl, sym, subst}
use mathlib.Core.Bool.{Bool, true, false, cond, not, ◌&&◌, ◌||◌}
use lib.Dec.{T}
use lib.Ieee.{Float, nan, binary32, fits, is_nan, neg, lt, le, of_bits, sub}
use Rattle.arithmetic.specs.Constants.{◌-ᶠ◌, ◌/ᶠ◌, n0, frac_pi2}
use Rattle.arithmetic.specs.Order.{clamp, finite}
use Rattle.arithmetic.specs.Vector.{cross}
use Rattle.arithmetic.specs.declared.vector.Vec2.{Vec2}
use Rattle.arithmetic.proofs.Bounds.{and_left, and_right, le_of_lt, nan_is, zero_or_above}
use Rattle.laws.specs.Config.{validate}
use Rattle.laws.specs.Math.{limit_or_zero, clamp_symmetric}
use Rattle.laws.specs.Types.{gravity}
use Rattle.laws.specs.Navigation.{difference, l1, capture, course, steered_rad, bank_for_accel, track_accel, loiter_accel, lateral_accel}
use Rattle.laws.specs.declared.config.PlaneGuidanceConfig.{PlaneGuidanceConfig}
use Rattle.laws.proofs.Validated.{valid_field}
use Rattle.laws.proofs.Bank.{bank_sign, bank_from_0, clamped_from_0, clamped_sign}
use Rattle.laws.proofs.StraightBack as Laws
use Rattle.laws.proofs.StraightBack.{leg_right, leg_from_0, tangent_right}
use Rattle.laws.specs.declared.types.ControlInput.TheVariants as Input
use Rattle.laws.specs.declared.types.WaypointCommand.{WaypointCommand}
use Rattle.laws.specs.declared.types.FlightRegime.{FlightRegime}
use Rattle.laws.specs.declared.types.VehicleState.{VehicleState}
use Rattle.guidance.specs.Plane.{roll_of, refusal, bad_time_step, bad_cap, all_finite, vertical, vertical_law, waypoint, obeyed, guided}
use Rattle.guidance.specs.declared.plane.PlaneGuidance.{PlaneGuidance}
use Rattle.guidance.specs.declared.plane.Guided.{Guided}
use Rattle.claims.specs.StraightBack.{position, velocity, no_bank, no_turn, TieOnLeg, TieOnTangent, TurnsRight, AnswerTurnsRight}
use Rattle.claims.specs.StraightBack.{SteersRight, RollsRight, LegTurnsRight, TangentTurnsRight}

-- ---- the angle steered

no_angle : (x : Float) → clamp_symmetric (neg nan -ᶠ x) frac_pi2 ≡ nan
unfolding clamp_symmetric limit_or_zero clamp neg sub lt le of_bits
no_angle x = refl

pub steers_right : SteersRight
steers_right position velocity point direction distance straight = go (is_nan captured) refl
  where
    captured : Float
    captured = capture (cross direction (difference position point)) distance

    go : (b : Bool) → is_nan captured ≡ b → steered_rad position velocity point direction distance ≡ cond b nan frac_pi2
    go true h = rw (nan_is captured h) (no_angle (course direction velocity))
    go false h = Laws.steers_right position velocity point direction distance straight h

-- ---- the roll

neither : (a b : Bool) → not a && not b ≡ not (a || b)
neither true b = refl
neither false b = refl

or_false : (a : Bool) → a || false ≡ a
or_false true = refl
or_false false = refl

module _ (c : PlaneGuidanceConfig) (v : validate c ≡ 0) where
  damping_above : lt n0 c.l1_damping ≡ true
  damping_above = and_left (lt n0 c.l1_damping) (finite c.l1_damping) (valid_field c v 10)

  period_above : lt n0 c.l1_period_s ≡ true
  period_above = and_left (lt n0 c.l1_period_s) (finite c.l1_period_s) (valid_field c v 9)

  radius_above : lt n0 c.loiter_radius_m ≡ true
  radius_above = and_left (lt n0 c.loiter_radius_m) (finite c.loiter_radius_m) (valid_field c v 11)

  radius_finite : finite c.loiter_radius_m ≡ true
  radius_finite = and_right (lt n0 c.loiter_radius_m) (finite c.loiter_radius_m) (valid_field c v 11)

  bank_limit : le n0 c.max_bank_rad ≡ true
  bank_limit = and_left (le n0 c.max_bank_rad) _ (valid_field c v 1)

  -- the roll of an acceleration that over gravity is not below 0
  turns : (a : Float) (none : Bool) → le n0 (a /ᶠ gravity) ≡ true → lt n0 (a /ᶠ gravity) ≡ not none →
      TurnsRight (clamp_symmetric (bank_for_accel a) c.max_bank_rad) (no_bank c || none)
  turns a none p q = record {
    never_left = clamped_from_0 (bank_for_accel a) c.max_bank_rad (bank_from_0 a p) bank_limit;
    right =
        rw (clamped_sign (bank_for_accel a) c.max_bank_rad (bank_from_0 a p) bank_limit, zero_or_above c.max_bank_rad bank_limit, bank_sign a p, q)
        (neither (no_bank c) none);
  }

-- the setpoint of an accepted call has this roll
record RightBy (none : Bool) (o : Guided) : Type 0 where
  is : AnswerTurnsRight o.answer none

either : (none b : Bool) {x y : Guided} → RightBy none x → RightBy none y → RightBy none (cond b x y)
either none true p q = p
either none false p q = q

refused : (none : Bool) (g : PlaneGuidance) (why : Refusal) → RightBy none (refusal g why)
refused none g why = record { is = tt }

answered : (g : PlaneGuidance) (dt : Float) (regime : FlightRegime) (w : WaypointCommand) (s : VehicleState) (cap : Option Float) (none : Bool) →
    TurnsRight (roll_of g.config w s) none → RightBy none (guided g dt regime (Input.Waypoint w) s cap)
unfolding guided obeyed waypoint
answered g dt regime w s cap none t =
    either none (bad_time_step dt) (refused none g reason.TimeStep)
    (either none (bad_cap cap) (refused none g reason.PitchCap)
    (either none (all_finite (vertical (vertical_law dt w s) g.config g.altitude g.tecs dt w s cap)) (record { is = t }) (refused none g reason.NotFinite)))

rolls : (c : PlaneGuidanceConfig) (w : WaypointCommand) (s : VehicleState) (none : Bool) → TurnsRight (roll_of c w s) none → RollsRight c w s none
rolls c w s none t = record {
  roll = t;
  answer = λ g dt regime cap e. (answered g dt regime w s cap none (subst (λ (k : PlaneGuidanceConfig). TurnsRight (roll_of k w s) none) (sym e) t)).is;
}

leg_roll :
    (c : PlaneGuidanceConfig) (w : WaypointCommand) (s : VehicleState) (direction : Vec2) → validate c ≡ 0 →
    TieOnLeg w s direction → TurnsRight (roll_of c w s) (no_bank c || no_turn c w s direction)
unfolding roll_of lateral_accel l1
leg_roll c w s direction v t =
    rw t.present
    (turns c v (track_accel (position s) (velocity s) w.position_m t.leg c.l1_period_s c.l1_damping).accel_mps2
    (no_turn c w s direction)
    (leg_from_0 (position s) (velocity s) w.position_m c.loiter_radius_m c.l1_period_s c.l1_damping (damping_above c v)
    (period_above c v) w.position_m t.leg direction t.normalised t.straight_back)
    (leg_right (position s) (velocity s) w.position_m c.loiter_radius_m c.l1_period_s c.l1_damping (damping_above c v)
    (period_above c v) w.position_m t.leg direction t.normalised t.under_way t.straight_back))

tangent_roll :
    (c : PlaneGuidanceConfig) (w : WaypointCommand) (s : VehicleState) (direction : Vec2) → validate c ≡ 0 →
    T (fits binary32 c.loiter_radius_m) → TieOnTangent w s direction → TurnsRight (roll_of c w s) (no_bank c)
unfolding roll_of lateral_accel
tangent_roll c w s direction v f t =
    rw t.no_leg
    (subst (TurnsRight _) (or_false (no_bank c))
    (turns c v (loiter_accel (position s) (velocity s) w.position_m c.loiter_radius_m c.l1_period_s c.l1_damping).accel_mps2 false
    (le_of_lt n0 _ above) above))
  where
    above :
        lt n0 ((loiter_accel (position s) (velocity s) w.position_m c.loiter_radius_m c.l1_period_s c.l1_damping).accel_mps2 /ᶠ gravity)
        ≡ true
    above =
        tangent_right (position s) (velocity s) w.position_m c.loiter_radius_m c.l1_period_s c.l1_damping (damping_above c v)
        (period_above c v) t.outward direction t.off_centre t.normalised t.under_way t.straight_back (radius_above c v)
        (radius_finite c v) f

pub leg_turns_right : LegTurnsRight
leg_turns_right c w s direction v t = rolls c w s _ (leg_roll c w s direction v t)

pub tangent_turns_right : TangentTurnsRight
tangent_turns_right c w s direction v f t = rolls c w s _ (tangent_roll c w s direction v f t)
