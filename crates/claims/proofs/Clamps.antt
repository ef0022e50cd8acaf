-- The bounds of every clamp of a guide call are in order, along every run. Assumes nothing.
use Rattle.std.specs.Prelude.{Option, Float}
use Rattle.std.proofs.lemmas.Bool.{not-false}
use mathlib.Core.Path.{◌≡◌, refl}
use mathlib.Core.Bool.{Bool, true, false, cond, ◌&&◌}
use mathlib.Core.List.{List}
use lib.Ieee as Ieee
use lib.Ieee.{Float, neg, is_nan, le, lt}
use Rattle.arithmetic.specs.Constants.{◌-ᶠ◌, ◌·ᶠ◌, ◌/ᶠ◌, n0, n1, frac_pi4}
use Rattle.arithmetic.specs.Order.{greatest, finite}
use Rattle.arithmetic.proofs.Bounds.{AtLeastZero, between, and_left, and_right, left_number, finite_number, greatest_right, zero_between}
use Rattle.arithmetic.proofs.Sums.{sub_mono, neg_finite}
use Rattle.laws.specs.Config.{validate}
use Rattle.laws.specs.Math.{limit_or_zero}
use Rattle.laws.specs.Types.{gravity}
use Rattle.laws.specs.Tecs.{half, min_gain_airspeed, thrust_integral_margin, max_energy_rate, all_inputs_finite}
use Rattle.laws.proofs.Ordered.{limit_number}
use Rattle.laws.proofs.Validated.{valid_field}
use Rattle.laws.specs.declared.config.TecsConfig.{TecsConfig}
use Rattle.laws.specs.declared.config.PlaneGuidanceConfig.{PlaneGuidanceConfig}
use Rattle.laws.specs.declared.tecs.Inputs.{Inputs}
use Rattle.laws.specs.declared.types.WaypointCommand.{WaypointCommand}
use Rattle.laws.specs.declared.types.VehicleState.{VehicleState}
use Rattle.guidance.specs.Plane as Plane
use Rattle.guidance.specs.Plane.{top_thrust, limits_of, capped, bad_time_step, bad_cap}
use Rattle.claims.specs.Calls.{Call}
use Rattle.claims.specs.Clamps.{FixedBounds, EnergyBounds, FallbackBounds, WaypointBounds, ClampsOrdered}
use Rattle.claims.proofs.Spans.{
  Positive,
  is_positive,
  positive_least,
  positive_finite,
  at_least_zero_lem,
  greatest_positive,
  product_left,
  product_right,
  quotient,
  spans,
  apart,
  difference,
  less,
  widen,
}
use Rattle.claims.proofs.Limited.{Valid, valid, cap_finite, thrust_span, pitch_span, within_finite, zero_finite}
use Rattle.claims.proofs.Runs.{valid_along}

-- ---- constants
above_zero : (lt n0 gravity ≡ true) × (lt n0 half ≡ true) × (lt n0 min_gain_airspeed ≡ true) × (lt n0 thrust_integral_margin ≡ true)
unfolding Ieee.of_bits lt
above_zero = (refl, refl, refl, refl)

all_finite_lem : (finite gravity ≡ true) × (finite half ≡ true) × (finite min_gain_airspeed ≡ true) × (finite thrust_integral_margin ≡ true)
unfolding Ieee.of_bits finite
all_finite_lem = (refl, refl, refl, refl)

gravity_positive : Positive gravity
gravity_positive = is_positive gravity above_zero.0 all_finite_lem.0

half_positive : Positive half
half_positive = is_positive half above_zero.1 all_finite_lem.1

gain_positive : Positive min_gain_airspeed
gain_positive = is_positive min_gain_airspeed above_zero.2 all_finite_lem.2

margin_positive : Positive thrust_integral_margin
margin_positive = is_positive thrust_integral_margin above_zero.3 all_finite_lem.3

one_finite : finite n1 ≡ true
unfolding Ieee.of_bits finite
one_finite = refl

unit_ordered : (le n0 n1 ≡ true) × (le (neg n1) n1 ≡ true) × (le (neg frac_pi4) frac_pi4 ≡ true)
unfolding Ieee.of_bits le neg
unit_ordered = (refl, refl, refl)

fixed : FixedBounds
fixed = record {
  throttle = unit_ordered.0;
  symmetric = λ limit. zero_between (limit_or_zero limit) (limit_or_zero limit) (limit_number limit) (limit_number limit);
  ratio = unit_ordered.1;
  capture = unit_ordered.2;
}

-- ---- a valid configuration
positive_field : (x : Float) → lt n0 x && finite x ≡ true → Positive x
positive_field x e = is_positive x (and_left (lt n0 x) (finite x) e) (and_right (lt n0 x) (finite x) e)

either_finite : (b : Bool) (x y : Float) → finite x ≡ true → finite y ≡ true → finite (cond b x y) ≡ true
either_finite true x y p q = p
either_finite false x y p q = q

greatest_finite : (a b : Float) → finite a ≡ true → finite b ≡ true → finite (greatest a b) ≡ true
unfolding greatest
greatest_finite a b p q = either_finite (is_nan a) _ _ q (either_finite (is_nan b) _ _ p (either_finite (lt b a) _ _ p q))

module _ (c : PlaneGuidanceConfig) (e : validate c ≡ 0) (cap : Option Float) (q : bad_cap cap ≡ false) where
  v : Valid c
  v = valid c e

  t : TecsConfig
  t = c.tecs

  least_finite : finite c.min_thrust ≡ true
  least_finite = within_finite n0 _ n1 zero_finite one_finite (valid_field c e 31)

  most_finite : finite c.max_thrust ≡ true
  most_finite = within_finite n0 _ n1 zero_finite one_finite (valid_field c e 32)

  top_finite : finite (top_thrust c) ≡ true
  unfolding top_thrust
  top_finite = greatest_finite _ _ most_finite least_finite

  abbrev down : Float
  down = capped c.max_pitch_down_rad cap

  abbrev up : Float
  up = capped c.max_pitch_up_rad cap

  down_finite : finite (neg down) ≡ true
  down_finite = neg_finite down (cap_finite _ cap v.down_finite q)

  up_finite : finite up ≡ true
  up_finite = cap_finite _ cap v.up_finite q

  fallback_bounds : FallbackBounds c (limits_of c cap)
  unfolding limits_of
  fallback_bounds = record {
    correction =
        greatest_right (up -ᶠ c.trim_pitch_rad) (neg down -ᶠ c.trim_pitch_rad)
        (left_number _ (up -ᶠ c.trim_pitch_rad) (sub_mono (neg down) up c.trim_pitch_rad down_finite up_finite v.trim_finite (pitch_span c cap v q)));
    thrust = thrust_span c v;
  }

  module _ (inputs : Inputs) (dt-positive : Positive inputs.dt) (a : all_inputs_finite inputs ≡ true) where
    sink_least : AtLeastZero c.tecs.max_sink_mps
    sink_least = at_least_zero_lem _ (and_left (le n0 c.tecs.max_sink_mps) (finite c.tecs.max_sink_mps) (valid_field c e 18))

    climb_positive : Positive c.tecs.max_climb_mps
    climb_positive = positive_field _ (valid_field c e 16)

    climb_least : AtLeastZero c.tecs.max_climb_mps
    climb_least = positive_least climb_positive

    least_sink : AtLeastZero c.tecs.min_sink_mps
    least_sink = positive_least (positive_field _ (valid_field c e 17))

    window_positive : Positive (greatest c.tecs.time_constant_s c.tecs.height_demand_time_constant_s)
    window_positive =
        greatest_positive c.tecs.time_constant_s (positive_field _ (valid_field c e 28)) (positive_finite (positive_field _ (valid_field c e 15)))

    airspeed_finite : finite inputs.airspeed_mps ≡ true
    unfolding all_inputs_finite
    airspeed_finite =
        let h = finite inputs.altitude_m && finite inputs.airspeed_target_mps in
        and_right h (finite inputs.airspeed_mps)
        (and_left (h && finite inputs.airspeed_mps) (finite inputs.height_m) (and_left _ (finite inputs.climb_mps) a))

    height_finite : finite inputs.height_m ≡ true
    unfolding all_inputs_finite
    height_finite =
        and_right (finite inputs.altitude_m && finite inputs.airspeed_target_mps && finite inputs.airspeed_mps) (finite inputs.height_m)
        (and_left _ (finite inputs.climb_mps) a)

    rate_least : AtLeastZero (max_energy_rate c.tecs)
    rate_least = product_left gravity_positive climb_least

    accel_least : AtLeastZero (half ·ᶠ max_energy_rate c.tecs /ᶠ greatest inputs.airspeed_mps min_gain_airspeed)
    accel_least = quotient (product_left half_positive rate_least) (greatest_positive inputs.airspeed_mps gain_positive airspeed_finite)

    energy_bounds : EnergyBounds c.tecs (limits_of c cap) inputs
    unfolding limits_of
    energy_bounds = record {
      climb = between sink_least climb_least;
      airspeed = greatest_right _ _ (finite_number _ (positive_finite (positive_field c.tecs.min_airspeed_mps (valid_field c e 25))));
      rise = spans _ _ _ _ (product_right sink_least dt-positive) (product_right climb_least dt-positive);
      height = apart _ _ _ height_finite (product_left window_positive sink_least) (product_left window_positive climb_least);
      acceleration = spans _ _ _ _ (product_right accel_least dt-positive) (product_right accel_least dt-positive);
      balance_rate = spans _ _ _ _ (product_left gravity_positive sink_least) rate_least;
      total_rate = spans _ _ _ _ (product_left gravity_positive least_sink) rate_least;
      thrust = thrust_span c v;
      thrust_integral = λ p n. widen _ _ _ margin_positive (less _ _ p least_finite top_finite n (thrust_span c v));
      pitch_integral = difference (neg down) up down_finite up_finite (pitch_span c cap v q);
      pitch = pitch_span c cap v q;
    }

-- ---- a call that numbers 2 and 3 do not refuse
waypoint_bounds : (c : PlaneGuidanceConfig) → validate c ≡ 0 → (dt : Float) (w : WaypointCommand) (s : VehicleState) (cap : Option Float) →
    bad_time_step dt ≡ false → bad_cap cap ≡ false → WaypointBounds c dt w s cap
unfolding Plane.inputs
waypoint_bounds c e dt w s cap p q = record {
  energy = λ a. energy_bounds c e cap q (Plane.inputs dt w s) (positive_field dt (not-false (lt n0 dt && finite dt) p)) a;
  fallback = fallback_bounds c e cap q;
}

pub clamps_ordered : (c : PlaneGuidanceConfig) → validate c ≡ 0 → (calls : List Call) → ClampsOrdered c calls
clamps_ordered c e calls = record {
  fixed = fixed;
  waypoints = λ before rest dt regime w s cap at p q. waypoint_bounds _ (valid_along c e before) dt w s cap p q;
}
