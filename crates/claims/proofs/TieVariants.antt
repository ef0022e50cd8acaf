-- What K5's claim names: ties on a leg and on a loiter's tangent where the roll is to the right, and for each thing that leaves it a
-- zero a valid configuration and a tie where that thing alone holds, by computation. Assumes nothing.
use Rattle.std.specs.Prelude.{Option, Some, None, Float}
use mathlib.Core.Path.{◌≡◌, refl}
use mathlib.Core.Bool.{Bool, true, false, not}
use mathlib.Core.List.{List, [], ◌∷◌}
use lib.Ieee.{Float, nan, inf, is_nan, neg, of_bits, lt, le, eq, add, sub, mul, div}
use Rattle.arithmetic.specs.Constants.{f32, ◌/ᶠ◌, n0, n1}
use Rattle.arithmetic.specs.Order.{clamp, finite, size}
use Rattle.arithmetic.specs.Root.{root_of}
use Rattle.arithmetic.specs.Trigonometry.{sine, arctangent, arctangent_of_size, part, series, arcsine}
use Rattle.arithmetic.specs.Vector.{norm, dot, cross, normalise}
use Rattle.arithmetic.specs.declared.vector.Vec2.{Vec2}
use Rattle.laws.specs.Config.{tecs_default, default, first_failing, validate}
use Rattle.laws.specs.Math.{limit_or_zero, clamp_symmetric, all_finite}
use Rattle.laws.specs.Types.{gravity}
use Rattle.laws.specs.Navigation.{no_course, l1, capture, course, track_along, track_by, track_accel, finite_leg, lateral_accel, bank_for_accel}
use Rattle.laws.specs.declared.config.PlaneGuidanceConfig.{PlaneGuidanceConfig}
use Rattle.laws.specs.declared.types.WaypointCommand.{WaypointCommand}
use Rattle.laws.specs.declared.types.VehicleState.{VehicleState}
use Rattle.guidance.specs.Plane.{roll_of}
use Rattle.claims.specs.StraightBack.{no_bank, capture_angle, quarter_turn, TieOnLeg, TieOnTangent}

-- the default configuration with this bank and this damping
abbrev with : Float → Float → PlaneGuidanceConfig
with bank damping = record {
  max_bank_rad = bank;
  max_pitch_up_rad = default.max_pitch_up_rad;
  max_pitch_down_rad = default.max_pitch_down_rad;
  max_rate_radps = default.max_rate_radps;
  trim_pitch_rad = default.trim_pitch_rad;
  cruise_thrust = default.cruise_thrust;
  l1_period_s = default.l1_period_s;
  l1_damping = damping;
  loiter_radius_m = default.loiter_radius_m;
  altitude_p = default.altitude_p;
  altitude_i = default.altitude_i;
  altitude_max_integral = default.altitude_max_integral;
  tecs = default.tecs;
  min_thrust = default.min_thrust;
  max_thrust = default.max_thrust;
  climb_thrust_per_rad = default.climb_thrust_per_rad;
}

abbrev usual : Float
usual = f32 0x3f400000  -- 0.75

abbrev bank45 : Float
bank45 = f32 0x3f490fdb  -- 45 degrees

-- at (north, 0), with this velocity over ground
abbrev flying : Float → Float → Float → VehicleState
flying north vn ve = record {
  position_m = record { x = north; y = n0; z = n0 };
  velocity_mps = record { x = vn; y = ve; z = n0 };
  roll_rad = n0;
  airspeed_mps = None;
}

-- to a point at (north, 0)
abbrev to : Float → Option Vec2 → WaypointCommand
to north leg = record { position_m = record { x = north; y = n0 }; velocity_mps = leg; altitude_m = n0; cruise_speed_mps = n0 }

-- north, and 16 m/s straight back
abbrev north : Vec2
north = record { x = n1; y = n0 }

abbrev back : Float → VehicleState
back at = flying at (f32 0xc1800000) n0

on_leg : (point at : Float) → TieOnLeg (to point (Some north)) (back at) north
unfolding finite_leg all_finite finite normalise norm dot cross root_of no_course is_nan of_bits lt le eq add sub mul div
on_leg point at = record { leg = north; present = refl; normalised = refl; under_way = refl; straight_back = refl }

-- whether the roll is above 0; then whether max_bank_rad is a zero, the capture angle NaN, the acceleration not finite, and a zero over gravity
abbrev told : PlaneGuidanceConfig → Float → Float → List Bool
told c point at =
    let w = to point (Some north) in
    let s = back at in
    lt n0 (roll_of c w s) ∷ no_bank c ∷ is_nan (capture_angle c w s north) ∷ not (finite (quarter_turn c s)) ∷ eq (quarter_turn c s /ᶠ gravity) n0 ∷ []

abbrev huge : Float
huge = f32 0x7e967699  -- 1e38

abbrev far : Float
far = f32 0x7f61b1e6  -- 3e38

abbrev tiny : Float
tiny = f32 0x0da24260  -- 1e-30

all_valid : (validate (with bank45 usual) ≡ 0) × (validate (with n0 usual) ≡ 0) × (validate (with bank45 huge) ≡ 0) × (validate (with bank45 tiny) ≡ 0)
unfolding validate first_failing default tecs_default finite of_bits lt le neg
all_valid = (refl, refl, refl, refl)

-- to the right; then max_bank_rad 0; a position that is NaN, one infinitely far north, and finite ones whose difference overflows; a
-- damping of 1e38, one of 1e-30
each_alone :
    (told (with bank45 usual) n0 n0 ≡ true ∷ false ∷ false ∷ false ∷ false ∷ [])
    × (told (with n0 usual) n0 n0 ≡ false ∷ true ∷ false ∷ false ∷ false ∷ [])
    × (told (with bank45 usual) n0 nan ≡ false ∷ false ∷ true ∷ false ∷ false ∷ [])
    × (told (with bank45 usual) n0 (inf false) ≡ false ∷ false ∷ true ∷ false ∷ false ∷ [])
    × (told (with bank45 usual) (neg far) far ≡ false ∷ false ∷ true ∷ false ∷ false ∷ [])
    × (told (with bank45 huge) n0 n0 ≡ false ∷ false ∷ false ∷ true ∷ false ∷ [])
    × (told (with bank45 tiny) n0 n0 ≡ false ∷ false ∷ false ∷ false ∷ true ∷ [])
unfolding roll_of lateral_accel finite_leg all_finite track_accel track_by track_along l1 capture course bank_for_accel clamp_symmetric limit_or_zero
    clamp sine arcsine arctangent arctangent_of_size part series size finite normalise norm dot cross root_of no_course default tecs_default
    is_nan of_bits lt le eq neg add sub mul div
each_alone = (refl, refl, refl, refl, refl, refl, refl)

-- 100 m north of a loiter's centre, 16 m/s west: its tangent leads east
on_tangent : TieOnTangent (to n0 None) (flying (f32 0x42c80000) n0 (f32 0xc1800000)) (record { x = neg n0; y = n1 })
unfolding finite_leg normalise norm dot cross root_of no_course is_nan neg of_bits lt le eq add sub mul div
on_tangent = record { outward = north; no_leg = refl; off_centre = refl; normalised = refl; under_way = refl; straight_back = refl }
