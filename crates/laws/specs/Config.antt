-- The configuration's 33 numbers: their tests in the order of `validate`, with the two pairs of document 02's K8 as fields 34
-- and 35, and their Default values. Definitions only.
use Rattle.std.specs.Prelude.{ℕ, suc, ◌≡◌, Bool, true, cond, not, ◌&&◌, eqb, List, [], ◌∷◌, ◌++◌, Result, Ok, Err, Float}
use Rattle.std.specs.Float.Ieee as Ieee
use Rattle.std.specs.Float.Ieee.{neg}
use Rattle.arithmetic.specs.Constants.{f32, n0, n1, n2, frac_pi2}
use Rattle.arithmetic.specs.Order.{finite}
use Rattle.laws.specs.declared.config.TecsConfig.{TecsConfig}
use Rattle.laws.specs.declared.config.PlaneGuidanceConfig.{PlaneGuidanceConfig}
use Rattle.laws.specs.declared.config.InvalidConfig.{InvalidConfig}

-- ---- one field's test

-- non-negative and finite
abbrev pub check_limit : Float → Bool
check_limit x = Ieee.le n0 x && finite x

-- positive and finite
abbrev pub check_positive : Float → Bool
check_positive x = Ieee.lt n0 x && finite x

-- from low to high, both included
abbrev pub within : Float → Float → Float → Bool
within low x high = Ieee.le low x && Ieee.le x high

-- from 0, not included, to 1
abbrev pub check_share : Float → Bool
check_share x = Ieee.lt n0 x && Ieee.le x n1

-- a least value not above its greatest; equal ones pass, and zeros of two signs are equal
abbrev pub ordered : Float → Float → Bool
ordered least greatest = not (Ieee.lt greatest least)

-- ---- all of them, in the order in which they are checked and numbered

-- fields 1 to 14
abbrev pub first_tests : PlaneGuidanceConfig → List Bool
first_tests c =
    within n0 c.max_bank_rad frac_pi2 ∷  -- 1
    within n0 c.max_pitch_up_rad frac_pi2 ∷  -- 2
    within n0 c.max_pitch_down_rad frac_pi2 ∷  -- 3
    check_limit c.max_rate_radps.x ∷  -- 4
    check_limit c.max_rate_radps.y ∷  -- 5
    check_limit c.max_rate_radps.z ∷  -- 6
    within (neg frac_pi2) c.trim_pitch_rad frac_pi2 ∷  -- 7
    within n0 c.cruise_thrust n1 ∷  -- 8
    check_positive c.l1_period_s ∷  -- 9
    check_positive c.l1_damping ∷  -- 10
    check_positive c.loiter_radius_m ∷  -- 11
    check_limit c.altitude_p ∷  -- 12
    check_limit c.altitude_i ∷  -- 13
    check_limit c.altitude_max_integral ∷  -- 14
    []

-- fields 15 to 30
abbrev pub tecs_tests : TecsConfig → List Bool
tecs_tests t =
    check_positive t.time_constant_s ∷  -- 15
    check_positive t.max_climb_mps ∷  -- 16
    check_positive t.min_sink_mps ∷  -- 17
    check_limit t.max_sink_mps ∷  -- 18
    check_limit t.thrust_damping ∷  -- 19
    check_limit t.integrator_gain ∷  -- 20
    check_limit t.pitch_damping ∷  -- 21
    check_limit t.pitch_integrator_gain ∷  -- 22
    within n0 t.speed_weight n2 ∷  -- 23
    check_limit t.roll_compensation ∷  -- 24
    check_positive t.min_airspeed_mps ∷  -- 25
    check_positive t.max_airspeed_mps ∷  -- 26
    check_share t.underspeed_share ∷  -- 27
    check_positive t.height_demand_time_constant_s ∷  -- 28
    check_positive t.airspeed_rate_time_constant_s ∷  -- 29
    check_positive t.kinetic_rate_high_pass_s ∷  -- 30
    []

-- fields 31 to 33; then document 02's K8: a least airspeed above the greatest is field 34, a least thrust above the greatest 35
abbrev pub last_tests : PlaneGuidanceConfig → List Bool
last_tests c =
    within n0 c.min_thrust n1 ∷  -- 31
    within n0 c.max_thrust n1 ∷  -- 32
    check_limit c.climb_thrust_per_rad ∷  -- 33
    ordered c.tecs.min_airspeed_mps c.tecs.max_airspeed_mps ∷  -- 34
    ordered c.min_thrust c.max_thrust ∷  -- 35
    []

abbrev pub config_tests : PlaneGuidanceConfig → List Bool
config_tests c = first_tests c ++ (tecs_tests c.tecs ++ last_tests c)

-- the number of the first test that fails, counted from n, and `rest` where none does
unfoldable pub first_failing : ℕ → List Bool → ℕ → ℕ
first_failing n [] rest = rest
first_failing n (b ∷ bs) rest = cond b (first_failing (suc n) bs rest) n

-- TecsConfig::validate: 0, or the number of the first failing field, 15 to 30.
unfoldable pub tecs_validate : TecsConfig → ℕ
tecs_validate t = first_failing 15 (tecs_tests t) 0

-- PlaneGuidanceConfig::validate, and after it the two pairs, which the Rust lets pass crossed (document 02, K8): 0, or the number
-- of the first failing field, 1 to 35.
unfoldable pub validate : PlaneGuidanceConfig → ℕ
validate c = first_failing 1 (config_tests c) 0

-- ---- the answers

-- Ok where the test passes, and else the field's number
abbrev pub checked : ℕ → Bool → Result (Unit {0}) InvalidConfig
checked n passes = cond passes (Ok tt) (Err (record { field = n }))

-- Ok for 0, and else that field
abbrev pub verdict : ℕ → Result (Unit {0}) InvalidConfig
verdict n = checked n (eqb n 0)

unfoldable pub tecs_judged : TecsConfig → Result (Unit {0}) InvalidConfig
tecs_judged t = verdict (tecs_validate t)

unfoldable pub judged : PlaneGuidanceConfig → Result (Unit {0}) InvalidConfig
judged c = verdict (validate c)

-- K8: least airspeed and least thrust are numbers, and neither is above its greatest.
pub record OrderedPairs (c : PlaneGuidanceConfig) : Type 0 where
  pub airspeed : Ieee.le c.tecs.min_airspeed_mps c.tecs.max_airspeed_mps ≡ true
  pub thrust : Ieee.le c.min_thrust c.max_thrust ≡ true

-- ---- Default values

unfoldable pub tecs_default : TecsConfig
tecs_default = record {
  time_constant_s = f32 0x40a00000;  -- 5
  max_climb_mps = f32 0x40a00000;  -- 5
  min_sink_mps = f32 0x40000000;  -- 2
  max_sink_mps = f32 0x40a00000;  -- 5
  thrust_damping = f32 0x3f000000;  -- 0.5
  integrator_gain = f32 0x3e99999a;  -- 0.3
  pitch_damping = f32 0x3e99999a;  -- 0.3
  pitch_integrator_gain = f32 0x3e4ccccd;  -- 0.2
  speed_weight = f32 0x3f800000;  -- 1
  roll_compensation = f32 0x41200000;  -- 10
  min_airspeed_mps = f32 0x41200000;  -- 10
  max_airspeed_mps = f32 0x41c80000;  -- 25
  underspeed_share = f32 0x3f666666;  -- 0.9
  height_demand_time_constant_s = f32 0x40400000;  -- 3
  airspeed_rate_time_constant_s = f32 0x3f000000;  -- 0.5
  kinetic_rate_high_pass_s = f32 0x3f800000;  -- 1
}

-- An angle of n degrees is the one product n · DEG, with DEG = PI / 180.
unfoldable pub default : PlaneGuidanceConfig
default = record {
  max_bank_rad = f32 0x3f490fdb;  -- 45 degrees
  max_pitch_up_rad = f32 0x3eb2b8c2;  -- 20 degrees
  max_pitch_down_rad = f32 0x3edf66f3;  -- 25 degrees
  max_rate_radps = record {
    x = f32 0x40490fdb;  -- 180 degrees
    y = f32 0x40490fdb;  -- 180 degrees
    z = f32 0x00000000;  -- 0
  };
  trim_pitch_rad = f32 0x00000000;  -- 0
  cruise_thrust = f32 0x3f000000;  -- 0.5
  l1_period_s = f32 0x41400000;  -- 12
  l1_damping = f32 0x3f400000;  -- 0.75
  loiter_radius_m = f32 0x42200000;  -- 40
  altitude_p = f32 0x3d4ccccd;  -- 0.05
  altitude_i = f32 0x3c23d70a;  -- 0.01
  altitude_max_integral = f32 0x41a00000;  -- 20
  tecs = tecs_default;
  min_thrust = f32 0x3e4ccccd;  -- 0.2
  max_thrust = f32 0x3f800000;  -- 1
  climb_thrust_per_rad = f32 0x3f000000;  -- 0.5
}
