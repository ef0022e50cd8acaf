-- The starred cases of document 01's "Both shores", the fixed cases of its "Tempting here" that lie in these laws, and the cases of
-- document 02's K8: one table, the values compared as bits. A case more is a line more. Definitions only.
use Rattle.std.specs.Prelude.{ℕ, List, [], ◌∷◌, Float}
use Rattle.std.specs.Float.{nan, binary32}
use Rattle.arithmetic.specs.Constants.{f32}
use Rattle.arithmetic.specs.Table.{Case, ◌is◌, bits}
use Rattle.arithmetic.specs.Order.{least}
use Rattle.arithmetic.specs.Root.{root_of}
use Rattle.arithmetic.specs.Trigonometry.{cosine, arctangent2}
use Rattle.laws.specs.Math.{clamp_symmetric, saturate_unit, lagged}
use Rattle.laws.specs.Config.{tecs_default, default, validate}
use Rattle.laws.specs.Navigation.{pi_step}
use Rattle.laws.specs.Tecs.{update_underspeed, turn_rate, reset, hold}
use Rattle.laws.specs.declared.config.TecsConfig.{TecsConfig}
use Rattle.laws.specs.declared.config.PlaneGuidanceConfig.{PlaneGuidanceConfig}
use Rattle.laws.specs.declared.navigation.PiResult.{PiResult}

-- ---- numbers

abbrev quarter : Float
quarter = f32 0x3e800000  -- 0.25

abbrev half : Float
half = f32 0x3f000000  -- 0.5

abbrev one : Float
one = f32 0x3f800000  -- 1

abbrev two : Float
two = f32 0x40000000  -- 2

abbrev four : Float
four = f32 0x40800000  -- 4

abbrev eight : Float
eight = f32 0x41000000  -- 8

abbrev nine : Float
nine = f32 0x41100000  -- 9

abbrev ten : Float
ten = f32 0x41200000  -- 10

abbrev plus_zero : Float
plus_zero = f32 0x00000000

abbrev minus_zero : Float
minus_zero = f32 0x80000000

abbrev minus_one : Float
minus_one = f32 0xbf800000

-- ---- arguments

-- the default energy configuration with this speed_weight, min_airspeed_mps, max_airspeed_mps and underspeed_share
abbrev pub tecs_with : Float → Float → Float → Float → TecsConfig
tecs_with weight leastAirspeed greatestAirspeed share = record {
  time_constant_s = tecs_default.time_constant_s;
  max_climb_mps = tecs_default.max_climb_mps;
  min_sink_mps = tecs_default.min_sink_mps;
  max_sink_mps = tecs_default.max_sink_mps;
  thrust_damping = tecs_default.thrust_damping;
  integrator_gain = tecs_default.integrator_gain;
  pitch_damping = tecs_default.pitch_damping;
  pitch_integrator_gain = tecs_default.pitch_integrator_gain;
  speed_weight = weight;
  roll_compensation = tecs_default.roll_compensation;
  min_airspeed_mps = leastAirspeed;
  max_airspeed_mps = greatestAirspeed;
  underspeed_share = share;
  height_demand_time_constant_s = tecs_default.height_demand_time_constant_s;
  airspeed_rate_time_constant_s = tecs_default.airspeed_rate_time_constant_s;
  kinetic_rate_high_pass_s = tecs_default.kinetic_rate_high_pass_s;
}

-- the default configuration with this energy configuration, min_thrust and max_thrust
abbrev pub config_with : TecsConfig → Float → Float → PlaneGuidanceConfig
config_with t leastThrust greatestThrust = record {
  max_bank_rad = default.max_bank_rad;
  max_pitch_up_rad = default.max_pitch_up_rad;
  max_pitch_down_rad = default.max_pitch_down_rad;
  max_rate_radps = default.max_rate_radps;
  trim_pitch_rad = default.trim_pitch_rad;
  cruise_thrust = default.cruise_thrust;
  l1_period_s = default.l1_period_s;
  l1_damping = default.l1_damping;
  loiter_radius_m = default.loiter_radius_m;
  altitude_p = default.altitude_p;
  altitude_i = default.altitude_i;
  altitude_max_integral = default.altitude_max_integral;
  tecs = t;
  min_thrust = leastThrust;
  max_thrust = greatestThrust;
  climb_thrust_per_rad = default.climb_thrust_per_rad;
}

abbrev weighted : Float → PlaneGuidanceConfig
weighted weight = config_with (tecs_with weight ten (f32 0x41c80000) (f32 0x3f666666)) plus_zero one

abbrev shared : Float → PlaneGuidanceConfig
shared share = config_with (tecs_with one ten (f32 0x41c80000) share) plus_zero one

-- least and greatest airspeed, least and greatest thrust
abbrev limited : Float → Float → Float → Float → PlaneGuidanceConfig
limited leastAirspeed greatestAirspeed = config_with (tecs_with one leastAirspeed greatestAirspeed half)

-- share 0.5, least airspeed 10
abbrev underspeed : ℕ → Float → ℕ
underspeed was airspeed = update_underspeed was (tecs_with one ten (f32 0x41c80000) half) airspeed

-- dt 1, p 0.5, i 0.25, integral limit 10, limits ±1
abbrev pi : Float → Float → PiResult
pi integral error = pi_step (record { integral = integral }) one error half quarter ten minus_one one plus_zero

-- ---- the table

abbrev pub table : List Case
table =
    -- Root 4 is 2; root 2 is 3FB504F3; root -0 is -0. Cosine 0 is 1.
    (bits (root_of binary32 four) is 0x40000000) ∷
    (bits (root_of binary32 two) is 0x3fb504f3) ∷
    (bits (root_of binary32 minus_zero) is 0x80000000) ∷
    (bits (cosine plus_zero) is 0x3f800000) ∷
    -- Arctangent of (+0, -1) is PI, of (-0, -1) -PI.
    (bits (arctangent2 plus_zero minus_one) is 0x40490fdb) ∷
    (bits (arctangent2 minus_zero minus_one) is 0xc0490fdb) ∷
    -- Least(0.25, NaN) is 0.25. `clamp_symmetric` of NaN, 1 is NaN; `saturate_unit` of NaN is 0.
    (bits (least quarter nan) is 0x3e800000) ∷
    (bits (clamp_symmetric nan one) is 0x7fc00000) ∷
    (bits (saturate_unit nan) is 0x00000000) ∷
    -- Lag 0 to 8: dt 2, constant 4 gives 4; dt 9 gives 8.
    (bits (lagged plus_zero eight two four) is 0x40800000) ∷
    (bits (lagged plus_zero eight nine four) is 0x41000000) ∷
    -- PI: error 2 gives 1, integral 0; error 1 gives 0.75, integral 1.
    (bits (pi plus_zero two).output is 0x3f800000) ∷
    (bits (pi plus_zero two).pi.integral is 0x00000000) ∷
    (bits (pi plus_zero one).output is 0x3f400000) ∷
    (bits (pi plus_zero one).pi.integral is 0x3f800000) ∷
    -- Share 0.5, least airspeed 10: 4.9 sets underspeed, 5 and 9.9 hold it, 10 clears.
    (underspeed 0 (f32 0x409ccccd) is 1) ∷
    (underspeed 0 (f32 0x40a00000) is 0) ∷
    (underspeed 1 (f32 0x40a00000) is 1) ∷
    (underspeed 0 (f32 0x411e6666) is 0) ∷
    (underspeed 1 (f32 0x411e6666) is 1) ∷
    (underspeed 1 ten is 0) ∷
    -- speed_weight 2 passes, 2.25 fails field 23; share 1 passes, 0 fails field 27.
    (validate (weighted two) is 0) ∷
    (validate (weighted (f32 0x40100000)) is 23) ∷
    (validate (shared one) is 0) ∷
    (validate (shared plus_zero) is 27) ∷
    -- Tempting: for a NaN roll the floor 0.1 wins, so that roll_compensation 10 gives 90.
    (bits (turn_rate tecs_default nan) is 0x42b40000) ∷
    -- Tempting: a height error that is not finite keeps the altitude integral, and gives the fallback.
    (bits (pi eight nan).output is 0x00000000) ∷
    (bits (pi eight nan).pi.integral is 0x41000000) ∷
    -- Tempting: a hold's thrust is not clamped: cruise 0.5, from 0.75 to 1.
    (bits (hold reset (record {
      pitch_up_rad = one;
      pitch_down_rad = one;
      trim_pitch_rad = quarter;
      min_thrust = f32 0x3f400000;
      max_thrust = one;
      cruise_thrust = half;
    })).thrust is 0x3f000000) ∷
    -- K8: crossed airspeeds fail as field 34, crossed thrusts as 35, both crossed as 34; a failing field before them is named first.
    (validate (limited nine eight plus_zero one) is 34) ∷
    (validate (limited eight nine half quarter) is 35) ∷
    (validate (limited nine eight half quarter) is 34) ∷
    (validate (limited nine eight two quarter) is 31) ∷
    -- K8: equal ones pass, and zeros of two signs are equal.
    (validate (limited nine nine half half) is 0) ∷
    (validate (limited eight nine plus_zero minus_zero) is 0) ∷
    (validate (limited eight nine minus_zero plus_zero) is 0) ∷
    []
