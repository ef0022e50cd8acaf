-- A configuration as its 33 numbers, fields 1 to 33 in document 01's order. Definitions only.
use Rattle.std.specs.Prelude.{List, [], ◌∷◌, ℕ, ◌+◌, get_or, Float}
use Rattle.std.specs.Float.{nan}
use Rattle.laws.specs.declared.config.TecsConfig.{TecsConfig}
use Rattle.laws.specs.declared.config.PlaneGuidanceConfig.{PlaneGuidanceConfig}

-- the 33 numbers, fields 1 to 33
unfoldable pub numbers_of : PlaneGuidanceConfig → List Float
numbers_of c =
    c.max_bank_rad ∷
    c.max_pitch_up_rad ∷
    c.max_pitch_down_rad ∷
    c.max_rate_radps.x ∷
    c.max_rate_radps.y ∷
    c.max_rate_radps.z ∷
    c.trim_pitch_rad ∷
    c.cruise_thrust ∷
    c.l1_period_s ∷
    c.l1_damping ∷
    c.loiter_radius_m ∷
    c.altitude_p ∷
    c.altitude_i ∷
    c.altitude_max_integral ∷
    c.tecs.time_constant_s ∷
    c.tecs.max_climb_mps ∷
    c.tecs.min_sink_mps ∷
    c.tecs.max_sink_mps ∷
    c.tecs.thrust_damping ∷
    c.tecs.integrator_gain ∷
    c.tecs.pitch_damping ∷
    c.tecs.pitch_integrator_gain ∷
    c.tecs.speed_weight ∷
    c.tecs.roll_compensation ∷
    c.tecs.min_airspeed_mps ∷
    c.tecs.max_airspeed_mps ∷
    c.tecs.underspeed_share ∷
    c.tecs.height_demand_time_constant_s ∷
    c.tecs.airspeed_rate_time_constant_s ∷
    c.tecs.kinetic_rate_high_pass_s ∷
    c.min_thrust ∷
    c.max_thrust ∷
    c.climb_thrust_per_rad ∷
    []

-- the energy configuration, fields 15 to 30, of the 16 numbers from a place on
abbrev pub tecs_from : ℕ → List Float → TecsConfig
tecs_from at v = record {
  time_constant_s = get_or v (at + 0) nan;
  max_climb_mps = get_or v (at + 1) nan;
  min_sink_mps = get_or v (at + 2) nan;
  max_sink_mps = get_or v (at + 3) nan;
  thrust_damping = get_or v (at + 4) nan;
  integrator_gain = get_or v (at + 5) nan;
  pitch_damping = get_or v (at + 6) nan;
  pitch_integrator_gain = get_or v (at + 7) nan;
  speed_weight = get_or v (at + 8) nan;
  roll_compensation = get_or v (at + 9) nan;
  min_airspeed_mps = get_or v (at + 10) nan;
  max_airspeed_mps = get_or v (at + 11) nan;
  underspeed_share = get_or v (at + 12) nan;
  height_demand_time_constant_s = get_or v (at + 13) nan;
  airspeed_rate_time_constant_s = get_or v (at + 14) nan;
  kinetic_rate_high_pass_s = get_or v (at + 15) nan;
}

-- the configuration of 33 numbers
unfoldable pub config_of : List Float → PlaneGuidanceConfig
config_of v = record {
  max_bank_rad = get_or v 0 nan;
  max_pitch_up_rad = get_or v 1 nan;
  max_pitch_down_rad = get_or v 2 nan;
  max_rate_radps = record { x = get_or v 3 nan; y = get_or v 4 nan; z = get_or v 5 nan };
  trim_pitch_rad = get_or v 6 nan;
  cruise_thrust = get_or v 7 nan;
  l1_period_s = get_or v 8 nan;
  l1_damping = get_or v 9 nan;
  loiter_radius_m = get_or v 10 nan;
  altitude_p = get_or v 11 nan;
  altitude_i = get_or v 12 nan;
  altitude_max_integral = get_or v 13 nan;
  tecs = tecs_from 14 v;
  min_thrust = get_or v 30 nan;
  max_thrust = get_or v 31 nan;
  climb_thrust_per_rad = get_or v 32 nan;
}
