-- What the constants' bits stand for: a decimal constant is its nearest f32, an angle of n degrees the one product n · DEG of the Rust's
-- `Default`, with DEG = PI / 180. Definitions only.
use Rattle.std.specs.Prelude.{ℕ, List, [], ◌∷◌, Float}
use Rattle.arithmetic.specs.Constants.{◌·ᶠ◌, ◌/ᶠ◌, pi, frac_pi4}
use Rattle.arithmetic.specs.Table.{Case, ◌is◌, bits}
use Rattle.arithmetic.specs.Values.{nearest}
use Rattle.laws.specs.Types.{gravity}
use Rattle.laws.specs.Config.{tecs_default, default}
use Rattle.laws.specs.Navigation.{n4, least_leg, least_offset, max_capture}
use Rattle.laws.specs.Tecs.{half, min_gain_airspeed, min_cos2_bank, thrust_integral_margin}

-- n degrees in radians
abbrev degrees : ℕ → Float
degrees n = nearest n 1 ·ᶠ (pi /ᶠ nearest 180 1)

abbrev pub table : List Case
table =
    (bits gravity is bits (nearest 980665 100000)) ∷
    (bits n4 is bits (nearest 4 1)) ∷
    (bits least_leg is bits (nearest 1 1000000)) ∷
    (bits least_offset is bits (nearest 1 1000)) ∷
    (bits max_capture is bits frac_pi4) ∷
    (bits half is bits (nearest 5 10)) ∷
    (bits min_gain_airspeed is bits (nearest 3 1)) ∷
    (bits min_cos2_bank is bits (nearest 1 10)) ∷
    (bits thrust_integral_margin is bits (nearest 1 10)) ∷
    -- the configuration's Default values, in the order of `validate`
    (bits default.max_bank_rad is bits (degrees 45)) ∷
    (bits default.max_pitch_up_rad is bits (degrees 20)) ∷
    (bits default.max_pitch_down_rad is bits (degrees 25)) ∷
    (bits default.max_rate_radps.x is bits (degrees 180)) ∷
    (bits default.max_rate_radps.y is bits (degrees 180)) ∷
    (bits default.max_rate_radps.z is bits (nearest 0 1)) ∷
    (bits default.trim_pitch_rad is bits (nearest 0 1)) ∷
    (bits default.cruise_thrust is bits (nearest 5 10)) ∷
    (bits default.l1_period_s is bits (nearest 12 1)) ∷
    (bits default.l1_damping is bits (nearest 75 100)) ∷
    (bits default.loiter_radius_m is bits (nearest 40 1)) ∷
    (bits default.altitude_p is bits (nearest 5 100)) ∷
    (bits default.altitude_i is bits (nearest 1 100)) ∷
    (bits default.altitude_max_integral is bits (nearest 20 1)) ∷
    (bits tecs_default.time_constant_s is bits (nearest 5 1)) ∷
    (bits tecs_default.max_climb_mps is bits (nearest 5 1)) ∷
    (bits tecs_default.min_sink_mps is bits (nearest 2 1)) ∷
    (bits tecs_default.max_sink_mps is bits (nearest 5 1)) ∷
    (bits tecs_default.thrust_damping is bits (nearest 5 10)) ∷
    (bits tecs_default.integrator_gain is bits (nearest 3 10)) ∷
    (bits tecs_default.pitch_damping is bits (nearest 3 10)) ∷
    (bits tecs_default.pitch_integrator_gain is bits (nearest 2 10)) ∷
    (bits tecs_default.speed_weight is bits (nearest 1 1)) ∷
    (bits tecs_default.roll_compensation is bits (nearest 10 1)) ∷
    (bits tecs_default.min_airspeed_mps is bits (nearest 10 1)) ∷
    (bits tecs_default.max_airspeed_mps is bits (nearest 25 1)) ∷
    (bits tecs_default.underspeed_share is bits (nearest 9 10)) ∷
    (bits tecs_default.height_demand_time_constant_s is bits (nearest 3 1)) ∷
    (bits tecs_default.airspeed_rate_time_constant_s is bits (nearest 5 10)) ∷
    (bits tecs_default.kinetic_rate_high_pass_s is bits (nearest 1 1)) ∷
    (bits default.min_thrust is bits (nearest 2 10)) ∷
    (bits default.max_thrust is bits (nearest 1 1)) ∷
    (bits default.climb_thrust_per_rad is bits (nearest 5 10)) ∷
    []
