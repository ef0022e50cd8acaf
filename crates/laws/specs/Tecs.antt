-- Total energy control, tecs.rs: thrust sets the rate of the total energy, pitch the balance between height and
-- airspeed. Definitions only.
use Rattle.std.specs.Prelude.{ℕ, Bool, cond, not, ◌&&◌, ◌||◌, eqb, Float}
use Rattle.std.specs.Float.Ieee as Ieee
use Rattle.std.specs.Float.Ieee.{neg}
use Rattle.arithmetic.specs.Constants.{f32, ◌+ᶠ◌, ◌-ᶠ◌, ◌·ᶠ◌, ◌/ᶠ◌, n0, n1, n2}
use Rattle.arithmetic.specs.Order.{least, greatest, clamp, finite, choose}
use Rattle.arithmetic.specs.Trigonometry.{cosine}
use Rattle.laws.specs.Math.{clamp_symmetric, lagged}
use Rattle.laws.specs.Types.{gravity}
use Rattle.laws.specs.declared.config.TecsConfig.{TecsConfig}
use Rattle.laws.specs.declared.tecs.Demand.{Demand}
use Rattle.laws.specs.declared.tecs.Tecs.{Tecs}
use Rattle.laws.specs.declared.tecs.Limits.{Limits}
use Rattle.laws.specs.declared.tecs.Inputs.{Inputs}
use Rattle.laws.specs.declared.tecs.Energies.{Energies}
use Rattle.laws.specs.declared.tecs.Filter.{Filter}
use Rattle.laws.specs.declared.tecs.EnergiesResult.{EnergiesResult}
use Rattle.laws.specs.declared.tecs.ThrustResult.{ThrustResult}
use Rattle.laws.specs.declared.tecs.PitchResult.{PitchResult}
use Rattle.laws.specs.declared.tecs.TecsResult.{TecsResult}

-- ---- constants

abbrev pub half : Float
half = f32 0x3f000000  -- 0.5

-- below this airspeed the pitch terms stop growing
abbrev pub min_gain_airspeed : Float
min_gain_airspeed = f32 0x40400000  -- 3

-- the least squared cosine of the bank: NaN gives way to it
abbrev pub min_cos2_bank : Float
min_cos2_bank = f32 0x3dcccccd  -- 0.1

-- how far past a thrust limit the thrust integral may push
abbrev pub thrust_integral_margin : Float
thrust_integral_margin = f32 0x3dcccccd  -- 0.1

-- ---- the stored state

-- a stored flag stands where it is not 0
abbrev pub flag : ℕ → Bool
flag n = not (eqb n 0)

-- Tecs::default, what `new` makes and `reset` leaves: no demand yet, integrals 0, no underspeed
unfoldable pub reset : Tecs
reset = record {
  seeded = 0;
  demand = record { slewed_height_m = n0; height_m = n0; airspeed_mps = n0 };
  pitch_integral_rad = n0;
  thrust_integral = n0;
  underspeed = 0;
  filtered_airspeed_mps = n0;
  steady_accel_mps2 = n0;
}

-- Airspeed below share · least airspeed sets underspeed, at or above least airspeed clears it, any other keeps it.
unfoldable pub update_underspeed : ℕ → TecsConfig → Float → ℕ
update_underspeed was config airspeed =
    cond (Ieee.lt airspeed (config.underspeed_share ·ᶠ config.min_airspeed_mps)) 1
    (cond (Ieee.le config.min_airspeed_mps airspeed) 0
    was)

-- ---- the configuration's energy rates and airspeeds

-- at full thrust: the most that the height's rate demand asks
abbrev pub max_energy_rate : TecsConfig → Float
max_energy_rate config = gravity ·ᶠ config.max_climb_mps

-- at the largest sink
abbrev pub least_energy_rate : TecsConfig → Float
least_energy_rate config = neg gravity ·ᶠ config.max_sink_mps

-- at least thrust
abbrev pub min_sink_rate : TecsConfig → Float
min_sink_rate config = neg gravity ·ᶠ config.min_sink_mps

-- From least to greatest airspeed. No valid configuration has them crossed (document 02, K8); `greatest` stays as in the Rust, for
-- every configuration has an answer.
unfoldable pub clamp_airspeed : TecsConfig → Float → Float
clamp_airspeed config airspeed = clamp airspeed config.min_airspeed_mps (greatest config.max_airspeed_mps config.min_airspeed_mps)

-- ---- energies

-- the first step's demand: one lag of the plane's own climb ahead
unfoldable pub seed_demand : TecsConfig → Inputs → Demand
seed_demand config inputs =
    let entry = clamp inputs.climb_mps (neg config.max_sink_mps) config.max_climb_mps in
    record {
      slewed_height_m = inputs.height_m +ᶠ entry ·ᶠ config.height_demand_time_constant_s;
      height_m = inputs.height_m;
      airspeed_mps = clamp_airspeed config inputs.airspeed_mps;
    }

unfoldable pub previous_demand : Tecs → TecsConfig → Inputs → Demand
previous_demand s config inputs = cond (flag s.seeded) s.demand (seed_demand config inputs)

-- height: slewed at the climb and sink limits, and kept within one time constant's climb or sink of the plane
unfoldable pub slewed_height : Float → TecsConfig → Inputs → Float
slewed_height previous config inputs =
    let window = greatest config.time_constant_s config.height_demand_time_constant_s in
    let rise = clamp (inputs.altitude_m -ᶠ previous) (neg config.max_sink_mps ·ᶠ inputs.dt) (config.max_climb_mps ·ᶠ inputs.dt) in
    clamp (previous +ᶠ rise) (inputs.height_m -ᶠ window ·ᶠ config.max_sink_mps) (inputs.height_m +ᶠ window ·ᶠ config.max_climb_mps)

-- airspeed: slewed at half the climb's energy rate over the speed
unfoldable pub slewed_airspeed : Float → TecsConfig → Inputs → Float → Float
slewed_airspeed previous config inputs speed =
    let maxAccel = half ·ᶠ max_energy_rate config /ᶠ speed in
    previous +ᶠ clamp (clamp_airspeed config inputs.airspeed_target_mps -ᶠ previous) (neg maxAccel ·ᶠ inputs.dt) (maxAccel ·ᶠ inputs.dt)

unfoldable pub next_demand : Demand → TecsConfig → Inputs → Float → Demand
next_demand d config inputs speed =
    let slewed = slewed_height d.slewed_height_m config inputs in
    record {
      slewed_height_m = slewed;
      height_m = lagged d.height_m slewed inputs.dt config.height_demand_time_constant_s;
      airspeed_mps = slewed_airspeed d.airspeed_mps config inputs speed;
    }

-- the airspeed's rate: its gap to its own low-pass over the rate's time constant
abbrev pub accel_of : Float → TecsConfig → Inputs → Float
accel_of filtered config inputs = (inputs.airspeed_mps -ᶠ filtered) /ᶠ config.airspeed_rate_time_constant_s

unfoldable pub seed_filter : TecsConfig → Inputs → Filter
seed_filter config inputs = record {
  filtered_airspeed_mps = inputs.airspeed_mps;
  steady_accel_mps2 = accel_of inputs.airspeed_mps config inputs;
}

unfoldable pub previous_filter : Tecs → TecsConfig → Inputs → Filter
previous_filter s config inputs =
    cond (flag s.seeded)
    (record { filtered_airspeed_mps = s.filtered_airspeed_mps; steady_accel_mps2 = s.steady_accel_mps2 })
    (seed_filter config inputs)

unfoldable pub next_filter : Filter → TecsConfig → Inputs → Filter
next_filter filter config inputs = record {
  filtered_airspeed_mps = lagged filter.filtered_airspeed_mps inputs.airspeed_mps inputs.dt config.airspeed_rate_time_constant_s;
  steady_accel_mps2 =
      lagged filter.steady_accel_mps2 (accel_of filter.filtered_airspeed_mps config inputs) inputs.dt config.kinetic_rate_high_pass_s;
}

-- errors and rates, from the demand before and after the step and the filter before it
unfoldable pub energies_of : Demand → Demand → Filter → TecsConfig → Inputs → Float → Energies
energies_of previous next filter config inputs speed =
    let heightRate = (next.height_m -ᶠ previous.height_m) /ᶠ inputs.dt in
    let changingAccel = accel_of filter.filtered_airspeed_mps config inputs -ᶠ filter.steady_accel_mps2 in
    let potentialError = gravity ·ᶠ (next.height_m -ᶠ inputs.height_m) in
    let kineticError = half ·ᶠ (next.airspeed_mps ·ᶠ next.airspeed_mps -ᶠ inputs.airspeed_mps ·ᶠ inputs.airspeed_mps) in
    record {
      potential_error = potentialError;
      kinetic_error = kineticError;
      potential_rate_demand =
          clamp (gravity ·ᶠ heightRate +ᶠ potentialError /ᶠ config.time_constant_s) (least_energy_rate config) (max_energy_rate config);
      kinetic_rate_demand = kineticError /ᶠ config.time_constant_s;
      potential_rate = gravity ·ᶠ inputs.climb_mps;
      kinetic_rate = speed ·ᶠ changingAccel;
      speed_mps = speed;
    }

unfoldable pub energies : Tecs → TecsConfig → Inputs → Float → EnergiesResult
energies s config inputs speed =
    let previous = previous_demand s config inputs in
    let next = next_demand previous config inputs speed in
    let before = previous_filter s config inputs in
    record { energies = energies_of previous next before config inputs speed; demand = next; filter = next_filter before config inputs }

-- ---- thrust

-- the energy rate that a bank's drag takes; the floor wins over NaN
unfoldable pub turn_rate : TecsConfig → Float → Float
turn_rate config roll =
    let cos2 = greatest (cosine roll ·ᶠ cosine roll) min_cos2_bank in
    choose (finite cos2) (config.roll_compensation ·ᶠ (n1 /ᶠ cos2 -ᶠ n1)) n0

-- around cruise thrust: the climb limit takes the greatest thrust, the least sink the least
unfoldable pub feedforward : Float → TecsConfig → Limits → Float
feedforward rate config limits =
    let cruise = clamp limits.cruise_thrust limits.min_thrust limits.max_thrust in
    choose (Ieee.le n0 rate)
    (cruise +ᶠ rate /ᶠ max_energy_rate config ·ᶠ (limits.max_thrust -ᶠ cruise))
    (cruise +ᶠ rate /ᶠ neg (min_sink_rate config) ·ᶠ (cruise -ᶠ limits.min_thrust))

-- no underspeed: the total energy rate demand, damping on its error, and an integral of the energy error
unfoldable pub balanced_thrust : Float → TecsConfig → Limits → Energies → Float → Float → ThrustResult
balanced_thrust integral config limits e dt roll =
    let maxRate = max_energy_rate config in
    let minRate = min_sink_rate config in
    let low = limits.min_thrust in
    let high = limits.max_thrust in
    let kinetic = clamp_symmetric e.kinetic_rate_demand (half ·ᶠ maxRate) in
    let rateDemand = clamp (e.potential_rate_demand +ᶠ kinetic) minRate maxRate in
    let rate = e.potential_rate +ᶠ e.kinetic_rate in
    let gain = (high -ᶠ low) /ᶠ (maxRate -ᶠ minRate) in
    let proportional = feedforward (rateDemand +ᶠ turn_rate config roll) config limits +ᶠ gain ·ᶠ config.thrust_damping ·ᶠ (rateDemand -ᶠ rate) in
    let totalError = e.potential_error +ᶠ e.kinetic_error in
    let sum =
    clamp (integral +ᶠ config.integrator_gain ·ᶠ gain ·ᶠ totalError /ᶠ config.time_constant_s ·ᶠ dt)
    (low -ᶠ proportional -ᶠ thrust_integral_margin) (high -ᶠ proportional +ᶠ thrust_integral_margin)
    in
    record { thrust = clamp (proportional +ᶠ sum) low high; integral = sum }

-- underspeed: the greatest thrust, and the integral kept
unfoldable pub thrust : ℕ → Float → TecsConfig → Limits → Energies → Float → Float → ThrustResult
thrust underspeed integral config limits e dt roll =
    cond (flag underspeed) (record { thrust = limits.max_thrust; integral = integral }) (balanced_thrust integral config limits e dt roll)

-- ---- pitch

-- pinned against the limit it pushes toward, the integral fades; else it grows by its step
unfoldable pub pitch_integral : Bool → Float → Float → Float → TecsConfig → Float
pitch_integral pinned integral step dt config = choose pinned (lagged integral n0 dt config.time_constant_s) (integral +ᶠ step)

-- the energy balance's rate demand, damping on its error, and the error's integral; under underspeed airspeed alone
unfoldable pub pitch : ℕ → Float → TecsConfig → Limits → Energies → Float → PitchResult
pitch underspeed integral config limits e dt =
    let high = limits.pitch_up_rad in
    let low = neg limits.pitch_down_rad in
    let weight = choose (flag underspeed) n2 config.speed_weight in
    let kinetic = least weight n1 in
    let potential = least (n2 -ᶠ weight) n1 in
    let rateDemand =
    clamp (potential ·ᶠ e.potential_rate_demand -ᶠ kinetic ·ᶠ e.kinetic_rate_demand) (least_energy_rate config) (max_energy_rate config)
    in
    let rate = potential ·ᶠ e.potential_rate -ᶠ kinetic ·ᶠ e.kinetic_rate in
    let rateError = rateDemand -ᶠ rate in
    let perRad = e.speed_mps ·ᶠ gravity in
    let proportional = limits.trim_pitch_rad +ᶠ (rateDemand +ᶠ config.pitch_damping ·ᶠ rateError) /ᶠ perRad in
    let step = config.pitch_integrator_gain ·ᶠ rateError /ᶠ perRad ·ᶠ dt in
    let unclamped = proportional +ᶠ integral +ᶠ step in
    let pinned = (Ieee.lt high unclamped && Ieee.lt n0 step) || (Ieee.lt unclamped low && Ieee.lt step n0) in
    let next = clamp (pitch_integral pinned integral step dt config) (low -ᶠ high) (high -ᶠ low) in
    record { pitch_rad = clamp (proportional +ᶠ next) low high; integral_rad = next }

-- ---- the step

-- Altitude, target, airspeed, height or climb not finite on the energy path: a hold.
unfoldable pub all_inputs_finite : Inputs → Bool
all_inputs_finite inputs =
    finite inputs.altitude_m && finite inputs.airspeed_target_mps && finite inputs.airspeed_mps
    && finite inputs.height_m && finite inputs.climb_mps

-- a hold: trim and cruise thrust, unclamped; energy state unchanged
unfoldable pub hold : Tecs → Limits → TecsResult
hold s limits = record { tecs = s; pitch_rad = limits.trim_pitch_rad; thrust = limits.cruise_thrust }

-- an energy step: all inputs finite
unfoldable pub energy_step : Tecs → TecsConfig → Limits → Inputs → TecsResult
energy_step s config limits inputs =
    let under = update_underspeed s.underspeed config inputs.airspeed_mps in
    let r = energies s config inputs (greatest inputs.airspeed_mps min_gain_airspeed) in
    let th = thrust under s.thrust_integral config limits r.energies inputs.dt inputs.roll_rad in
    let pi = pitch under s.pitch_integral_rad config limits r.energies inputs.dt in
    record {
      tecs = record {
        seeded = 1;
        demand = r.demand;
        pitch_integral_rad = pi.integral_rad;
        thrust_integral = th.integral;
        underspeed = under;
        filtered_airspeed_mps = r.filter.filtered_airspeed_mps;
        steady_accel_mps2 = r.filter.steady_accel_mps2;
      };
      pitch_rad = pi.pitch_rad;
      thrust = th.thrust;
    }

-- Tecs::step
unfoldable pub step : Tecs → TecsConfig → Limits → Inputs → TecsResult
step s config limits inputs = cond (all_inputs_finite inputs) (energy_step s config limits inputs) (hold s limits)
