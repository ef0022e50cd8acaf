-- Why demand 3 is stated as it is: for each nearby statement a list of calls on which it fails, by computation. Assumes nothing.
use Rattle.std.specs.Prelude.{Option, Some, None, Ok, Err, Float}
use Prim.Native.Nat.{ℕ}
use mathlib.Core.Path.{◌≡◌, refl}
use mathlib.Core.Bool.{Bool, true, false, cond, not, ◌&&◌, ◌||◌}
use mathlib.Core.List.{List, [], ◌∷◌, ◌++◌}
use lib.Dec.{eqb}
use lib.Ieee as Ieee
use lib.Ieee.{Float, neg, binary32, to_bits, of_bits, le, is_nan}
use Rattle.arithmetic.specs.Constants.{f32, n0, n1}
use Rattle.arithmetic.specs.Order.{least, greatest, clamp, finite, size}
use Rattle.arithmetic.specs.Root.{root_of}
use Rattle.arithmetic.specs.Vector.{norm, normalise}
use Rattle.arithmetic.specs.Trigonometry.{sine, folded, cosine_of_folded, cosine, arctangent}
use Rattle.laws.specs.Config.{tecs_default, default, first_failing, validate}
use Rattle.laws.specs.Math.{limit_or_zero, clamp_symmetric, saturate_symmetric, saturate_unit, saturate_throttle, lagged, all_finite}
use Rattle.laws.specs.Types.{at_least_zero, valid_airspeed}
use Rattle.laws.specs.Navigation.{no_course, idle, cross_track, loiter_accel, finite_leg, lateral_accel, bank_for_accel, pi_pinned, pi_finite, pi_step}
use Rattle.laws.specs.Tecs.{
  reset,
  update_underspeed,
  clamp_airspeed,
  seed_demand,
  previous_demand,
  slewed_height,
  slewed_airspeed,
  next_demand,
  seed_filter,
  previous_filter,
  next_filter,
  energies_of,
  energies,
  turn_rate,
  feedforward,
  balanced_thrust,
  thrust,
  pitch_integral,
  pitch,
  all_inputs_finite,
  hold,
  energy_step,
}
use Rattle.laws.specs.declared.config.TecsConfig.{TecsConfig}
use Rattle.laws.specs.declared.config.PlaneGuidanceConfig.{PlaneGuidanceConfig}
use Rattle.laws.specs.declared.types.ControlInput.TheVariants as Input
use Rattle.laws.specs.declared.types.FlightRegime.TheVariants as Regime
use Rattle.laws.specs.declared.types.VehicleState.{VehicleState}
use Rattle.guidance.specs.Plane as Plane
use Rattle.guidance.specs.Plane.{fresh, answer_values}
use Rattle.claims.specs.Calls.{
  Call,
  guide,
  prime,
  set_config,
  take_back,
  Reply,
  answered,
  done,
  field,
  back,
  perform,
  refused,
  replies,
  after,
  refusals,
  law_is,
  is_fallback,
  fell_back,
  struck,
  holds,
  unmarked,
  starts_fresh,
  settings_of,
  fresh_with,
}
use Rattle.claims.specs.Limits.{InForce, at_start, underspeed_at, in_force_after}
use Rattle.claims.specs.Struck.{falls_back}
use Rattle.guidance.specs.declared.plane.PlaneGuidance.{PlaneGuidance}
use Rattle.guidance.specs.declared.plane.Answer.TheVariants.{Commanded, Waypoint}

-- ---- replies compared as bits
bits : List Float → List ℕ
bits [] = []
bits (x ∷ xs) = to_bits binary32 x ∷ bits xs

bits_of : Reply → List ℕ
bits_of (answered a) = bits (answer_values a)
bits_of done = []
bits_of (field n) = n ∷ []
bits_of (back n) = n ∷ []

same : List ℕ → List ℕ → Bool
same [] [] = true
same [] (y ∷ ys) = false
same (x ∷ xs) [] = false
same (x ∷ xs) (y ∷ ys) = eqb x y && same xs ys

same_replies : List Reply → List Reply → Bool
same_replies [] [] = true
same_replies [] (y ∷ ys) = false
same_replies (x ∷ xs) [] = false
same_replies (x ∷ xs) (y ∷ ys) = same (bits_of x) (bits_of y) && same_replies xs ys

-- ---- a way of striking: which calls go, and what is remembered of a call
strikes_by : (Bool → Call → Bool → Bool) → (Bool → Call → Bool → Bool) → Bool → List Call → List Bool → List Bool
strikes_by goes next before [] rs = []
strikes_by goes next before (k ∷ ks) [] = []
strikes_by goes next before (k ∷ ks) (r ∷ rs) = goes before k r ∷ strikes_by goes next (next before k r) ks rs

-- whether the remaining list gives its first replies again
leaves_no_trace : (Bool → Call → Bool → Bool) → (Bool → Call → Bool → Bool) → List Call → Bool
leaves_no_trace goes next ks =
    let first = replies (fresh default) ks in
    let ms = strikes_by goes next false ks (refusals first) in
    same_replies (replies (fresh default) (unmarked ms ks)) (unmarked ms first)

-- ---- configurations: the defaults with other numbers

-- speed weight, least airspeed and its share
unfoldable pub tecs_with : Float → Float → Float → TecsConfig
tecs_with weight least share = record {
  time_constant_s = tecs_default.time_constant_s;
  max_climb_mps = tecs_default.max_climb_mps;
  min_sink_mps = tecs_default.min_sink_mps;
  max_sink_mps = tecs_default.max_sink_mps;
  thrust_damping = tecs_default.thrust_damping;
  integrator_gain = tecs_default.integrator_gain;
  pitch_damping = tecs_default.pitch_damping;
  pitch_integrator_gain = tecs_default.pitch_integrator_gain;
  speed_weight = weight;
  roll_compensation = tecs_default.roll_compensation;
  min_airspeed_mps = least;
  max_airspeed_mps = tecs_default.max_airspeed_mps;
  underspeed_share = share;
  height_demand_time_constant_s = tecs_default.height_demand_time_constant_s;
  airspeed_rate_time_constant_s = tecs_default.airspeed_rate_time_constant_s;
  kinetic_rate_high_pass_s = tecs_default.kinetic_rate_high_pass_s;
}

-- trim, least and greatest thrust, and the energy configuration
unfoldable pub config_with : Float → Float → Float → TecsConfig → PlaneGuidanceConfig
config_with trim low high t = record {
  max_bank_rad = default.max_bank_rad;
  max_pitch_up_rad = default.max_pitch_up_rad;
  max_pitch_down_rad = default.max_pitch_down_rad;
  max_rate_radps = default.max_rate_radps;
  trim_pitch_rad = trim;
  cruise_thrust = default.cruise_thrust;
  l1_period_s = default.l1_period_s;
  l1_damping = default.l1_damping;
  loiter_radius_m = default.loiter_radius_m;
  altitude_p = default.altitude_p;
  altitude_i = default.altitude_i;
  altitude_max_integral = default.altitude_max_integral;
  tecs = t;
  min_thrust = low;
  max_thrust = high;
  climb_thrust_per_rad = default.climb_thrust_per_rad;
}

-- a trim of 0.125
trimmed : PlaneGuidanceConfig
trimmed = config_with (f32 0x3e000000) default.min_thrust default.max_thrust tecs_default

-- thrust from 0 to 0.125
weak : PlaneGuidanceConfig
weak = config_with n0 n0 (f32 0x3e000000) tecs_default

-- thrust from 1 to 1, and a share of 0: field 27 fails
invalid : PlaneGuidanceConfig
invalid = config_with n0 n1 n1 (tecs_with n1 tecs_default.min_airspeed_mps n0)

-- a least airspeed of 1 m/s
unfoldable pub nimble : PlaneGuidanceConfig
nimble = config_with n0 default.min_thrust default.max_thrust (tecs_with n1 n1 tecs_default.underspeed_share)

-- a speed weight of 0
weightless : PlaneGuidanceConfig
weightless =
    config_with n0 default.min_thrust default.max_thrust (tecs_with n0 tecs_default.min_airspeed_mps tecs_default.underspeed_share)

-- ---- calls: at rest at the origin, time step 1

abbrev pub at_rest : Option Float → VehicleState
at_rest airspeed = record {
  position_m = record { x = n0; y = n0; z = n0 };
  velocity_mps = record { x = n0; y = n0; z = n0 };
  roll_rad = n0;
  airspeed_mps = airspeed;
}

-- to a point at this altitude, with this cruise speed and airspeed
abbrev pub to : Float → Float → Option Float → Call
to altitude cruise airspeed =
    guide n1 Regime.Plane (Input.Waypoint (record {
      position_m = record { x = n0; y = n0 };
      velocity_mps = None;
      altitude_m = altitude;
      cruise_speed_mps = cruise;
    })) (at_rest airspeed) None

-- one metre up without an airspeed: a fallback, whose integral grows by 1
abbrev pub fall : Call
fall = to n1 n0 None

-- at an airspeed of infinity: a hold
abbrev held : Call
held = to n1 (f32 0x41a00000) (Some (f32 0x7f800000))  -- 20, infinity

abbrev pub attitude : Float → Call
attitude dt = guide dt Regime.Plane (Input.Attitude (record { throttle = n0; roll = n0; pitch = n0 })) (at_rest None) None

abbrev centred : Call
centred = attitude n1

-- a time step of 0: refused with 2
abbrev pub unheard : Call
unheard = attitude n0

-- an energy step at the origin's height with this cruise speed and airspeed, and a cap of 1 or -1
abbrev steady : Float → Float → Float → Call
steady cruise airspeed cap =
    guide n1 Regime.Plane (Input.Waypoint (record {
      position_m = record { x = n0; y = n0 };
      velocity_mps = None;
      altitude_m = n0;
      cruise_speed_mps = cruise;
    })) (at_rest (Some airspeed)) (Some cap)

-- at 5 m/s: with the defaults below 0.9 · 10, so that underspeed is set
abbrev pub slow : Call
slow = steady (f32 0x40a00000) (f32 0x40a00000) n1

-- the same, refused with 3
abbrev pub slow_refused : Call
slow_refused = steady (f32 0x40a00000) (f32 0x40a00000) (neg n1)

-- at 9.5 m/s: with the defaults neither below 0.9 · 10 nor from 10 up
abbrev pub middle : Call
middle = steady (f32 0x41180000) (f32 0x41180000) n1

-- ---- the exact form, and the variants
always : Bool → Call → Bool → Bool
always before k refused = refused || holds k

-- a set-configuration ends the pair of fallback and hold
forgets : Bool → Call → Bool → Bool
forgets before (guide dt regime input s cap) r = fell_back before (guide dt regime input s cap) r
forgets before prime r = fell_back before prime r
forgets before (set_config c) r = false
forgets before take_back r = fell_back before take_back r

is_attitude : Call → Bool
is_attitude (guide dt regime (Input.Attitude k) s cap) = true
is_attitude (guide dt regime (Input.Rate k) s cap) = false
is_attitude (guide dt regime (Input.Waypoint w) s cap) = false
is_attitude (guide dt regime (Input.AbsoluteAttitude k) s cap) = false
is_attitude (guide dt regime Input.Land s cap) = false
is_attitude (guide dt regime (Input.AbsoluteRate k) s cap) = false
is_attitude prime = false
is_attitude (set_config c) = false
is_attitude take_back = false

attitudes_too : Bool → Call → Bool → Bool
attitudes_too before k r = struck before k r || is_attitude k

after_fallback : List Call
after_fallback = fall ∷ held ∷ fall ∷ []

between : List Call
between = fall ∷ set_config default ∷ held ∷ fall ∷ []

attitude_between : List Call
attitude_between = fall ∷ centred ∷ fall ∷ []

-- ---- the plain limit, -max_pitch_down_rad itself, which a fallback can pass by one rounding

second : List Float → Float
second [] = n0
second (x ∷ []) = n0
second (x ∷ (y ∷ ys)) = y

pitch_of : Reply → Float
pitch_of (answered a) = second (answer_values a)
pitch_of done = n0
pitch_of (field n) = n0
pitch_of (back n) = n0

-- 100 metres down
within_plain_limit : Bool
within_plain_limit = le (neg trimmed.max_pitch_down_rad) (pitch_of (perform (fresh trimmed) (to (f32 0xc2c80000) n0 None)).reply)  -- -100

-- ---- "the last accepted guide or prime call", with "accepted" left out
forgets_accepted : Bool → Call → Bool → Bool
forgets_accepted before k refused = fell_back before k false

-- the call directly before, whatever it was
by_the_call_before : Bool → Call → Bool → Bool
by_the_call_before before k refused = falls_back k

unheard_between : List Call
unheard_between = fall ∷ unheard ∷ held ∷ fall ∷ []

-- ---- the fresh start: after which calls, and what the fresh guidance is made with
beside_fresh : (Call → Bool → Bool) → (PlaneGuidance → PlaneGuidance) → PlaneGuidance → List Call → Bool
beside_fresh starts make g [] = true
beside_fresh starts make g (k ∷ ks) =
    let o = perform g k in
    (not (starts k (refused o.reply)) || same_replies (replies o.next ks) (replies (make o.next) ks)) && beside_fresh starts make o.next ks

of_that_moment : PlaneGuidance → PlaneGuidance
of_that_moment g = fresh_with (settings_of g)

-- "accepted" left out
starts_refused : Call → Bool → Bool
starts_refused k refused = starts_fresh k false

-- a set-configuration too
starts_configured : Call → Bool → Bool
starts_configured (guide dt regime input s cap) r = starts_fresh (guide dt regime input s cap) r
starts_configured prime r = starts_fresh prime r
starts_configured (set_config c) r = not r
starts_configured take_back r = starts_fresh take_back r

-- with nothing kept
without_former : PlaneGuidance → PlaneGuidance
without_former g = fresh g.config

primed_between : List Call
primed_between = set_config trimmed ∷ prime ∷ take_back ∷ fall ∷ []

-- the configuration that the list began with
of_the_start : PlaneGuidance → PlaneGuidance
of_the_start g = fresh default

unheard_after : List Call
unheard_after = fall ∷ unheard ∷ fall ∷ []

configured_after : List Call
configured_after = fall ∷ set_config default ∷ fall ∷ []

primed_after : List Call
primed_after = set_config trimmed ∷ prime ∷ fall ∷ []

-- ---- the configuration in force and underspeed: thrust in its span, and at the top where underspeed stands
thrust_obeys : InForce → Float → Bool
thrust_obeys i thrust =
    le i.config.min_thrust thrust && le thrust (Plane.top_thrust i.config) && (not i.underspeed || Ieee.eq thrust (Plane.top_thrust i.config))

third : List Float → Float
third [] = n0
third (x ∷ []) = n0
third (x ∷ y ∷ []) = n0
third (x ∷ (y ∷ (z ∷ zs))) = z

reply_obeys : InForce → Reply → Bool
reply_obeys i (answered (Err why)) = true
reply_obeys i (answered (Ok (Commanded s))) = true
reply_obeys i (answered (Ok (Waypoint a))) = thrust_obeys i (third (answer_values (Ok (Waypoint a))))
reply_obeys i done = true
reply_obeys i (field n) = true
reply_obeys i (back n) = true

obeys_by : (InForce → Call → Bool → InForce) → InForce → List Call → List Reply → Bool
obeys_by next i [] rs = true
obeys_by next i (k ∷ ks) [] = true
obeys_by next i (k ∷ ks) (r ∷ rs) = let j = next i k (refused r) in reply_obeys j r && obeys_by next j ks rs

obeys : (InForce → Call → Bool → InForce) → List Call → Bool
obeys next ks = obeys_by next (at_start default) ks (replies (fresh default) ks)

exactly : InForce → Call → Bool → InForce
exactly i k refused = in_force_after i k refused

-- "accepted" left out: a refused set-configuration comes into force, a refused step sets underspeed
even_refused : InForce → Call → Bool → InForce
even_refused i k refused = in_force_after i k false

-- the configuration that the list began with
from_the_start : InForce → Call → Bool → InForce
from_the_start i k refused =
    let j : InForce = record { config = default; former = i.former; underspeed = i.underspeed } in
    record { config = default; former = i.former; underspeed = (in_force_after j k refused).underspeed }

-- a prime keeps underspeed
prime_keeps : InForce → Call → Bool → InForce
prime_keeps i (guide dt regime input s cap) r = in_force_after i (guide dt regime input s cap) r
prime_keeps i prime r = i
prime_keeps i (set_config c) r = in_force_after i (set_config c) r
prime_keeps i take_back r = in_force_after i take_back r

-- a fallback keeps underspeed
fallback_keeps : InForce → Call → Bool → InForce
fallback_keeps i (guide dt regime input s cap) r = cond (law_is is_fallback dt input s) i (in_force_after i (guide dt regime input s cap) r)
fallback_keeps i prime r = in_force_after i prime r
fallback_keeps i (set_config c) r = in_force_after i (set_config c) r
fallback_keeps i take_back r = in_force_after i take_back r

-- a taking back keeps the configuration in force
back_keeps : InForce → Call → Bool → InForce
back_keeps i (guide dt regime input s cap) r = in_force_after i (guide dt regime input s cap) r
back_keeps i prime r = in_force_after i prime r
back_keeps i (set_config c) r = in_force_after i (set_config c) r
back_keeps i take_back r = i

weak_taken_back : List Call
weak_taken_back = set_config weak ∷ take_back ∷ fall ∷ []

refused_setting : List Call
refused_setting = set_config invalid ∷ fall ∷ []

weaker : List Call
weaker = set_config weak ∷ fall ∷ []

unfoldable pub refused_slow : List Call
refused_slow = slow_refused ∷ middle ∷ []

nimble_slow : List Call
nimble_slow = set_config nimble ∷ slow ∷ []

slow_primed : List Call
slow_primed = slow ∷ middle ∷ prime ∷ middle ∷ []

slow_fallen : List Call
slow_fallen = slow ∷ middle ∷ fall ∷ middle ∷ []

-- ---- a change and its taking back: `rest` gets the same replies with both calls and with neither
undone_by : List Call → PlaneGuidanceConfig → List Call → List Call → Bool
undone_by before d between rest =
    same_replies (replies (after (fresh default) (before ++ (set_config d ∷ (between ++ (take_back ∷ []))))) rest)
    (replies (after (fresh default) (before ++ between)) rest)

-- cruise speed 20 at this airspeed
abbrev cruising : Float → Call
cruising airspeed = to n0 (f32 0x41a00000) (Some airspeed)

-- at 1e30 m/s: refused with 4 at a speed weight of 0
abbrev rushing : Call
rushing = cruising (f32 0x7149f2ca)

-- at 15 m/s
abbrev level : Call
level = cruising (f32 0x41700000)

pitch_bits : List Call → Call → ℕ
pitch_bits ks k = to_bits binary32 (pitch_of (perform (after (fresh default) ks) k).reply)

taking_back : List Bool
taking_back =
    -- primes and refused changes between
    undone_by [] nimble (prime ∷ set_config invalid ∷ []) (slow ∷ middle ∷ []) ∷
    -- an accepted guide call between
    undone_by [] nimble (slow ∷ []) (middle ∷ []) ∷
    -- a refused one between, which the former setting accepts
    undone_by [] weightless (rushing ∷ []) (level ∷ []) ∷
    -- up to the next taking back, and past it
    undone_by (set_config trimmed ∷ []) weak [] (fall ∷ []) ∷
    undone_by (set_config trimmed ∷ []) weak [] (take_back ∷ []) ∷
    same_replies (replies (after (fresh default) (set_config trimmed ∷ set_config weak ∷ take_back ∷ take_back ∷ [])) (fall ∷ []))
    (replies (after (fresh default) (set_config trimmed ∷ take_back ∷ [])) (fall ∷ [])) ∷
    []

-- the pitch after the refused call between, and without the pair
pitches : List ℕ
pitches = pitch_bits (set_config weightless ∷ rushing ∷ take_back ∷ []) level ∷ pitch_bits (rushing ∷ []) level ∷ []

striking : List Bool
striking =
    leaves_no_trace struck fell_back after_fallback ∷
    leaves_no_trace always fell_back after_fallback ∷
    leaves_no_trace struck fell_back between ∷
    leaves_no_trace struck forgets between ∷
    leaves_no_trace struck fell_back attitude_between ∷
    leaves_no_trace attitudes_too fell_back attitude_between ∷
    leaves_no_trace struck fell_back unheard_between ∷
    leaves_no_trace struck forgets_accepted unheard_between ∷
    leaves_no_trace struck by_the_call_before after_fallback ∷
    leaves_no_trace struck by_the_call_before unheard_between ∷
    leaves_no_trace struck by_the_call_before between ∷
    within_plain_limit ∷
    []

fresh_starts : List Bool
fresh_starts =
    beside_fresh starts_fresh of_that_moment (fresh default) unheard_after ∷
    beside_fresh starts_refused of_that_moment (fresh default) unheard_after ∷
    beside_fresh starts_fresh of_that_moment (fresh default) configured_after ∷
    beside_fresh starts_configured of_that_moment (fresh default) configured_after ∷
    beside_fresh starts_fresh of_that_moment (fresh default) primed_after ∷
    beside_fresh starts_fresh of_the_start (fresh default) primed_after ∷
    beside_fresh starts_fresh of_that_moment (fresh default) primed_between ∷
    beside_fresh starts_fresh without_former (fresh default) primed_between ∷
    []

in_force : List Bool
in_force =
    obeys exactly refused_setting ∷
    obeys even_refused refused_setting ∷
    obeys exactly weaker ∷
    obeys from_the_start weaker ∷
    obeys exactly refused_slow ∷
    obeys even_refused refused_slow ∷
    obeys exactly nimble_slow ∷
    obeys from_the_start nimble_slow ∷
    obeys exactly slow_primed ∷
    obeys prime_keeps slow_primed ∷
    obeys exactly slow_fallen ∷
    obeys fallback_keeps slow_fallen ∷
    obeys exactly weak_taken_back ∷
    obeys back_keeps weak_taken_back ∷
    []

computed :
    (striking ≡ true ∷ false ∷ true ∷ false ∷ true ∷ false ∷ true ∷ false ∷ true ∷ false ∷ false ∷ false ∷ [])
    × (fresh_starts ≡ true ∷ false ∷ true ∷ false ∷ true ∷ false ∷ true ∷ false ∷ [])
    × (in_force ≡ true ∷ false ∷ true ∷ false ∷ true ∷ false ∷ true ∷ false ∷ true ∷ false ∷ true ∷ false ∷ true ∷ false ∷ [])
    × (taking_back ≡ true ∷ false ∷ false ∷ true ∷ false ∷ false ∷ [])
    × (pitches ≡ 0xbd57f532 ∷ 0xbedf66f3 ∷ [])
unfolding striking fresh_starts in_force taking_back pitches undone_by pitch_bits without_former primed_between back_keeps weak_taken_back weightless after
    Plane.no_former Plane.restored Plane.taken_back leaves_no_trace strikes_by same_replies same bits_of bits always forgets forgets_accepted by_the_call_before is_attitude
    attitudes_too after_fallback between attitude_between unheard_between unheard_after configured_after primed_after refused_setting weaker
    refused_slow nimble_slow slow_primed slow_fallen beside_fresh of_that_moment of_the_start starts_refused starts_configured thrust_obeys third
    reply_obeys obeys_by obeys exactly even_refused from_the_start prime_keeps fallback_keeps tecs_with config_with trimmed weak invalid nimble second
    pitch_of within_plain_limit underspeed_at perform replies refusals unmarked fresh tecs_default default first_failing validate limit_or_zero
    clamp_symmetric saturate_symmetric saturate_unit saturate_throttle lagged all_finite at_least_zero valid_airspeed no_course idle cross_track loiter_accel finite_leg
    lateral_accel bank_for_accel pi_pinned pi_finite pi_step reset update_underspeed clamp_airspeed seed_demand previous_demand slewed_height
    slewed_airspeed next_demand seed_filter previous_filter next_filter energies_of energies turn_rate feedforward balanced_thrust thrust
    pitch_integral pitch all_inputs_finite hold energy_step least greatest clamp finite size root_of norm normalise sine folded cosine_of_folded
    cosine arctangent Plane.cleared Plane.primed Plane.with_config Plane.configured Plane.sticks Plane.lateral_law Plane.on_energy_path
    Plane.inputs Plane.vertical_law Plane.top_thrust Plane.limits_of Plane.roll_of Plane.cross_track_of Plane.height_error Plane.fallback Plane.vertical Plane.all_finite
    Plane.commanded Plane.waypoint Plane.obeyed Plane.guided to_bits of_bits le is_nan Ieee.add Ieee.sub Ieee.mul Ieee.div Ieee.rem Ieee.lt
    Ieee.eq Ieee.ne Ieee.neg Ieee.round
computed = (refl, refl, refl, refl, refl)
