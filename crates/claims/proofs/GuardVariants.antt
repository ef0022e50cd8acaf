-- Why K12 is stated as it is: for each nearby statement a list of calls on which it fails, by computation. Assumes nothing.
use Rattle.std.specs.Prelude.{Some}
use mathlib.Core.Path.{◌≡◌, refl}
use mathlib.Core.Bool.{Bool, true, false, not, ◌&&◌, ◌||◌}
use mathlib.Core.List.{List, [], ◌∷◌}
use lib.Ieee as Ieee
use lib.Ieee.{to_bits, of_bits, le, is_nan}
use Rattle.arithmetic.specs.Constants.{f32}
use Rattle.arithmetic.specs.Order.{least, greatest, clamp, finite, size}
use Rattle.arithmetic.specs.Root.{root_of}
use Rattle.arithmetic.specs.Vector.{norm, normalise}
use Rattle.arithmetic.specs.Trigonometry.{sine, folded, cosine_of_folded, cosine, arctangent}
use Rattle.laws.specs.Config.{tecs_default, default, first_failing, validate}
use Rattle.laws.specs.Math.{limit_or_zero, clamp_symmetric, saturate_symmetric, saturate_unit, saturate_throttle, lagged, all_finite}
use Rattle.laws.specs.Types.{at_least_zero, valid_airspeed}
use Rattle.laws.specs.Navigation.{no_course, loiter_accel, finite_leg, lateral_accel, bank_for_accel, pi_pinned, pi_finite, pi_step}
use Rattle.laws.specs.Tecs.{
  reset,
  update_underspeed,
  clamp_airspeed,
  seed_demand,
  previous_demand,
  slewed_height,
  slewed_airspeed,
  next_demand,
  seed_filter,
  previous_filter,
  next_filter,
  energies_of,
  energies,
  turn_rate,
  feedforward,
  balanced_thrust,
  thrust,
  pitch_integral,
  pitch,
  all_inputs_finite,
  hold,
  energy_step,
}
use Rattle.laws.specs.declared.config.PlaneGuidanceConfig.{PlaneGuidanceConfig}
use Rattle.guidance.specs.Plane as Plane
use Rattle.guidance.specs.Plane.{fresh}
use Rattle.claims.specs.Calls.{Call, set_config, perform, holds, after, starts_fresh}
use Rattle.claims.specs.StallGuard.{Made, made, backwards, since, those, starts_over, clearing, steps, is_energy_step, is_kept, latest_slow, guard_stands}
use Rattle.claims.proofs.Variants.{to, fall, slow, unheard, tecs_with, config_with, nimble, refused_slow}

-- ---- ways to tell whether the guard stands: from the configuration after the list and the calls, the latest first

-- by which calls clear and which steps count
guard_by : (Made → Bool) → (Made → Bool) → List Made → Bool
guard_by clears counts ms = latest_slow (those is_kept (those counts (since clears ms)))

exactly : PlaneGuidanceConfig → List Made → Bool
exactly last ms = guard_stands ms

-- judged by this configuration instead of each step's own
judged_by : PlaneGuidanceConfig → List Made → List Made
judged_by c [] = []
judged_by c (m ∷ ms) = record { call = m.call; config = c; accepted = m.accepted } ∷ judged_by c ms

-- by the configuration after the list
by_the_last : PlaneGuidanceConfig → List Made → Bool
by_the_last last ms = guard_stands (judged_by last ms)

holds_too : PlaneGuidanceConfig → List Made → Bool
holds_too last ms = guard_by clearing (λ (m : Made). m.accepted && (steps m.call || holds m.call)) ms

refused_too : PlaneGuidanceConfig → List Made → Bool
refused_too last ms = guard_by clearing (λ (m : Made). steps m.call) ms

-- a fallback does not clear
fallback_stays : PlaneGuidanceConfig → List Made → Bool
fallback_stays last ms = guard_by (λ (m : Made). clearing m && starts_fresh m.call false) is_energy_step ms

-- "accepted" left out of what clears
refused_clears : PlaneGuidanceConfig → List Made → Bool
refused_clears last ms = guard_by (λ (m : Made). starts_over m.call) is_energy_step ms

alike : Bool → Bool → Bool
alike true b = b
alike false b = not b

-- whether the report says so after the list
told : (PlaneGuidanceConfig → List Made → Bool) → List Call → Bool
told says ks =
    let g = after (fresh default) ks in
    alike (Plane.stall_guard g) (says g.config (backwards (made (fresh default) ks) []))

slow_then_nimble : List Call
slow_then_nimble = slow ∷ set_config nimble ∷ []

-- at 20 m/s, to a height of infinity: a hold
fast_held : Call
fast_held = to (f32 0x7f800000) (f32 0x41a00000) (Some (f32 0x41a00000))

slow_then_held : List Call
slow_then_held = slow ∷ fast_held ∷ []

slow_then_fallen : List Call
slow_then_fallen = slow ∷ fall ∷ []

slow_then_unheard : List Call
slow_then_unheard = slow ∷ unheard ∷ []

stall_guards : List Bool
stall_guards =
    told exactly slow_then_nimble ∷
    told by_the_last slow_then_nimble ∷
    told exactly slow_then_held ∷
    told holds_too slow_then_held ∷
    told exactly refused_slow ∷
    told refused_too refused_slow ∷
    told exactly slow_then_fallen ∷
    told fallback_stays slow_then_fallen ∷
    told exactly slow_then_unheard ∷
    told refused_clears slow_then_unheard ∷
    []

computed : stall_guards ≡ true ∷ false ∷ true ∷ false ∷ true ∷ false ∷ true ∷ false ∷ true ∷ false ∷ []
unfolding stall_guards guard_by exactly judged_by by_the_last holds_too refused_too fallback_stays refused_clears alike told slow_then_nimble
    fast_held slow_then_held slow_then_fallen slow_then_unheard made backwards since those guard_stands after refused_slow tecs_with
    config_with nimble perform fresh tecs_default default first_failing validate limit_or_zero clamp_symmetric saturate_symmetric saturate_unit
    saturate_throttle lagged all_finite at_least_zero valid_airspeed no_course loiter_accel finite_leg lateral_accel bank_for_accel pi_pinned pi_finite
    pi_step reset update_underspeed clamp_airspeed seed_demand previous_demand slewed_height slewed_airspeed next_demand seed_filter previous_filter
    next_filter energies_of energies turn_rate feedforward balanced_thrust thrust pitch_integral pitch all_inputs_finite hold energy_step least
    greatest clamp finite size root_of norm normalise sine folded cosine_of_folded cosine arctangent Plane.cleared Plane.primed
    Plane.with_config Plane.configured Plane.sticks Plane.lateral_law Plane.on_energy_path Plane.inputs Plane.vertical_law Plane.top_thrust
    Plane.limits_of Plane.roll_of Plane.height_error Plane.fallback Plane.vertical Plane.all_finite Plane.commanded Plane.waypoint
    Plane.obeyed Plane.guided to_bits of_bits le is_nan Ieee.add Ieee.sub Ieee.mul Ieee.div Ieee.rem Ieee.lt Ieee.eq Ieee.ne Ieee.neg
    Ieee.round Plane.no_former Plane.restored Plane.taken_back
computed = refl
