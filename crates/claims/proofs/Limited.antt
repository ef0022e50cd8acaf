-- Demand 3: every accepted waypoint call obeys its limits, with the configuration in force and underspeed worked out from the
-- calls. Assumes nothing.
use Rattle.std.specs.Prelude.{Option, Some, None, Err, Float}
use Rattle.std.proofs.lemmas.Bool.{cond_both}
use Rattle.refusals.specs.Numbers.{number}
use Rattle.refusals.specs.declared.Refusal.{Refusal}
use Rattle.refusals.specs.declared.Refusal.TheVariants as reason
use Prim.Native.Nat.{ℕ}
use mathlib.Core.Path.{◌≡◌, refl, sym, ap, ◌∙◌, subst}
use mathlib.Core.Bool.{Bool, true, false, cond, not, ◌&&◌}
use mathlib.Core.List.{List, [], ◌∷◌}
use lib.Dec.{T, eqb}
use lib.Ieee as Ieee
use lib.Ieee.{Float, binary32, fits, is_nan, le, lt, neg}
use lib.Ieee.Fits.{cond-fits, add-fits, sub-fits}
use borrow.Author.Tests.{eqb-true}
use Rattle.arithmetic.specs.Constants.{◌+ᶠ◌, ◌-ᶠ◌, ◌·ᶠ◌, ◌/ᶠ◌, n0, frac_pi2}
use Rattle.arithmetic.specs.Order.{greatest, clamp, finite, choose}
use Rattle.arithmetic.specs.Trigonometry.{arctangent}
use Rattle.arithmetic.proofs.Bounds.{
  never,
  and_left,
  and_right,
  le_self,
  left_number,
  right_number,
  finite_number,
  clamped_low,
  clamped_high,
  unclamped,
  zero_between,
  greatest_right,
  greatest_le,
  least_zero,
  least_finite,
  zero_number,
  eq_self,
}
use Rattle.arithmetic.proofs.Sums.{le_trans, sub_mono, neg_finite, between_finite, add_number}
use Rattle.laws.specs.Config.{within, first_failing, tecs_default, default, validate}
use Rattle.laws.proofs.Validated.{valid_field}
use Rattle.laws.specs.Math.{limit_or_zero, clamp_symmetric}
use Rattle.laws.specs.Types.{gravity, valid_airspeed}
use Rattle.laws.specs.Navigation.{bank_for_accel, pi_finite, pi_step}
use Rattle.laws.specs.Tecs.{flag, reset, update_underspeed, balanced_thrust, thrust, pitch, hold, energy_step}
use Rattle.laws.specs.declared.config.TecsConfig.{TecsConfig}
use Rattle.laws.specs.declared.config.PlaneGuidanceConfig.{PlaneGuidanceConfig}
use Rattle.laws.specs.declared.navigation.PiLoop.{PiLoop}
use Rattle.laws.specs.declared.navigation.PiResult.{PiResult}
use Rattle.laws.specs.declared.tecs.Limits.{Limits}
use Rattle.laws.specs.declared.tecs.Energies.{Energies}
use Rattle.laws.specs.declared.tecs.ThrustResult.{ThrustResult}
use Rattle.laws.specs.declared.types.WaypointCommand.{WaypointCommand}
use Rattle.laws.specs.declared.types.ControlInput.{ControlInput}
use Rattle.laws.specs.declared.types.ControlInput.TheVariants as Input
use Rattle.laws.specs.declared.types.FlightRegime.{FlightRegime}
use Rattle.laws.specs.declared.types.VehicleState.{VehicleState}
use Rattle.guidance.specs.Plane.{no_former, or_zero, capped, top_thrust, limits_of, inputs, roll_of, height_error, fallback, vertical, vertical_law, steered, finite_state, all_finite, fresh, cleared, primed, with_config, restored, bad_time_step, bad_cap, refusal, flown, commanded, waypoint, obeyed, guided}
use Rattle.claims.specs.Calls.{Call, guide, prime, set_config, take_back, Reply, answered, perform, refused, replies}
use Rattle.claims.proofs.Performed.{set_config_is, taken_to, take_back_is}
use Rattle.claims.specs.Limits.{InForce, at_start, underspeed_at, underspeed_by, in_force_after, Between, EnergyLimits, HoldLimits, Corrected, FallbackPitch, FallbackLimits, VerticalLimits, Obeys, AllObey}
use Rattle.guidance.specs.declared.plane.PlaneGuidance.{PlaneGuidance}
use Rattle.guidance.specs.declared.plane.VerticalLaw.{VerticalLaw}
use Rattle.guidance.specs.declared.plane.VerticalLaw.TheVariants.{Energy, Hold, Fallback}
use Rattle.guidance.specs.declared.plane.Guided.{Guided}
use Rattle.guidance.specs.declared.plane.Vertical.{Vertical}

-- ---- what a valid configuration has
pub record Valid (c : PlaneGuidanceConfig) : Type 0 where
  pub bank : le n0 c.max_bank_rad ≡ true
  pub pitch_up : le n0 c.max_pitch_up_rad ≡ true
  pub pitch_down : le n0 c.max_pitch_down_rad ≡ true
  pub least_thrust : is_nan c.min_thrust ≡ false
  pub up_finite : finite c.max_pitch_up_rad ≡ true
  pub down_finite : finite c.max_pitch_down_rad ≡ true
  pub trim_finite : finite c.trim_pitch_rad ≡ true

half_finite : finite frac_pi2 ≡ true
unfolding Ieee.of_bits finite
half_finite = refl

pub zero_finite : finite n0 ≡ true
unfolding Ieee.of_bits finite
zero_finite = refl

pub within_finite : (low x high : Float) → finite low ≡ true → finite high ≡ true → within low x high ≡ true → finite x ≡ true
within_finite low x high a b e = between_finite low x high a b (and_left (le low x) (le x high) e) (and_right (le low x) (le x high) e)

-- the fields whose tests the limits rest on, by document 01's numbers
pub valid : (c : PlaneGuidanceConfig) → validate c ≡ 0 → Valid c
valid c e = record {
  bank = and_left (le n0 c.max_bank_rad) _ (valid_field c e 1);
  pitch_up = and_left (le n0 c.max_pitch_up_rad) _ (valid_field c e 2);
  pitch_down = and_left (le n0 c.max_pitch_down_rad) _ (valid_field c e 3);
  least_thrust = right_number n0 c.min_thrust (and_left (le n0 c.min_thrust) _ (valid_field c e 31));
  up_finite = within_finite n0 _ frac_pi2 zero_finite half_finite (valid_field c e 2);
  down_finite = within_finite n0 _ frac_pi2 zero_finite half_finite (valid_field c e 3);
  trim_finite = within_finite (neg frac_pi2) _ frac_pi2 (neg_finite frac_pi2 half_finite) half_finite (valid_field c e 7);
}

-- ---- roll
bank_number : (a : Float) → is_nan (bank_for_accel a) ≡ false
unfolding bank_for_accel
bank_number a = go (finite (arctangent (a /ᶠ gravity))) refl
  where
    go : (b : Bool) → finite (arctangent (a /ᶠ gravity)) ≡ b → is_nan (choose b (arctangent (a /ᶠ gravity)) n0) ≡ false
    go true e = finite_number (arctangent (a /ᶠ gravity)) e
    go false e = zero_number

symmetric : (v limit : Float) → le n0 limit ≡ true → is_nan v ≡ false → Between (neg limit) (clamp_symmetric v limit) limit
unfolding clamp_symmetric limit_or_zero
symmetric v limit p n =
    let order = zero_between limit limit p p in
    rw p (record { from = clamped_low v (neg limit) limit n order; to = clamped_high v (neg limit) limit n order })

roll_within : (c : PlaneGuidanceConfig) (w : WaypointCommand) (s : VehicleState) → Valid c →
    Between (neg c.max_bank_rad) (roll_of c w s) c.max_bank_rad
unfolding roll_of
roll_within c w s v = symmetric _ c.max_bank_rad v.bank (bank_number _)

-- ---- pitch and thrust
cap_zero : (limit : Float) (cap : Option Float) → le n0 limit ≡ true → bad_cap cap ≡ false → le n0 (capped limit cap) ≡ true
cap_zero limit None p q = p
cap_zero limit (Some n) p q = least_zero limit n p q

pub cap_finite : (limit : Float) (cap : Option Float) → finite limit ≡ true → bad_cap cap ≡ false → finite (capped limit cap) ≡ true
cap_finite limit None p q = p
cap_finite limit (Some n) p q = least_finite limit n p q

span : (v low high : Float) → is_nan (clamp v low high) ≡ false → le low high ≡ true → Between low (clamp v low high) high
span v low high n o = record { from = clamped_low v low high (unclamped v low high n) o; to = clamped_high v low high (unclamped v low high n) o }

pub thrust_span : (c : PlaneGuidanceConfig) → Valid c → le c.min_thrust (top_thrust c) ≡ true
unfolding top_thrust
thrust_span c v = greatest_right c.max_thrust c.min_thrust v.least_thrust

-- -down is at most up
pub pitch_span : (c : PlaneGuidanceConfig) (cap : Option Float) → Valid c → bad_cap cap ≡ false →
    le (neg (capped c.max_pitch_down_rad cap)) (capped c.max_pitch_up_rad cap) ≡ true
pitch_span c cap v q = zero_between _ _ (cap_zero c.max_pitch_down_rad cap v.pitch_down q) (cap_zero c.max_pitch_up_rad cap v.pitch_up q)

-- thrust in its span, and at its top where b says so
abbrev InSpanAtTop : Bool → Limits → Float → Type 0
InSpanAtTop b limits x = Between limits.min_thrust x limits.max_thrust × (b ≡ true → Ieee.eq x limits.max_thrust ≡ true)

-- thrust by whether underspeed stands
abbrev thrust_by : Bool → Float → TecsConfig → Limits → Energies → Float → Float → ThrustResult
thrust_by b i t limits e dt roll = cond b (record { thrust = limits.max_thrust; integral = i }) (balanced_thrust i t limits e dt roll)

thrust_within : (u : ℕ) (i : Float) (t : TecsConfig) (limits : Limits) (e : Energies) (dt roll : Float) →
    le limits.min_thrust limits.max_thrust ≡ true → finite (thrust u i t limits e dt roll).thrust ≡ true →
    InSpanAtTop (flag u) limits (thrust u i t limits e dt roll).thrust
unfolding thrust balanced_thrust
thrust_within u i t limits e dt roll o f = go (flag u) f
  where
    go : (b : Bool) → finite (thrust_by b i t limits e dt roll).thrust ≡ true → InSpanAtTop b limits (thrust_by b i t limits e dt roll).thrust
    go true f =
        let n = right_number limits.min_thrust limits.max_thrust o in
        (record { from = o; to = le_self limits.max_thrust n }, λ u. eq_self limits.max_thrust n)
    go false f = (span _ _ _ (finite_number _ f) o, λ u. never u)

pitch_within : (u : ℕ) (i : Float) (t : TecsConfig) (limits : Limits) (e : Energies) (dt : Float) →
    le (neg limits.pitch_down_rad) limits.pitch_up_rad ≡ true → finite (pitch u i t limits e dt).pitch_rad ≡ true →
    Between (neg limits.pitch_down_rad) (pitch u i t limits e dt).pitch_rad limits.pitch_up_rad
unfolding pitch
pitch_within u i t limits e dt o f = span _ _ _ (finite_number _ f) o

-- the flag that the energy step stores is underspeed as the calls give it
flag_cond : (a b : Bool) (was : ℕ) → flag (cond a 1 (cond b 0 was)) ≡ cond a true (cond b false (flag was))
flag_cond true b was = refl
flag_cond false true was = refl
flag_cond false false was = refl

flag_updated : (was : ℕ) (t : TecsConfig) (airspeed : Float) → flag (update_underspeed was t airspeed) ≡ underspeed_at (flag was) t airspeed
unfolding update_underspeed underspeed_at
flag_updated was t airspeed = flag_cond (lt airspeed (t.underspeed_share ·ᶠ t.min_airspeed_mps)) (le t.min_airspeed_mps airspeed) was

-- what clamp and greatest choose from f32s is one
clamped_fits : (x a b : Float) → T (fits binary32 x) → T (fits binary32 a) → T (fits binary32 b) → T (fits binary32 (clamp x a b))
unfolding clamp
clamped_fits x a b f g h = cond-fits binary32 (lt x a) _ _ g (cond-fits binary32 (lt b x) _ _ h f)

greatest_fits : (a b : Float) → T (fits binary32 a) → T (fits binary32 b) → T (fits binary32 (greatest a b))
unfolding greatest
greatest_fits a b f g = cond-fits binary32 (is_nan a) _ _ g (cond-fits binary32 (is_nan b) _ _ f (cond-fits binary32 (lt b a) _ _ f g))

-- ---- one waypoint
abbrev pub in_force_of : PlaneGuidance → InForce
in_force_of g = record { config = g.config; former = g.former; underspeed = flag g.tecs.underspeed }

module _ (g : PlaneGuidance) (dt : Float) (w : WaypointCommand) (s : VehicleState) (cap : Option Float) (v : Valid g.config) (q : bad_cap cap ≡ false) where
  abbrev result : VerticalLaw → Vertical
  result l = vertical l g.config g.altitude g.tecs dt w s cap

  abbrev then : VerticalLaw → InForce
  then l = record { config = g.config; former = g.former; underspeed = underspeed_by l (in_force_of g) s }

  energy_within : finite (result Energy).pitch_rad ≡ true → finite (result Energy).thrust ≡ true →
      EnergyLimits (then Energy) cap (result Energy).pitch_rad (result Energy).thrust
  unfolding vertical energy_step limits_of inputs
  energy_within fp ft =
      let limits = limits_of g.config cap in
      let t = thrust_within (update_underspeed g.tecs.underspeed g.config.tecs (or_zero (valid_airspeed s))) _ _ limits _ _ _ (thrust_span g.config v) ft in
      record {
        pitch_within = pitch_within _ _ _ limits _ _ (pitch_span g.config cap v q) fp;
        thrust_within = t.0;
        thrust_top = λ u. t.1 (flag_updated g.tecs.underspeed g.config.tecs (or_zero (valid_airspeed s)) ∙ u);
      }

  hold_within : HoldLimits g.config (result Hold).pitch_rad (result Hold).thrust
  unfolding vertical hold limits_of
  hold_within = record { pitch_is = refl; thrust_is = refl }

  abbrev down : Float
  down = capped g.config.max_pitch_down_rad cap

  abbrev up : Float
  up = capped g.config.max_pitch_up_rad cap

  abbrev trim : Float
  trim = g.config.trim_pitch_rad

  abbrev low : Float
  low = neg down -ᶠ trim

  abbrev high : Float
  high = up -ᶠ trim

  -- -down - trim is at most up - trim
  correction_span : le low high ≡ true
  correction_span =
      sub_mono (neg down) up trim (neg_finite down (cap_finite _ cap v.down_finite q)) (cap_finite _ cap v.up_finite q) v.trim_finite
      (pitch_span g.config cap v q)

  -- a clamped correction
  corrected : (x : Float) → T (fits binary32 x) → is_nan (trim +ᶠ clamp x low (greatest high low)) ≡ false →
      Corrected g.config cap (trim +ᶠ clamp x low (greatest high low))
  corrected x f n =
      let k = clamp x low (greatest high low) in
      let b = span x low (greatest high low) (add_number trim k n) (greatest_right high low (left_number low high correction_span)) in
      let low_fits = sub-fits binary32 (neg down) trim in
      record {
        correction = k;
        an_f32 = clamped_fits x low (greatest high low) f low_fits (greatest_fits high low (sub-fits binary32 up trim) low_fits);
        sum = refl;
        within = record { from = b.from; to = le_trans k (greatest high low) high b.to (greatest_le high low correction_span) };
      }

  -- by whether the height error is finite
  abbrev stepped : Bool → Float → PiLoop → PiLoop → PiResult
  stepped b x p p' = cond b (record { output = clamp x low (greatest high low); pi = p }) (record { output = n0; pi = p' })

  pitch_by : (b : Bool) (x : Float) (p p' : PiLoop) → T (fits binary32 x) → is_nan (trim +ᶠ (stepped b x p p').output) ≡ false →
      FallbackPitch b g.config cap (trim +ᶠ (stepped b x p p').output)
  pitch_by true x p p' f n = corrected x f n
  pitch_by false x p p' f n = refl

  fallback_within : finite (result Fallback).pitch_rad ≡ true → finite (result Fallback).thrust ≡ true →
      FallbackLimits g.config w s cap (result Fallback).pitch_rad (result Fallback).thrust
  unfolding vertical fallback limits_of pi_step pi_finite
  fallback_within fp ft = record {
    pitch_within = pitch_by (finite (height_error w s)) _ _ _ (add-fits binary32 _ _) (finite_number _ fp);
    thrust_within = span _ _ _ (finite_number _ ft) (thrust_span g.config v);
  }

  vertical_within : (l : VerticalLaw) → finite (result l).pitch_rad ≡ true → finite (result l).thrust ≡ true →
      VerticalLimits l (then l) w s cap (result l).pitch_rad (result l).thrust
  vertical_within Energy fp ft = energy_within fp ft
  vertical_within Hold fp ft = hold_within
  vertical_within Fallback fp ft = fallback_within fp ft

  -- what is stored of underspeed is what the calls give
  stored_underspeed : (l : VerticalLaw) → flag (result l).tecs.underspeed ≡ underspeed_by l (in_force_of g) s
  unfolding vertical energy_step inputs hold fallback reset
  stored_underspeed Energy = flag_updated g.tecs.underspeed g.config.tecs (or_zero (valid_airspeed s))
  stored_underspeed Hold = refl
  stored_underspeed Fallback = refl

  pitch_finite : (r : Vertical) → all_finite r ≡ true → finite r.pitch_rad ≡ true
  unfolding all_finite
  pitch_finite r e =
      let a = finite r.pitch_rad in
      let b = finite r.thrust in
      let d = finite r.altitude.integral in
      and_left a b (and_left (a && b) d (and_left (a && b && d) (finite_state r.tecs) e))

  thrust_finite : (r : Vertical) → all_finite r ≡ true → finite r.thrust ≡ true
  unfolding all_finite
  thrust_finite r e =
      let a = finite r.pitch_rad in
      let b = finite r.thrust in
      let d = finite r.altitude.integral in
      and_right a b (and_left (a && b) d (and_left (a && b && d) (finite_state r.tecs) e))

-- ---- one call: it obeys, and what the guidance then holds is what is in force after it
pub record Stands (g : PlaneGuidance) (k : Call) (reply : Reply) (next : PlaneGuidance) : Type 0 where
  pub obeys : Obeys (in_force_after (in_force_of g) k (refused reply)) k reply
  pub agrees : in_force_of next ≡ in_force_after (in_force_of g) k (refused reply)

record StandsBy (g : PlaneGuidance) (k : Call) (o : Guided) : Type 0 where
  is : Stands g k (answered o.answer) o.guidance

module _ (g : PlaneGuidance) (dt : Float) (regime : FlightRegime) (s : VehicleState) (cap : Option Float) where
  obeys_refused : (i : InForce) (k : ControlInput) (why : Refusal) → not (eqb (number why) 0) ≡ true → Obeys i (guide dt regime k s cap) (answered (Err why))
  obeys_refused i (Input.Attitude k) n e = tt
  obeys_refused i (Input.Rate k) n e = tt
  obeys_refused i (Input.Waypoint w) n e = e
  obeys_refused i (Input.AbsoluteAttitude k) n e = tt
  obeys_refused i Input.Land n e = tt
  obeys_refused i (Input.AbsoluteRate k) n e = tt

  stands_refusal : (k : ControlInput) (why : Refusal) → not (eqb (number why) 0) ≡ true → StandsBy g (guide dt regime k s cap) (refusal g why)
  stands_refusal k why e = record {
    is = record {
      obeys = obeys_refused _ k why e;
      agrees = ap (in_force_after (in_force_of g) (guide dt regime k s cap)) (sym e);
    };
  }

  stands_flown : Valid g.config → (w : WaypointCommand) → bad_cap cap ≡ false →
      all_finite (vertical (vertical_law dt w s) g.config g.altitude g.tecs dt w s cap) ≡ true →
      StandsBy g (guide dt regime (Input.Waypoint w) s cap)
      (flown g regime (steered g.config w s) (vertical_law dt w s) (vertical (vertical_law dt w s) g.config g.altitude g.tecs dt w s cap))
  stands_flown v w q e =
      let r = vertical (vertical_law dt w s) g.config g.altitude g.tecs dt w s cap in
      record {
        is = record {
          obeys = record {
            roll_within = roll_within g.config w s v;
            vertical_within = vertical_within g dt w s cap v q (vertical_law dt w s) (pitch_finite g dt w s cap v q r e) (thrust_finite g dt w s cap v q r e);
            lateral_name = refl;
            vertical_name = refl;
          };
          agrees = ap (λ (u : Bool). record { config = g.config; former = g.former; underspeed = u }) (stored_underspeed g dt w s cap v q (vertical_law dt w s));
        };
      }

  stands_waypoint : Valid g.config → (w : WaypointCommand) → StandsBy g (guide dt regime (Input.Waypoint w) s cap) (waypoint g dt regime w s cap)
  unfolding waypoint
  stands_waypoint v w =
      let P = StandsBy g (guide dt regime (Input.Waypoint w) s cap) in
      cond_both (bad_cap cap) _ _ P (λ e. stands_refusal (Input.Waypoint w) reason.PitchCap refl)
      (λ q. cond_both (all_finite (vertical (vertical_law dt w s) g.config g.altitude g.tecs dt w s cap)) _ _ P
      (stands_flown v w q) (λ e. stands_refusal (Input.Waypoint w) reason.NotFinite refl))

  stands_obeyed : Valid g.config → (input : ControlInput) → StandsBy g (guide dt regime input s cap) (obeyed g dt regime input s cap)
  unfolding obeyed commanded cleared reset
  stands_obeyed v (Input.Attitude k) = record { is = record { obeys = tt; agrees = refl } }
  stands_obeyed v (Input.Rate k) = record { is = record { obeys = tt; agrees = refl } }
  stands_obeyed v (Input.Waypoint w) = stands_waypoint v w
  stands_obeyed v (Input.AbsoluteAttitude k) = record { is = record { obeys = tt; agrees = refl } }
  stands_obeyed v Input.Land = record { is = record { obeys = tt; agrees = refl } }
  stands_obeyed v (Input.AbsoluteRate k) = record { is = record { obeys = tt; agrees = refl } }

-- a set-configuration, by whether its configuration is valid
agrees_configured : (g h : PlaneGuidance) (c : PlaneGuidanceConfig) → in_force_of h ≡ in_force_after (in_force_of g) (set_config c) false →
    (b : Bool) → in_force_of (cond b h g) ≡ in_force_after (in_force_of g) (set_config c) (not b)
agrees_configured g h c e true = e
agrees_configured g h c e false = refl

-- a taking back, by whether a configuration is kept
agrees_taken : (g h : PlaneGuidance) → in_force_of h ≡ in_force_after (in_force_of g) take_back false → (b : Bool) →
    in_force_of (taken_to g h b).next ≡ in_force_after (in_force_of g) take_back (refused (taken_to g h b).reply)
agrees_taken g h e true = e
agrees_taken g h e false = refl

pub stands : (g : PlaneGuidance) → Valid g.config → (k : Call) → Stands g k (perform g k).reply (perform g k).next
unfolding perform guided primed cleared reset with_config restored
stands g v (guide dt regime input s cap) =
    (cond_both (bad_time_step dt) _ _ (StandsBy g (guide dt regime input s cap)) (λ e. stands_refusal g dt regime s cap input reason.TimeStep refl) (λ e. stands_obeyed g dt regime s cap v input)).is
stands g v prime = record { obeys = tt; agrees = refl }
stands g v (set_config c) = rw (set_config_is g c) (record { obeys = tt; agrees = agrees_configured g _ c refl (eqb (validate c) 0) })
stands g v take_back = rw (take_back_is g) (record { obeys = tt; agrees = agrees_taken g (restored g) refl (flag g.former.kept) })

-- ---- the configuration in force and the kept one stay valid
pub record BothValid (config former : PlaneGuidanceConfig) : Type 0 where
  pub in_force_lem : validate config ≡ 0
  pub kept : validate former ≡ 0

default_valid : validate default ≡ 0
unfolding validate first_failing default tecs_default finite Ieee.of_bits Ieee.lt Ieee.le Ieee.neg
default_valid = refl

pub fresh_valid : (c : PlaneGuidanceConfig) → validate c ≡ 0 → BothValid (fresh c).config (fresh c).former.config
unfolding fresh no_former
fresh_valid c e = record { in_force_lem = e; kept = default_valid }

in_force_valid : (g : PlaneGuidance) → BothValid g.config g.former.config → (k : Call) →
    let i = in_force_after (in_force_of g) k (refused (perform g k).reply) in BothValid i.config i.former.config
unfolding perform no_former
in_force_valid g e (guide dt regime input s cap) = pick (refused (answered (guided g dt regime input s cap).answer))
  where
    pick : (b : Bool) → let i = in_force_after (in_force_of g) (guide dt regime input s cap) b in BothValid i.config i.former.config
    pick true = e
    pick false = e
in_force_valid g e prime = e
in_force_valid g e (set_config c) = rw (set_config_is g c) (pick (eqb (validate c) 0) refl)
  where
    pick : (b : Bool) → eqb (validate c) 0 ≡ b → let i = in_force_after (in_force_of g) (set_config c) (not b) in BothValid i.config i.former.config
    pick true h = record { in_force_lem = eqb-true (validate c) 0 h; kept = e.in_force_lem }
    pick false h = e
in_force_valid g e take_back = rw (take_back_is g) (pick (flag g.former.kept))
  where
    pick : (b : Bool) → let i = in_force_after (in_force_of g) take_back (refused (taken_to g (restored g) b).reply) in
        BothValid i.config i.former.config
    pick true = record { in_force_lem = e.kept; kept = default_valid }
    pick false = e

pub still_valid : (g : PlaneGuidance) (k : Call) → BothValid g.config g.former.config →
    BothValid (perform g k).next.config (perform g k).next.former.config
still_valid g k e =
    subst (λ (i : InForce). BothValid i.config i.former.config) (sym (stands g (valid g.config e.in_force_lem) k).agrees) (in_force_valid g e k)

-- ---- the list
all_obey : (g : PlaneGuidance) (i : InForce) → BothValid g.config g.former.config → i ≡ in_force_of g → (ks : List Call) →
    AllObey i ks (replies g ks)
unfolding replies
all_obey g i e p [] = tt
all_obey g i e p (k ∷ ks) =
    let t = stands g (valid g.config e.in_force_lem) k in
    rw p (t.obeys, all_obey (perform g k).next _ (still_valid g k e) (sym t.agrees) ks)

pub limited : (c : PlaneGuidanceConfig) → validate c ≡ 0 → (ks : List Call) → AllObey (at_start c) ks (replies (fresh c) ks)
unfolding fresh reset
limited c e ks = all_obey (fresh c) _ (fresh_valid c e) refl ks
