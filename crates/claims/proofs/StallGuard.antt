-- The stall guard's report after every list of calls, and full thrust while it stands. Assumes nothing.
use Rattle.std.specs.Prelude.{Option, Ok, Float}
use mathlib.Core.Path.{◌≡◌, refl, sym, ap, ◌∙◌, subst}
use mathlib.Core.Bool.{Bool, true, false, cond, not, ◌||◌}
use mathlib.Core.List.{List, [], ◌∷◌}
use lib.Ieee as Ieee
use lib.Ieee.{Float}
use Rattle.arithmetic.proofs.Bounds.{never}
use Rattle.laws.specs.Config.{validate}
use Rattle.laws.specs.Types.{valid_airspeed}
use Rattle.laws.specs.Tecs.{reset}
use Rattle.laws.specs.declared.config.PlaneGuidanceConfig.{PlaneGuidanceConfig}
use Rattle.laws.specs.declared.types.ControlInput.TheVariants as Input
use Rattle.laws.specs.declared.types.WaypointCommand.{WaypointCommand}
use Rattle.laws.specs.declared.types.FlightRegime.{FlightRegime}
use Rattle.laws.specs.declared.types.VehicleState.{VehicleState}
use Rattle.laws.specs.declared.types.Setpoint.TheVariants as Set
use Rattle.guidance.specs.Plane.{fresh, or_zero, vertical_law, top_thrust, stall_guard}
use Rattle.guidance.specs.declared.plane.PlaneGuidance.{PlaneGuidance}
use Rattle.guidance.specs.declared.plane.VerticalLaw.{VerticalLaw}
use Rattle.guidance.specs.declared.plane.VerticalLaw.TheVariants.{Energy, Hold, Fallback}
use Rattle.guidance.specs.declared.plane.WaypointAnswer.{WaypointAnswer}
use Rattle.guidance.specs.declared.plane.Answer.TheVariants.{Waypoint}
use Rattle.claims.specs.Calls.{Call, guide, prime, set_config, take_back, answered, perform, refused, after, is_energy, is_fallback}
use Rattle.claims.specs.Limits.{InForce, underspeed_at, in_force_after, VerticalLimits, Obeys, SetpointLimits}
use Rattle.claims.specs.StallGuard.{Made, made, backwards, since, those, clearing, is_energy_step, is_kept, slow, regains, latest_slow, guard_stands, steps, StallGuardTold}
use Rattle.claims.proofs.Limited.{valid, in_force_of, stands, BothValid, fresh_valid, still_valid}
use Rattle.claims.proofs.Runs.{valid_along}

-- ---- one call more

-- the call k, made with the configuration c, accepted or not
abbrev now : Call → PlaneGuidanceConfig → Bool → Made
now k c r = record { call = k; config = c; accepted = not r }

-- by whether a step is kept, and of which sort
one_kept : (a b : Bool) (m : Made) (ms : List Made) → slow m ≡ a → latest_slow (cond (a || b) (m ∷ ms) ms) ≡ cond a true (cond b false (latest_slow ms))
one_kept true b m ms e = e
one_kept false true m ms e = e
one_kept false false m ms e = refl

-- by whether the latest call clears, and whether it is an energy step
one_more : (m : Made) (ms : List Made) (over step : Bool) → clearing m ≡ over → is_energy_step m ≡ step →
    guard_stands (m ∷ ms) ≡ cond over false (cond step (cond (slow m) true (cond (regains m) false (guard_stands ms))) (guard_stands ms))
unfolding guard_stands since those
one_more m ms true step p q = rw p refl
one_more m ms false true p q = rw p (rw q (one_kept (slow m) (regains m) m (those is_kept (those is_energy_step (since clearing ms))) refl))
one_more m ms false false p q = rw p (rw q refl)

-- what is in force after a call, and what the list then says
module _ (i : InForce) (ms : List Made) (is : guard_stands ms ≡ i.underspeed) where
  abbrev c : PlaneGuidanceConfig
  c = i.config

  abbrev Says : Call → Bool → Type 0
  Says k r = guard_stands (now k c r ∷ ms) ≡ (in_force_after i k r).underspeed

  waypoint_says : (dt : Float) (regime : FlightRegime) (w : WaypointCommand) (s : VehicleState) (cap : Option Float) (law : VerticalLaw) →
      vertical_law dt w s ≡ law → Says (guide dt regime (Input.Waypoint w) s cap) false
  unfolding underspeed_at
  waypoint_says dt regime w s cap Energy e =
      rw e (one_more (now (guide dt regime (Input.Waypoint w) s cap) c false) ms false true (ap is_fallback e) (ap is_energy e)
      ∙ ap (λ (b : Bool). underspeed_at b c.tecs (or_zero (valid_airspeed s))) is)
  waypoint_says dt regime w s cap Hold e =
      rw e (one_more (now (guide dt regime (Input.Waypoint w) s cap) c false) ms false false (ap is_fallback e) (ap is_energy e) ∙ is)
  waypoint_says dt regime w s cap Fallback e =
      rw e (one_more (now (guide dt regime (Input.Waypoint w) s cap) c false) ms true false (ap is_fallback e) (ap is_energy e))

  says : (k : Call) (r : Bool) → Says k r
  unfolding guard_stands since those
  says k true = is
  says (guide dt regime (Input.Attitude k) s cap) false = refl
  says (guide dt regime (Input.Rate k) s cap) false = refl
  says (guide dt regime (Input.Waypoint w) s cap) false = waypoint_says dt regime w s cap (vertical_law dt w s) refl
  says (guide dt regime (Input.AbsoluteAttitude k) s cap) false = refl
  says (guide dt regime Input.Land s cap) false = refl
  says (guide dt regime (Input.AbsoluteRate k) s cap) false = refl
  says prime false = refl
  says (set_config d) false = is
  says take_back false = is

-- ---- the list

told : (g : PlaneGuidance) → BothValid g.config g.former.config → (ms : List Made) → guard_stands ms ≡ stall_guard g → (ks : List Call) →
    stall_guard (after g ks) ≡ guard_stands (backwards (made g ks) ms)
unfolding after made backwards
told g e ms is [] = sym is
told g e ms is (k ∷ ks) =
    let r = refused (perform g k).reply in
    told (perform g k).next (still_valid g k e) (now k g.config r ∷ ms)
    (says (in_force_of g) ms is k r ∙ ap (λ (i : InForce). i.underspeed) (sym (stands g (valid g.config e.in_force_lem) k).agrees)) ks

-- ---- full thrust

-- an energy step's limits, from those of its answer
full : (i : InForce) (law : VerticalLaw) (w : WaypointCommand) (s : VehicleState) (cap : Option Float) (pitch thrust : Float) → is_energy law ≡ true →
    VerticalLimits law i w s cap pitch thrust → i.underspeed ≡ true → Ieee.eq thrust (top_thrust i.config) ≡ true
full i Energy w s cap pitch thrust e l u = l.thrust_top u
full i Hold w s cap pitch thrust e l u = never e
full i Fallback w s cap pitch thrust e l u = never e

full_thrust : (g : PlaneGuidance) → validate g.config ≡ 0 →
    (dt : Float) (regime : FlightRegime) (w : WaypointCommand) (s : VehicleState) (cap : Option Float) →
    let k = guide dt regime (Input.Waypoint w) s cap in
    steps k ≡ true → (a : WaypointAnswer) (roll pitch thrust : Float) → (perform g k).reply ≡ answered (Ok (Waypoint a)) →
    a.setpoint ≡ Set.Plane roll pitch thrust →
    stall_guard (perform g k).next ≡ true → Ieee.eq thrust (top_thrust g.config) ≡ true
full_thrust g e dt regime w s cap q a roll pitch thrust r p u =
    let k = guide dt regime (Input.Waypoint w) s cap in
    let t = stands g (valid g.config e) k in
    let j = in_force_after (in_force_of g) k (refused (perform g k).reply) in
    let l : Obeys j k (answered (Ok (Waypoint a))) = subst (Obeys j k) r t.obeys in
    let m : SetpointLimits j dt w s cap a.laws (Set.Plane roll pitch thrust) = subst (SetpointLimits j dt w s cap a.laws) p l in
    let same : j.config ≡ g.config = config_stays (refused (perform g k).reply) in
    subst (λ (c : PlaneGuidanceConfig). Ieee.eq thrust (top_thrust c) ≡ true) same
    (full j (vertical_law dt w s) w s cap pitch thrust q m.vertical_within (ap (λ (i : InForce). i.underspeed) (sym t.agrees) ∙ u))
  where
    config_stays : (b : Bool) → (in_force_after (in_force_of g) (guide dt regime (Input.Waypoint w) s cap) b).config ≡ g.config
    config_stays true = refl
    config_stays false = refl

pub stall_guard_told : (c : PlaneGuidanceConfig) → validate c ≡ 0 → (calls : List Call) → StallGuardTold c calls
unfolding fresh reset guard_stands since those
stall_guard_told c e calls = record {
  stands = told (fresh c) (fresh_valid c e) [] refl calls;
  full_thrust = λ before rest dt regime w s cap at q a roll pitch thrust r p u.
      full_thrust (after (fresh c) before) (valid_along c e before) dt regime w s cap q a roll pitch thrust r p u;
}
