-- Demand 3: struck calls and fresh starts. Assumes nothing.
use Rattle.std.specs.Prelude.{Option, Float}
use Rattle.std.proofs.lemmas.Bool.{not-true}
use Rattle.refusals.specs.Numbers.{number}
use Rattle.refusals.specs.declared.Refusal.{Refusal}
use Rattle.refusals.specs.declared.Refusal.TheVariants as reason
use mathlib.Core.Path.{◌≡◌, refl, sym, ap, ◌∙◌, subst}
use mathlib.Core.Bool.{Bool, true, false, cond, not, ◌&&◌, ◌||◌}
use mathlib.Core.List.{List, [], ◌∷◌}
use lib.Dec.{eqb}
use lib.Ieee.{Float}
use Rattle.arithmetic.proofs.Bounds.{never, never', and_left, and_right}
use Rattle.laws.specs.Config.{validate}
use Rattle.laws.specs.Tecs.{flag, hold}
use Rattle.laws.specs.declared.config.PlaneGuidanceConfig.{PlaneGuidanceConfig}
use Rattle.laws.specs.declared.types.WaypointCommand.{WaypointCommand}
use Rattle.laws.specs.declared.types.ControlInput.{ControlInput}
use Rattle.laws.specs.declared.types.ControlInput.TheVariants as Input
use Rattle.laws.specs.declared.types.FlightRegime.{FlightRegime}
use Rattle.laws.specs.declared.types.VehicleState.{VehicleState}
use Rattle.laws.specs.declared.types.Setpoint.{Setpoint}
use Rattle.guidance.specs.Plane.{
  is_waypoint,
  no_integral,
  fresh,
  cleared,
  primed,
  with_config,
  restored,
  bad_time_step,
  bad_cap,
  refusal,
  all_finite,
  vertical,
  vertical_law,
  steered,
  settled,
  commanded,
  waypoint,
  obeyed,
  guided,
}
use Rattle.claims.specs.Calls.{Call, guide, prime, set_config, take_back, Reply, answered, perform, refused, replies, refusals, law_is, is_hold, is_fallback, holds, fell_back, struck, strikes, unmarked, starts_fresh, settings_of, fresh_with}
use Rattle.claims.proofs.Performed.{set_config_is, taken_to, take_back_is}
use Rattle.guidance.specs.declared.plane.PlaneGuidance.{PlaneGuidance}
use Rattle.guidance.specs.declared.plane.VerticalLaw.{VerticalLaw}
use Rattle.guidance.specs.declared.plane.VerticalLaw.TheVariants.{Energy, Hold, Fallback}
use Rattle.guidance.specs.declared.plane.Steered.{Steered}
use Rattle.guidance.specs.declared.plane.Guided.{Guided}
use Rattle.claims.proofs.Alike.{Alike, alike_refl, alike_sym, alike_trans, perform_alike, replies_alike}

-- ---- what one call leaves behind, by whether it was refused

-- the altitude loop as `new` makes it
abbrev Idle : PlaneGuidance → Type 0
Idle g = g.altitude ≡ no_integral

-- `refused` and the call's own kind say how the guidance after it stands to the one before it
record Left (g : PlaneGuidance) (k : Call) (next : PlaneGuidance) (refused : Bool) : Type 0 where
  unchanged : refused ≡ true → Alike g next
  held : refused ≡ false → holds k ≡ true → Idle g → Alike g next
  idle : (before : Bool) → (before ≡ false → Idle g) → fell_back before k refused ≡ false → Idle next
  started : starts_fresh k refused ≡ true → Alike (fresh_with (settings_of g)) next

-- the same of a guide call
record LeftBy (g : PlaneGuidance) (k : Call) (o : Guided) : Type 0 where
  is : Left g k o.guidance (refused (answered o.answer))

either : {g : PlaneGuidance} {k : Call} (b : Bool) {x y : Guided} → LeftBy g k x → LeftBy g k y → LeftBy g k (cond b x y)
either true p q = p
either false p q = q

unchanged_by : (g : PlaneGuidance) (k : Call) → Left g k g true
unchanged_by g k = record {
  unchanged = λ e. alike_refl g;
  held = λ e h a. never' e;
  idle = λ before inv e. inv e;
  started = λ e. never e;
}

left_refusal : (g : PlaneGuidance) (k : Call) (why : Refusal) → not (eqb (number why) 0) ≡ true → LeftBy g k (refusal g why)
left_refusal g k why e = record { is = subst (Left g k g) (sym e) (unchanged_by g k) }

module _ (g : PlaneGuidance) (dt : Float) (regime : FlightRegime) (s : VehicleState) (cap : Option Float) where
  -- a command other than a waypoint
  left_commanded : (k : ControlInput) → is_waypoint k ≡ false → law_is is_hold dt k s ≡ false → (t : Setpoint) →
      LeftBy g (guide dt regime k s cap) (commanded g regime t)
  unfolding commanded cleared fresh
  left_commanded k w h t = record {
    is = record {
      unchanged = λ e. never e;
      held = λ e l a. never (sym h ∙ l);
      idle = λ before inv e. refl;
      started = λ e. record { config = refl; altitude = refl; tecs = refl; former = refl };
    };
  }

  left_settled : (w : WaypointCommand) (lateral : Steered) (law l : VerticalLaw) → vertical_law dt w s ≡ l →
      LeftBy g (guide dt regime (Input.Waypoint w) s cap) (settled g regime lateral law (vertical l g.config g.altitude g.tecs dt w s cap))
  unfolding vertical hold
  left_settled w lateral law Energy is =
      either (all_finite (vertical Energy g.config g.altitude g.tecs dt w s cap))
      (record {
        is = record {
          unchanged = λ e. never e;
          held = λ e h a. never (ap is_hold (sym is) ∙ h);
          idle = λ before inv e. refl;
          started = λ e. never e;
        };
      })
      (left_refusal g _ reason.NotFinite refl)
  left_settled w lateral law Hold is =
      either (all_finite (vertical Hold g.config g.altitude g.tecs dt w s cap))
      (record {
        is = record {
          unchanged = λ e. never e;
          held = λ e h a. record { config = refl; altitude = a; tecs = refl; former = refl };
          idle = λ before inv e. refl;
          started = λ e. never e;
        };
      })
      (left_refusal g _ reason.NotFinite refl)
  left_settled w lateral law Fallback is =
      either (all_finite (vertical Fallback g.config g.altitude g.tecs dt w s cap))
      (record {
        is = record {
          unchanged = λ e. never e;
          held = λ e h a. never (ap is_hold (sym is) ∙ h);
          idle = λ before inv e. never' (ap is_fallback (sym is) ∙ e);
          started = λ e. never e;
        };
      })
      (left_refusal g _ reason.NotFinite refl)

  left_waypoint : (w : WaypointCommand) → LeftBy g (guide dt regime (Input.Waypoint w) s cap) (waypoint g dt regime w s cap)
  unfolding waypoint
  left_waypoint w =
      either (bad_cap cap) (left_refusal g _ reason.PitchCap refl)
      (left_settled w (steered g.config w s) (vertical_law dt w s) (vertical_law dt w s) refl)

  left_obeyed : (input : ControlInput) → LeftBy g (guide dt regime input s cap) (obeyed g dt regime input s cap)
  unfolding obeyed
  left_obeyed (Input.Attitude k) = left_commanded (Input.Attitude k) refl refl _
  left_obeyed (Input.Rate k) = left_commanded (Input.Rate k) refl refl _
  left_obeyed (Input.Waypoint w) = left_waypoint w
  left_obeyed (Input.AbsoluteAttitude k) = left_commanded (Input.AbsoluteAttitude k) refl refl _
  left_obeyed Input.Land = left_commanded Input.Land refl refl _
  left_obeyed (Input.AbsoluteRate k) = left_commanded (Input.AbsoluteRate k) refl refl _

-- a set-configuration, by whether its configuration is valid
left_configured : (g : PlaneGuidance) (c : PlaneGuidanceConfig) (h : PlaneGuidance) → g.altitude ≡ h.altitude → (valid : Bool) →
    Left g (set_config c) (cond valid h g) (not valid)
left_configured g c h a true = record {
  unchanged = λ e. never e;
  held = λ e l i. never l;
  idle = λ before inv e. sym a ∙ inv e;
  started = λ e. never e;
}
left_configured g c h a false = unchanged_by g (set_config c)

-- a taking back, by whether one is kept
left_taken : (g : PlaneGuidance) (h : PlaneGuidance) → g.altitude ≡ h.altitude → (kept : Bool) →
    let o = taken_to g h kept in
    Left g take_back o.next (refused o.reply)
left_taken g h a true = record {
  unchanged = λ e. never e;
  held = λ e l i. never l;
  idle = λ before inv e. sym a ∙ inv e;
  started = λ e. never e;
}
left_taken g h a false = unchanged_by g take_back

left : (g : PlaneGuidance) (k : Call) → Left g k (perform g k).next (refused (perform g k).reply)
unfolding perform guided primed cleared with_config restored fresh
left g (guide dt regime input s cap) = (either (bad_time_step dt) (left_refusal g _ reason.TimeStep refl) (left_obeyed g dt regime s cap input)).is
left g prime = record {
  unchanged = λ e. never e;
  held = λ e l i. never l;
  idle = λ before inv e. refl;
  started = λ e. record { config = refl; altitude = refl; tecs = refl; former = refl };
}
left g (set_config c) = rw (set_config_is g c) (left_configured g c _ refl (eqb (validate c) 0))
left g take_back = rw (take_back_is g) (left_taken g (restored g) refl (flag g.former.kept))

-- ---- struck calls

or_cases : (a b : Bool) → a || b ≡ true → {A : Type 0} → (a ≡ true → A) → (a ≡ false → b ≡ true → A) → A
or_cases true b e f h = f refl
or_cases false b e f h = h refl e

-- a struck call changes nothing but the requested regime
struck_alike : (g : PlaneGuidance) (before : Bool) → (before ≡ false → Idle g) → (k : Call) →
    struck before k (refused (perform g k).reply) ≡ true → Alike g (perform g k).next
struck_alike g before inv k e =
    let r = refused (perform g k).reply in
    or_cases r (holds k && not before) e (left g k).unchanged
    (λ n q. (left g k).held n (and_left (holds k) (not before) q) (inv (not-true before (and_right (holds k) (not before) q))))

-- the marks of a run from g, where `before` says whether the last accepted guide or prime call was a fallback
abbrev marks_from : PlaneGuidance → Bool → List Call → List Bool
marks_from g before ks = strikes before ks (refusals (replies g ks))

strike_one : (g h : PlaneGuidance) (before : Bool) (k : Call) → Alike g h → (before ≡ false → Idle g) →
    (ms : List Bool) (ks : List Call) (rs : List Reply) →
    ((x : PlaneGuidance) → Alike (perform g k).next x → replies x (unmarked ms ks) ≡ unmarked ms rs) → (m : Bool) →
    struck before k (refused (perform g k).reply) ≡ m →
    replies h (cond m (unmarked ms ks) (k ∷ unmarked ms ks)) ≡ cond m (unmarked ms rs) ((perform g k).reply ∷ unmarked ms rs)
unfolding replies
strike_one g h before k p inv ms ks rs ih true e = ih h (alike_trans (alike_sym (struck_alike g before inv k e)) p)
strike_one g h before k p inv ms ks rs ih false e =
    let q = perform_alike g h p k in
    λ i. sym q.reply i ∷ ih (perform h k).next q.next i

pub strike : (g h : PlaneGuidance) (before : Bool) → Alike g h → (before ≡ false → Idle g) → (ks : List Call) →
    replies h (unmarked (marks_from g before ks) ks) ≡ unmarked (marks_from g before ks) (replies g ks)
unfolding replies refusals strikes unmarked
strike g h before p inv [] = refl
strike g h before p inv (k ∷ ks) =
    let o = perform g k in
    let r = refused o.reply in
    strike_one g h before k p inv (marks_from o.next (fell_back before k r) ks) ks (replies o.next ks)
    (λ x q. strike o.next x (fell_back before k r) q ((left g k).idle before inv) ks)
    (struck before k r) refl

-- ---- fresh start

-- a call that starts fresh keeps both configurations
pub start : (g : PlaneGuidance) (k : Call) (ks : List Call) → starts_fresh k (refused (perform g k).reply) ≡ true →
    replies (perform g k).next ks ≡ replies (fresh_with (settings_of (perform g k).next)) ks
unfolding fresh
start g k ks e =
    let p = (left g k).started e in
    let next = (perform g k).next in
    let same : Alike (fresh_with (settings_of next)) next = record { config = refl; altitude = p.altitude; tecs = p.tecs; former = refl } in
    sym (replies_alike (fresh_with (settings_of next)) next same ks)
