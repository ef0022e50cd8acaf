-- Two guidances that differ in the requested regime alone are answered alike, and stay so; two that differ in the kept configuration
-- too, up to a taking back. Assumes nothing.
use Rattle.std.specs.Prelude.{Option, Float}
use Rattle.refusals.specs.declared.Refusal.{Refusal}
use Rattle.refusals.specs.declared.Refusal.TheVariants as reason
use Prim.Native.Nat.{ℕ}
use mathlib.Core.Path.{◌≡◌, refl, sym, ap, ◌∙◌, subst}
use mathlib.Core.Bool.{Bool, true, false, cond}
use mathlib.Core.List.{List, [], ◌∷◌}
use lib.Dec.{eqb}
use lib.Ieee.{Float}
use Rattle.arithmetic.proofs.Bounds.{never'}
use Rattle.laws.specs.Config.{validate}
use Rattle.laws.specs.declared.types.WaypointCommand.{WaypointCommand}
use Rattle.laws.specs.declared.types.ControlInput.{ControlInput}
use Rattle.laws.specs.declared.types.ControlInput.TheVariants as Input
use Rattle.laws.specs.declared.types.FlightRegime.{FlightRegime}
use Rattle.laws.specs.declared.types.VehicleState.{VehicleState}
use Rattle.laws.specs.declared.types.Setpoint.{Setpoint}
use Rattle.guidance.specs.Plane.{
  cleared,
  primed,
  with_config,
  restored,
  bad_time_step,
  bad_cap,
  refusal,
  all_finite,
  vertical,
  vertical_law,
  commanded,
  waypoint,
  obeyed,
  guided,
}
use Rattle.claims.specs.Calls.{Call, guide, prime, set_config, take_back, answered, Outcome, answered_by, perform, replies}
use Rattle.claims.proofs.Performed.{set_config_is, taken_to, take_back_is}
use Rattle.guidance.specs.declared.plane.Former.{Former}
use Rattle.guidance.specs.declared.plane.PlaneGuidance.{PlaneGuidance}
use Rattle.guidance.specs.declared.plane.Guided.{Guided}
use Rattle.laws.specs.Tecs.{flag}
use Rattle.claims.specs.Undone.{is_take_back, up_to_take_back}

-- equal in all that a call other than a taking back reads
pub record Near (g h : PlaneGuidance) : Type 0 where
  pub config : g.config ≡ h.config
  pub altitude : g.altitude ≡ h.altitude
  pub tecs : g.tecs ≡ h.tecs

-- equal but for the requested regime
pub record Alike (g h : PlaneGuidance) : Type 0 where
  pub config : g.config ≡ h.config
  pub altitude : g.altitude ≡ h.altitude
  pub tecs : g.tecs ≡ h.tecs
  pub former : g.former ≡ h.former

pub alike_refl : (g : PlaneGuidance) → Alike g g
alike_refl g = record { config = refl; altitude = refl; tecs = refl; former = refl }

pub alike_sym : {g h : PlaneGuidance} → Alike g h → Alike h g
alike_sym p = record { config = sym p.config; altitude = sym p.altitude; tecs = sym p.tecs; former = sym p.former }

pub alike_trans : {g h k : PlaneGuidance} → Alike g h → Alike h k → Alike g k
alike_trans p q = record {
  config = p.config ∙ q.config;
  altitude = p.altitude ∙ q.altitude;
  tecs = p.tecs ∙ q.tecs;
  former = p.former ∙ q.former;
}

-- ---- the same guidance with another requested regime and another kept configuration

abbrev other : ℕ → Former → PlaneGuidance → PlaneGuidance
other n f g = record { config = g.config; requested = n; altitude = g.altitude; tecs = g.tecs; former = f }

near_only : (g h : PlaneGuidance) → Near g h → other h.requested h.former g ≡ h
near_only g h p = λ i. record { config = p.config i; requested = h.requested; altitude = p.altitude i; tecs = p.tecs i; former = h.former }

regime_only : (g h : PlaneGuidance) → Alike g h → other h.requested g.former g ≡ h
regime_only g h p = λ i. record { config = p.config i; requested = h.requested; altitude = p.altitude i; tecs = p.tecs i; former = p.former i }

-- x and y, which a call left of g and h, are near, and keep the same where g and h did
pub record Follow (g h x y : PlaneGuidance) : Type 0 where
  pub near : Near x y
  pub former : g.former ≡ h.former → x.former ≡ y.former

record FollowGuided (g h : PlaneGuidance) (o o' : Guided) : Type 0 where
  answer : o.answer ≡ o'.answer
  guidance : Follow g h o.guidance o'.guidance

either : {g h : PlaneGuidance} (b : Bool) {x x' y y' : Guided} → FollowGuided g h x x' → FollowGuided g h y y' →
    FollowGuided g h (cond b x y) (cond b x' y')
either true p q = p
either false p q = q

either_guidance : {g h : PlaneGuidance} (b : Bool) {x x' y y' : PlaneGuidance} → Follow g h x x' → Follow g h y y' →
    Follow g h (cond b x y) (cond b x' y')
either_guidance true p q = p
either_guidance false p q = q

module _ (n : ℕ) (f : Former) (g : PlaneGuidance) where
  own : Follow g (other n f g) g (other n f g)
  own = record { near = record { config = refl; altitude = refl; tecs = refl }; former = λ e. e }

  refusal_near : (why : Refusal) → FollowGuided g (other n f g) (refusal g why) (refusal (other n f g) why)
  refusal_near why = record { answer = refl; guidance = own }

  commanded_near : (regime : FlightRegime) (s : Setpoint) → FollowGuided g (other n f g) (commanded g regime s) (commanded (other n f g) regime s)
  unfolding commanded cleared
  commanded_near regime s = record { answer = refl; guidance = record { near = record { config = refl; altitude = refl; tecs = refl }; former = λ e. e } }

  waypoint_near : (dt : Float) (regime : FlightRegime) (w : WaypointCommand) (s : VehicleState) (cap : Option Float) →
      FollowGuided g (other n f g) (waypoint g dt regime w s cap) (waypoint (other n f g) dt regime w s cap)
  unfolding waypoint
  waypoint_near dt regime w s cap =
      either (bad_cap cap) (refusal_near reason.PitchCap)
      (either (all_finite (vertical (vertical_law dt w s) g.config g.altitude g.tecs dt w s cap))
      (record { answer = refl; guidance = record { near = record { config = refl; altitude = refl; tecs = refl }; former = λ e. e } })
      (refusal_near reason.NotFinite))

  obeyed_near : (dt : Float) (regime : FlightRegime) (input : ControlInput) (s : VehicleState) (cap : Option Float) →
      FollowGuided g (other n f g) (obeyed g dt regime input s cap) (obeyed (other n f g) dt regime input s cap)
  unfolding obeyed
  obeyed_near dt regime (Input.Attitude k) s cap = commanded_near regime _
  obeyed_near dt regime (Input.Rate k) s cap = commanded_near regime _
  obeyed_near dt regime (Input.Waypoint w) s cap = waypoint_near dt regime w s cap
  obeyed_near dt regime (Input.AbsoluteAttitude k) s cap = commanded_near regime _
  obeyed_near dt regime Input.Land s cap = commanded_near regime _
  obeyed_near dt regime (Input.AbsoluteRate k) s cap = commanded_near regime _

-- ---- any call but a taking back

pub record FollowOutcome (g h : PlaneGuidance) (o o' : Outcome) : Type 0 where
  pub reply : o.reply ≡ o'.reply
  pub next : Follow g h o.next o'.next

answered_near : {g h : PlaneGuidance} {o o' : Guided} → FollowGuided g h o o' → FollowOutcome g h (answered_by o) (answered_by o')
answered_near p = record { reply = ap answered p.answer; next = p.guidance }

perform_other : (n : ℕ) (f : Former) (g : PlaneGuidance) (k : Call) → is_take_back k ≡ false →
    FollowOutcome g (other n f g) (perform g k) (perform (other n f g) k)
unfolding perform guided primed cleared with_config
perform_other n f g (guide dt regime input s cap) e =
    answered_near (either (bad_time_step dt) (refusal_near n f g reason.TimeStep) (obeyed_near n f g dt regime input s cap))
perform_other n f g prime e = record { reply = refl; next = record { near = record { config = refl; altitude = refl; tecs = refl }; former = λ p. p } }
perform_other n f g (set_config c) e =
    rw (set_config_is g c, set_config_is (other n f g) c)
    (record {
      reply = refl;
      next = either_guidance (eqb (validate c) 0) (record { near = record { config = refl; altitude = refl; tecs = refl }; former = λ p. refl }) (own n f g);
    })
perform_other n f g take_back e = never' e

pub perform_near : (g h : PlaneGuidance) → Near g h → (k : Call) → is_take_back k ≡ false → FollowOutcome g h (perform g k) (perform h k)
perform_near g h p k e =
    subst (λ (x : PlaneGuidance). FollowOutcome g x (perform g k) (perform x k)) (near_only g h p) (perform_other h.requested h.former g k e)

-- up to the first taking back
near_one : (g h : PlaneGuidance) → Near g h → (k : Call) (us : List Call) →
    (Near (perform g k).next (perform h k).next → replies (perform g k).next us ≡ replies (perform h k).next us) →
    (b : Bool) → is_take_back k ≡ b → replies g (cond b [] (k ∷ us)) ≡ replies h (cond b [] (k ∷ us))
unfolding replies
near_one g h p k us rest true e = refl
near_one g h p k us rest false e =
    let q = perform_near g h p k e in
    λ i. q.reply i ∷ rest q.next.near i

pub replies_near : (g h : PlaneGuidance) → Near g h → (ks : List Call) → replies g (up_to_take_back ks) ≡ replies h (up_to_take_back ks)
unfolding replies up_to_take_back
replies_near g h p [] = refl
replies_near g h p (k ∷ ks) =
    near_one g h p k (up_to_take_back ks) (λ q. replies_near (perform g k).next (perform h k).next q ks) (is_take_back k) refl

-- ---- any call

pub record AlikeOutcome (o o' : Outcome) : Type 0 where
  pub reply : o.reply ≡ o'.reply
  pub next : Alike o.next o'.next

either_taken : (b : Bool) {g g' h h' : PlaneGuidance} → Alike g g' → Alike h h' → AlikeOutcome (taken_to g h b) (taken_to g' h' b)
either_taken true p q = record { reply = refl; next = q }
either_taken false p q = record { reply = refl; next = p }

taken_alike : (n : ℕ) (g : PlaneGuidance) → AlikeOutcome (perform g take_back) (perform (other n g.former g) take_back)
unfolding restored
taken_alike n g =
    rw (take_back_is g, take_back_is (other n g.former g))
    (either_taken (flag g.former.kept) (record { config = refl; altitude = refl; tecs = refl; former = refl })
    (record { config = refl; altitude = refl; tecs = refl; former = refl }))

-- a call that is no taking back, of guidances that keep the same
alike_of : {g h : PlaneGuidance} {o o' : Outcome} → Alike g h → FollowOutcome g h o o' → AlikeOutcome o o'
alike_of p q =
    let n = q.next.near in
    record { reply = q.reply; next = record { config = n.config; altitude = n.altitude; tecs = n.tecs; former = q.next.former p.former } }

pub near_of : {g h : PlaneGuidance} → Alike g h → Near g h
near_of p = record { config = p.config; altitude = p.altitude; tecs = p.tecs }

pub perform_alike : (g h : PlaneGuidance) → Alike g h → (k : Call) → AlikeOutcome (perform g k) (perform h k)
perform_alike g h p (guide dt regime input s cap) = alike_of p (perform_near g h (near_of p) (guide dt regime input s cap) refl)
perform_alike g h p prime = alike_of p (perform_near g h (near_of p) prime refl)
perform_alike g h p (set_config c) = alike_of p (perform_near g h (near_of p) (set_config c) refl)
perform_alike g h p take_back =
    subst (λ (x : PlaneGuidance). AlikeOutcome (perform g take_back) (perform x take_back)) (regime_only g h p) (taken_alike h.requested g)

pub replies_alike : (g h : PlaneGuidance) → Alike g h → (ks : List Call) → replies g ks ≡ replies h ks
unfolding replies
replies_alike g h p [] = refl
replies_alike g h p (k ∷ ks) =
    let q = perform_alike g h p k in
    λ i. q.reply i ∷ replies_alike (perform g k).next (perform h k).next q.next ks i
