-- A change followed by its taking back leaves no trace, by one step lemma for what may stand between them. Assumes nothing.
use mathlib.Core.Path.{◌≡◌, refl, sym, ap, ◌∙◌}
use mathlib.Core.Bool.{Bool, true, false, cond, not}
use mathlib.Core.List.{List, [], ◌∷◌, ◌++◌}
use lib.Dec.{eqb}
use borrow.Author.Tests.{eq-eqb}
use Rattle.arithmetic.proofs.Bounds.{never, and_left, and_right}
use Rattle.laws.specs.Config.{validate}
use Rattle.laws.specs.Tecs.{flag}
use Rattle.laws.specs.declared.config.PlaneGuidanceConfig.{PlaneGuidanceConfig}
use Rattle.guidance.specs.Plane.{fresh, cleared, primed, with_config, restored}
use Rattle.guidance.specs.declared.plane.PlaneGuidance.{PlaneGuidance}
use Rattle.claims.specs.Calls.{Call, guide, prime, set_config, take_back, back, perform, replies, after}
use Rattle.claims.proofs.Performed.{set_config_is, take_back_is}
use Rattle.claims.specs.Undone.{up_to_take_back, may_stand_between, all_may_stand, Undone}
use Rattle.claims.proofs.Alike.{Near, replies_near}

-- h is g with another configuration in force, and keeps g's
record Changed (g h : PlaneGuidance) : Type 0 where
  altitude : g.altitude ≡ h.altitude
  tecs : g.tecs ≡ h.tecs
  kept : flag h.former.kept ≡ true
  former : g.config ≡ h.former.config

by_change : (g : PlaneGuidance) (d : PlaneGuidanceConfig) → validate d ≡ 0 → Changed g (perform g (set_config d)).next
unfolding with_config
by_change g d e = rw (set_config_is g d, eq-eqb (validate d) 0 e) (record { altitude = refl; tecs = refl; kept = refl; former = refl })

still_changed : (g h : PlaneGuidance) → Changed g h → (k : Call) → may_stand_between k ≡ true → Changed (perform g k).next (perform h k).next
unfolding perform primed cleared
still_changed g h p (guide dt regime input s cap) e = never e
still_changed g h p prime e = record { altitude = refl; tecs = refl; kept = p.kept; former = p.former }
still_changed g h p (set_config c) e = rw (set_config_is g c, set_config_is h c) (go (eqb (validate c) 0) e)
  where
    go : (b : Bool) → not b ≡ true → Changed (cond b (with_config g c) g) (cond b (with_config h c) h)
    go true e = never e
    go false e = p
still_changed g h p take_back e = never e

between_changed : (g h : PlaneGuidance) → Changed g h → (ks : List Call) → all_may_stand ks ≡ true → Changed (after g ks) (after h ks)
unfolding after all_may_stand
between_changed g h p [] e = p
between_changed g h p (k ∷ ks) e =
    between_changed (perform g k).next (perform h k).next
    (still_changed g h p k (and_left (may_stand_between k) (all_may_stand ks) e)) ks
    (and_right (may_stand_between k) (all_may_stand ks) e)

taken_reply : (g h : PlaneGuidance) → Changed g h → (perform h take_back).reply ≡ back 0
taken_reply g h p = rw (take_back_is h, p.kept)

taken_near : (g h : PlaneGuidance) → Changed g h → Near (perform h take_back).next g
unfolding restored
taken_near g h p = rw (take_back_is h, p.kept) (record { config = sym p.former; altitude = sym p.altitude; tecs = sym p.tecs })

after_both : (g : PlaneGuidance) (xs ys : List Call) → after g (xs ++ ys) ≡ after (after g xs) ys
unfolding after
after_both g [] ys = refl
after_both g (x ∷ xs) ys = after_both (perform g x).next xs ys

pub undone : (c : PlaneGuidanceConfig) (before : List Call) (d : PlaneGuidanceConfig) (between rest : List Call) → validate d ≡ 0 →
    all_may_stand between ≡ true → Undone c before d between rest
unfolding after
undone c before d between rest valid may =
    let g = after (fresh c) before in
    let h = (perform g (set_config d)).next in
    let p = between_changed g h (by_change g d valid) between may in
    let to_change = after_both (fresh c) before (set_config d ∷ between) in
    let to_take = after_both (fresh c) before (set_config d ∷ (between ++ (take_back ∷ []))) ∙ after_both h between (take_back ∷ []) in
    let near = taken_near (after g between) (after h between) p in
    record {
      accepted = ap (λ (x : PlaneGuidance). (perform x take_back).reply) to_change ∙ taken_reply (after g between) (after h between) p;
      leaves_no_trace =
          ap (λ (x : PlaneGuidance). replies x (up_to_take_back rest)) to_take
          ∙ replies_near (perform (after h between) take_back).next (after g between) near rest
          ∙ ap (λ (x : PlaneGuidance). replies x (up_to_take_back rest)) (sym (after_both (fresh c) before between));
    }
