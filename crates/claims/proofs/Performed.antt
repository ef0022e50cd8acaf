-- What a set-configuration and a taking back do, each as one outcome: the reply, and by one test the guidance after it. Assumes nothing.
use Rattle.std.specs.Prelude.{Ok, Err}
use Prim.Native.Nat.{ℕ}
use mathlib.Core.Path.{◌≡◌, refl}
use mathlib.Core.Bool.{Bool, true, false, cond}
use lib.Dec.{eqb}
use borrow.Author.Tests.{eqb-true}
use Rattle.laws.specs.Config.{validate}
use Rattle.laws.specs.Tecs.{flag}
use Rattle.laws.specs.declared.config.PlaneGuidanceConfig.{PlaneGuidanceConfig}
use Rattle.refusals.specs.declared.Refusal.TheVariants as reason
use Rattle.guidance.specs.Plane.{with_config, configured, restored, taken_back}
use Rattle.guidance.specs.declared.plane.PlaneGuidance.{PlaneGuidance}
use Rattle.claims.specs.Calls.{set_config, take_back, field, back, Outcome, configured_by, taken_back_by, perform}

-- by whether the configuration is valid
abbrev pub configured_to : PlaneGuidance → PlaneGuidance → ℕ → Outcome
configured_to g h n = record { reply = field n; next = cond (eqb n 0) h g }

by_field : (g h : PlaneGuidance) (n : ℕ) (b : Bool) → eqb n 0 ≡ b →
    configured_by g (cond b (Ok h) (Err (record { field = n }))) ≡ record { reply = field n; next = cond b h g }
by_field g h n true e = let z = eqb-true n 0 e in rw z
by_field g h n false e = refl

pub set_config_is : (g : PlaneGuidance) (c : PlaneGuidanceConfig) → perform g (set_config c) ≡ configured_to g (with_config g c) (validate c)
unfolding perform configured
set_config_is g c = by_field g (with_config g c) (validate c) (eqb (validate c) 0) refl

-- by whether a configuration is kept
abbrev pub taken_to : PlaneGuidance → PlaneGuidance → Bool → Outcome
taken_to g h kept = record { reply = back (cond kept 0 14); next = cond kept h g }

pub take_back_is : (g : PlaneGuidance) → perform g take_back ≡ taken_to g (restored g) (flag g.former.kept)
unfolding perform taken_back
take_back_is g = by_kept (flag g.former.kept)
  where
    by_kept : (b : Bool) → taken_back_by g (cond b (Ok (restored g)) (Err reason.NothingToTakeBack)) ≡ taken_to g (restored g) b
    by_kept true = refl
    by_kept false = refl
