-- Demand 3 holds of every list of calls from a fresh guidance with a valid configuration. Assumes nothing.
use mathlib.Core.Path.{◌≡◌, refl}
use mathlib.Core.Bool.{false}
use mathlib.Core.List.{List}
use Rattle.laws.specs.Config.{validate}
use Rattle.laws.specs.declared.config.PlaneGuidanceConfig.{PlaneGuidanceConfig}
use Rattle.guidance.specs.Plane.{fresh}
use Rattle.claims.specs.Calls.{Call, after}
use Rattle.claims.specs.Demand3.{Demand3}
use Rattle.claims.proofs.Alike.{alike_refl}
use Rattle.claims.proofs.Strike.{strike, start}
use Rattle.claims.proofs.Limited.{limited, still_valid}
use Rattle.claims.proofs.Runs.{both_valid_along}

pub demand3 : (c : PlaneGuidanceConfig) → validate c ≡ 0 → (calls : List Call) → Demand3 c calls
unfolding fresh
demand3 c e calls = record {
  struck = strike (fresh c) (fresh c) false (alike_refl (fresh c)) (λ b. refl) calls;
  fresh_start = λ before k rest at h. record {
    valid = (still_valid (after (fresh c) before) k (both_valid_along c e before)).in_force_lem;
    kept_valid = (still_valid (after (fresh c) before) k (both_valid_along c e before)).kept;
    same = start (after (fresh c) before) k rest h;
  };
  limits = limited c e calls;
}
