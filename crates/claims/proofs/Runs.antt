-- What `new` gives and every call keeps, holds along every run. Assumes nothing.
use mathlib.Core.Path.{◌≡◌}
use mathlib.Core.List.{List, [], ◌∷◌}
use Rattle.laws.specs.Config.{validate}
use Rattle.laws.specs.declared.config.PlaneGuidanceConfig.{PlaneGuidanceConfig}
use Rattle.guidance.specs.Plane.{fresh}
use Rattle.claims.specs.Calls.{Call, perform, after}
use Rattle.guidance.specs.declared.plane.PlaneGuidance.{PlaneGuidance}
use Rattle.claims.proofs.Limited.{BothValid, fresh_valid, still_valid}

pub along : (P : PlaneGuidance → Type 0) → ((g : PlaneGuidance) (k : Call) → P g → P (perform g k).next) → (g : PlaneGuidance) → P g →
    (ks : List Call) → P (after g ks)
unfolding after
along P keeps g p [] = p
along P keeps g p (k ∷ ks) = along P keeps (perform g k).next (keeps g k p) ks

-- both configurations of every guidance that calls make are valid
pub both_valid_along : (c : PlaneGuidanceConfig) → validate c ≡ 0 → (ks : List Call) →
    let g = after (fresh c) ks in BothValid g.config g.former.config
both_valid_along c e ks =
    along (λ (g : PlaneGuidance). BothValid g.config g.former.config) still_valid (fresh c) (fresh_valid c e) ks

pub valid_along : (c : PlaneGuidanceConfig) → validate c ≡ 0 → (ks : List Call) → validate (after (fresh c) ks).config ≡ 0
valid_along c e ks = (both_valid_along c e ks).in_force_lem
