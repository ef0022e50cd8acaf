-- The settings of every guidance that calls make are valid. Assumes nothing.
use mathlib.Core.Path.{◌≡◌}
use mathlib.Core.List.{List}
use Rattle.laws.specs.Config.{validate}
use Rattle.laws.specs.declared.config.PlaneGuidanceConfig.{PlaneGuidanceConfig}
use Rattle.laws.proofs.Validated.{valid_ordered}
use Rattle.claims.specs.Calls.{Call}
use Rattle.claims.specs.Validity.{ValidConfig, AlwaysValid}
use Rattle.claims.proofs.Runs.{both_valid_along}

valid_config : (c : PlaneGuidanceConfig) → validate c ≡ 0 → ValidConfig c
valid_config c e = record { passes = e; ordered = valid_ordered c e }

pub always_valid : (c : PlaneGuidanceConfig) → validate c ≡ 0 → (calls : List Call) → AlwaysValid c calls
always_valid c e calls = record {
  in_force_lem = λ before rest at. valid_config _ (both_valid_along c e before).in_force_lem;
  kept = λ before rest at. valid_config _ (both_valid_along c e before).kept;
}
