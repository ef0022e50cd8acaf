-- The settings of every guidance that calls make are valid, and so have their pairs in order (document 02, K8). One claim about a
-- list of calls and every place in it.
use Rattle.std.specs.Prelude.{◌≡◌, List, ◌++◌}
use Rattle.laws.specs.Config.{validate, OrderedPairs}
use Rattle.laws.specs.declared.config.PlaneGuidanceConfig.{PlaneGuidanceConfig}
use Rattle.guidance.specs.Plane.{fresh}
use Rattle.claims.specs.Calls.{Call, after}

-- number 1 does not refuse a configuration, and neither least is above its greatest
pub record ValidConfig (c : PlaneGuidanceConfig) : Type 0 where
  pub passes : validate c ≡ 0
  pub ordered : OrderedPairs c

-- Of the list `calls`, run from a fresh guidance with the configuration c: at every place in it the configuration in force is valid,
-- and so is the kept one (K11), whose numbers are the default configuration's where there is none to take back.
pub record AlwaysValid (c : PlaneGuidanceConfig) (calls : List Call) : Type 0 where
  pub in_force_lem : (before rest : List Call) → calls ≡ before ++ rest → ValidConfig (after (fresh c) before).config
  pub kept : (before rest : List Call) → calls ≡ before ++ rest → ValidConfig (after (fresh c) before).former.config
