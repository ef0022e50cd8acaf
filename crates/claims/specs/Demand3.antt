-- Demand 3: bad stretches leave no trace. One claim about a list of calls.
use Rattle.std.specs.Prelude.{◌≡◌, true, List, ◌∷◌, ◌++◌}
use Rattle.laws.specs.Config.{validate}
use Rattle.laws.specs.declared.config.PlaneGuidanceConfig.{PlaneGuidanceConfig}
use Rattle.guidance.specs.Plane.{fresh}
use Rattle.guidance.specs.declared.plane.PlaneGuidance.{PlaneGuidance}
use Rattle.claims.specs.Calls.{Call, perform, refused, replies, after, marks, unmarked, starts_fresh, settings_of, fresh_with}
use Rattle.claims.specs.Limits.{at_start, AllObey}

-- Directly after a fresh start: the configuration of that moment passes `validate`, so that `new` makes a guidance of it, and so does
-- the kept one; all calls that follow get the replies that this fresh guidance, with that one kept, gives.
pub record BesideFresh (g : PlaneGuidance) (rest : List Call) : Type 0 where
  pub valid : validate (settings_of g).config ≡ 0
  pub kept_valid : validate (settings_of g).former.config ≡ 0
  pub same : replies g rest ≡ replies (fresh_with (settings_of g)) rest

-- Of the list `calls`, run from a fresh guidance with the configuration c.
pub record Demand3 (c : PlaneGuidanceConfig) (calls : List Call) : Type 0 where
  -- Struck calls: the remaining list, run from the same start, gives each of its calls its first reply again.
  pub struck : replies (fresh c) (unmarked (marks (fresh c) calls) calls) ≡ unmarked (marks (fresh c) calls) (replies (fresh c) calls)
  -- Fresh start: directly after an accepted prime or an accepted command other than a waypoint.
  pub fresh_start :
      (before : List Call) (k : Call) (rest : List Call) → calls ≡ before ++ (k ∷ rest) →
      let g = after (fresh c) before in
      let o = perform g k in
      starts_fresh k (refused o.reply) ≡ true →
      BesideFresh o.next rest
  -- Limits: every accepted waypoint call obeys them.
  pub limits : AllObey (at_start c) calls (replies (fresh c) calls)
