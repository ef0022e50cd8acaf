-- Demand 3 through `nuthkolla_run`: one claim about a list of inputs, of which none makes a fresh guidance.
use Rattle.std.specs.Prelude.{◌≡◌, true, List, ◌∷◌, ◌++◌}
use Rattle.laws.specs.Config.{validate}
use Rattle.laws.specs.declared.config.PlaneGuidanceConfig.{PlaneGuidanceConfig}
use Rattle.guidance.specs.Plane.{fresh}
use Rattle.guidance.specs.declared.plane.PlaneGuidance.{PlaneGuidance}
use Rattle.claims.specs.Calls.{Call, replies, unmarked, starts_fresh, settings_of, fresh_with}
use Rattle.claims.specs.Limits.{at_start, AllObey}
use Rattle.host_claims.specs.Inputs.{Input, a_call, meaning, run_on, answers, left, calls_of, refused, input_marks, told}

-- Directly after a fresh start: the configuration of that moment passes `validate`, the kept one too, and all inputs that follow get
-- the answers that a fresh guidance with the settings of that moment gives.
pub record BesideFresh (g : PlaneGuidance) (rest : List Input) : Type 0 where
  pub valid : validate (settings_of g).config ≡ 0
  pub kept_valid : validate (settings_of g).former.config ≡ 0
  pub same : answers g rest ≡ answers (fresh_with (settings_of g)) rest

-- Of the list `inputs`, run on a guidance that NEW made of the configuration c.
pub record HostDemand3 (c : PlaneGuidanceConfig) (inputs : List Input) : Type 0 where
  -- Struck inputs: the remaining list, run from the same start, gives each of its inputs its first answer again.
  pub struck : answers (fresh c) (unmarked (input_marks (fresh c) inputs) inputs) ≡ unmarked (input_marks (fresh c) inputs) (answers (fresh c) inputs)
  -- Fresh start: directly after an accepted prime or an accepted command other than a waypoint.
  pub fresh_start :
      (before : List Input) (i : Input) (rest : List Input) → inputs ≡ before ++ (i ∷ rest) →
      (k : Call) (next : _) → meaning i ≡ a_call k next →
      let o = run_on (left (fresh c) before) i in
      starts_fresh k (refused o.answer) ≡ true →
      BesideFresh o.guidance rest
  -- The answers are the replies to the calls that the inputs carry, as numbers; and every accepted waypoint call among these
  -- obeys the limits.
  pub as_replies : answers (fresh c) inputs ≡ told inputs (replies (fresh c) (calls_of inputs))
  pub limits : AllObey (at_start c) (calls_of inputs) (replies (fresh c) (calls_of inputs))
