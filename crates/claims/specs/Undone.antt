-- Document 02, K11: a change followed by its taking back leaves no trace. One claim about every list of calls around and between them.
use Rattle.std.specs.Prelude.{◌≡◌, Bool, true, false, cond, not, ◌&&◌, List, [], ◌∷◌, ◌++◌, eqb}
use Rattle.laws.specs.Config.{validate}
use Rattle.laws.specs.declared.config.PlaneGuidanceConfig.{PlaneGuidanceConfig}
use Rattle.guidance.specs.Plane.{fresh}
use Rattle.claims.specs.Calls.{Call, guide, prime, set_config, take_back, back, perform, replies, after}

abbrev pub is_take_back : Call → Bool
is_take_back (guide dt regime input s cap) = false
is_take_back prime = false
is_take_back (set_config c) = false
is_take_back take_back = true

-- the calls before the first taking back
unfoldable pub up_to_take_back : List Call → List Call
up_to_take_back [] = []
up_to_take_back (k ∷ ks) = cond (is_take_back k) [] (k ∷ up_to_take_back ks)

-- What may stand between a change and its taking back: primes and refused changes. No guide call, since one that the changed setting
-- refuses may be one that the former accepts; no accepted change and no taking back, since either makes another pair.
abbrev pub may_stand_between : Call → Bool
may_stand_between (guide dt regime input s cap) = false
may_stand_between prime = true
may_stand_between (set_config c) = not (eqb (validate c) 0)
may_stand_between take_back = false

unfoldable pub all_may_stand : List Call → Bool
all_may_stand [] = true
all_may_stand (k ∷ ks) = may_stand_between k && all_may_stand ks

-- Of the list before ++ [set d] ++ between ++ [take back] ++ rest, run from a fresh guidance with the configuration c, beside the list
-- without the two calls, before ++ between ++ rest.
pub record Undone (c : PlaneGuidanceConfig) (before : List Call) (d : PlaneGuidanceConfig) (between rest : List Call) : Type 0 where
  -- the taking back is accepted
  pub accepted : (perform (after (fresh c) (before ++ (set_config d ∷ between))) take_back).reply ≡ back 0
  -- up to the next taking back `rest` gets the same replies
  pub leaves_no_trace :
      replies (after (fresh c) (before ++ (set_config d ∷ (between ++ (take_back ∷ []))))) (up_to_take_back rest) ≡
      replies (after (fresh c) (before ++ between)) (up_to_take_back rest)
