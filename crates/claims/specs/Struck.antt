-- Which calls demand 3 strikes, in its own words: at each place of a list, from what stands before it. Definitions only.
use Rattle.std.specs.Prelude.{◌≡◌, Bool, true, false, not, ◌&&◌, ◌||◌, List, [], ◌∷◌, ◌++◌, length, Option, Some, None}
use Rattle.laws.specs.declared.config.PlaneGuidanceConfig.{PlaneGuidanceConfig}
use Rattle.guidance.specs.Plane.{fresh}
use Rattle.guidance.specs.declared.plane.PlaneGuidance.{PlaneGuidance}
use Rattle.claims.specs.Calls.{Call, guide, prime, set_config, take_back, perform, refused, after, law_is, is_fallback, holds, marks}
use Rattle.claims.specs.StallGuard.{Made, made, backwards, those}

-- ---- one call

-- a guide or prime call
abbrev pub guides_or_primes : Call → Bool
guides_or_primes (guide dt regime input s cap) = true
guides_or_primes prime = true
guides_or_primes (set_config c) = false
guides_or_primes take_back = false

-- a fallback
abbrev pub falls_back : Call → Bool
falls_back (guide dt regime input s cap) = law_is is_fallback dt input s
falls_back prime = false
falls_back (set_config c) = false
falls_back take_back = false

-- an accepted guide or prime call
abbrev pub counts : Made → Bool
counts m = m.accepted && guides_or_primes m.call

-- this call, made on this guidance
abbrev pub made_on : PlaneGuidance → Call → Made
made_on g k = record { call = k; config = g.config; accepted = not (refused (perform g k).reply) }

-- ---- the words

-- there is one, and the latest, the first of the list, is a fallback
abbrev pub latest_fell : List Made → Bool
latest_fell [] = false
latest_fell (m ∷ ms) = falls_back m.call

-- Every refused call, and every hold unless the last accepted guide or prime call before it was a fallback. The calls before it, the latest first.
abbrev pub is_struck : List Made → Made → Bool
is_struck before m = not m.accepted || (holds m.call && not (latest_fell (those counts before)))

-- ---- the claim

-- what stands in ys where xs ends, counted from the front of both
unfoldable pub behind : {A B : Type 0} → List A → List B → Option B
behind [] [] = None
behind [] (y ∷ ys) = Some y
behind (x ∷ xs) [] = None
behind (x ∷ xs) (y ∷ ys) = behind xs ys

-- Of the list `calls`, run from a fresh guidance with the configuration c.
pub record Struck (c : PlaneGuidanceConfig) (calls : List Call) : Type 0 where
  -- the mark of the call k, with `before` in front of it and `rest` behind it
  pub each :
      (before : List Call) (k : Call) (rest : List Call) → calls ≡ before ++ (k ∷ rest) →
      behind before (marks (fresh c) calls) ≡ Some (is_struck (backwards (made (fresh c) before) []) (made_on (after (fresh c) before) k))
  -- a mark for each call, and no more
  pub as_many : length (marks (fresh c) calls) ≡ length calls
