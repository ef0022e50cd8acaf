-- "For every list of calls, those not forbidden answer as in the list with the forbidden calls taken out, so a watcher can't move the
-- plane by anything sent."
use Rattle.std.specs.Prelude.{◌≡◌, Bool, true, false, List, ◌∷◌, ◌++◌}
use Rattle.claims.specs.Calls.{unmarked}
use Rattle.rights_claims.specs.Runs.{Step, answers, after, marks}
use Rattle.rights_claims.specs.Sent.{Held, forbidden, Sent, lent_by, act, is_forbidden, is_watchers, answer_to}

-- The calls that a test names, taken out of a list, leave every other answer, and what is left, as they were.
pub record TakenOut {K A H : Type 0} (step : H → K → Step A H) (test : K → Bool) (h : H) (ks : List K) : Type 0 where
  pub same_answers : answers step h (unmarked (marks test ks) ks) ≡ unmarked (marks test ks) (answers step h ks)
  pub same_after : after step h (unmarked (marks test ks) ks) ≡ after step h ks

-- Of the list `sent`, by any callers, on whatever guidance and route.
pub record RightsKept (h : Held) (sent : List Sent) : Type 0 where
  pub no_forbidden : TakenOut answer_to is_forbidden h sent
  -- all that watchers send, their reports too
  pub no_watchers : TakenOut answer_to is_watchers h sent
  -- a forbidden call is told 13, and guidance, route, number and lent bytes are kept; any other does what it does without a caller
  pub forbidden_kept :
      (before : List Sent) (k : Sent) (rest : List Sent) → sent ≡ before ++ (k ∷ rest) →
      let held = after answer_to h before in
      is_forbidden k ≡ true → answer_to held k ≡ record { answer = forbidden (lent_by k.wants); left = held }
  pub allowed_done :
      (before : List Sent) (k : Sent) (rest : List Sent) → sent ≡ before ++ (k ∷ rest) →
      let held = after answer_to h before in
      is_forbidden k ≡ false → answer_to held k ≡ act held k.wants
