-- K9's claim of every list. Assumes nothing.
use Prim.Native.Nat.{ℕ}
use mathlib.Core.Path.{◌≡◌, refl, ap, ◌∙◌}
use mathlib.Core.Bool.{Bool, true, false, cond}
use mathlib.Core.List.{List}
use borrow.Author.Tests.{eqb-true}
use Rattle.claims.specs.Calls.{guide, prime, set_config, take_back}
use Rattle.rights.specs.Rights.{may}
use Rattle.rights.specs.declared.Deed.TheVariants as deed
use Rattle.rights_claims.specs.Runs.{Step, after}
use Rattle.rights_claims.specs.Sent.{Held, Act, new, call, load, write, along, mode, guard, Told, forbidden, Sent, lent_by, act, is_forbidden, is_watchers, answer_to}
use Rattle.rights_claims.specs.Claim.{RightsKept}
use Rattle.rights_claims.proofs.TakenOut.{Keeps, taken_out}

kept : (h : Held) (k : Sent) → is_forbidden k ≡ true → answer_to h k ≡ record { answer = forbidden (lent_by k.wants); left = h }
unfolding answer_to
kept h k e = ap (λ (b : Bool). cond b (record { answer = forbidden (lent_by k.wants); left = h }) (act h k.wants)) e

obeyed : (h : Held) (k : Sent) → is_forbidden k ≡ false → answer_to h k ≡ act h k.wants
unfolding answer_to
obeyed h k e = ap (λ (b : Bool). cond b (record { answer = forbidden (lent_by k.wants); left = h }) (act h k.wants)) e

forbidden_keeps : Keeps answer_to is_forbidden
forbidden_keeps h k e = ap (λ (o : Step Told Held). o.left) (kept h k e)

-- a watcher is forbidden all but the reports, and a report leaves everything as it was
watcher_keeps : (h : Held) (a : Act) → (answer_to h (record { caller = 2; wants = a })).left ≡ h
unfolding answer_to act may
watcher_keeps h (new c) = refl
watcher_keeps h (call (guide dt regime input s cap)) = refl
watcher_keeps h (call prime) = refl
watcher_keeps h (call (set_config c)) = refl
watcher_keeps h (call take_back) = refl
watcher_keeps h (load s at) = refl
watcher_keeps h (write out at) = refl
watcher_keeps h (along k) = refl
watcher_keeps h mode = refl
watcher_keeps h guard = refl

watchers_keep : Keeps answer_to is_watchers
watchers_keep h k e =
    ap (λ (n : ℕ). (answer_to h (record { caller = n; wants = k.wants })).left) (eqb-true k.caller 2 e) ∙ watcher_keeps h k.wants

-- of every list of calls by any callers, on whatever guidance and route
pub rights_kept : (h : Held) (sent : List Sent) → RightsKept h sent
rights_kept h sent = record {
  no_forbidden = taken_out answer_to is_forbidden forbidden_keeps h sent;
  no_watchers = taken_out answer_to is_watchers watchers_keep h sent;
  forbidden_kept = λ before k rest at. kept (after answer_to h before) k;
  allowed_done = λ before k rest at. obeyed (after answer_to h before) k;
}

-- a call record is a guide or a prime, and both have one right: a host's can be judged before its bytes are read
pub prime_as_guide : (caller : ℕ) → may caller deed.Prime ≡ may caller deed.Guide
unfolding may
prime_as_guide caller = refl
