-- Calls that leave everything as it was can be taken out of a list of any calls. Assumes nothing.
use mathlib.Core.Path.{◌≡◌, refl, sym, ap, ◌∙◌}
use mathlib.Core.Bool.{Bool, true, false, cond}
use mathlib.Core.List.{List, [], ◌∷◌}
use Rattle.claims.specs.Calls.{unmarked}
use Rattle.rights_claims.specs.Runs.{Step, answers, after, marks}
use Rattle.rights_claims.specs.Claim.{TakenOut}

-- the calls that a test names leave everything as it was
abbrev pub Keeps : {K A H : Type 0} → (H → K → Step A H) → (K → Bool) → Type 0
Keeps {K} {A} {H} step test = (h : H) (k : K) → test k ≡ true → (step h k).left ≡ h

module _ {K A H : Type 0} (step : H → K → Step A H) (test : K → Bool) (keeps : Keeps step test) where
  same : (h : H) (ks : List K) → answers step h (unmarked (marks test ks) ks) ≡ unmarked (marks test ks) (answers step h ks)
  unfolding answers unmarked marks
  same h [] = refl
  same h (k ∷ ks) = go (test k) refl (λ x. same x ks)
    where
      ms : List Bool
      ms = marks test ks

      go : (b : Bool) → test k ≡ b → ((x : H) → answers step x (unmarked ms ks) ≡ unmarked ms (answers step x ks)) →
          answers step h (cond b (unmarked ms ks) (k ∷ unmarked ms ks))
          ≡ cond b (unmarked ms (answers step (step h k).left ks)) ((step h k).answer ∷ unmarked ms (answers step (step h k).left ks))
      go true e ih = ih h ∙ ap (λ (x : H). unmarked ms (answers step x ks)) (sym (keeps h k e))
      go false e ih = ap (λ (l : List A). (step h k).answer ∷ l) (ih (step h k).left)

  left : (h : H) (ks : List K) → after step h (unmarked (marks test ks) ks) ≡ after step h ks
  unfolding after unmarked marks
  left h [] = refl
  left h (k ∷ ks) = go (test k) refl (λ x. left x ks)
    where
      ms : List Bool
      ms = marks test ks

      go : (b : Bool) → test k ≡ b → ((x : H) → after step x (unmarked ms ks) ≡ after step x ks) →
          after step h (cond b (unmarked ms ks) (k ∷ unmarked ms ks)) ≡ after step (step h k).left ks
      go true e ih = ih h ∙ ap (λ (x : H). after step x ks) (sym (keeps h k e))
      go false e ih = ih (step h k).left

pub taken_out : {K A H : Type 0} (step : H → K → Step A H) (test : K → Bool) → Keeps step test → (h : H) (ks : List K) → TakenOut step test h ks
taken_out step test keeps h ks = record { same_answers = same step test keeps h ks; same_after = left step test keeps h ks }
