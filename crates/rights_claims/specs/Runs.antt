-- A run of calls of any kind: each call gets what the one before it left. Definitions only.
use Rattle.std.specs.Prelude.{Bool, List, [], ◌∷◌}

-- what a call gives, and what it leaves
pub record Step (A : Type 0) (H : Type 0) : Type 0 where
  pub answer : A
  pub left : H

unfoldable pub answers : {K A H : Type 0} → (H → K → Step A H) → H → List K → List A
answers step h [] = []
answers step h (k ∷ ks) = (step h k).answer ∷ answers step (step h k).left ks

unfoldable pub after : {K A H : Type 0} → (H → K → Step A H) → H → List K → H
after step h [] = h
after step h (k ∷ ks) = after step (step h k).left ks

-- the calls that a test names
unfoldable pub marks : {K : Type 0} → (K → Bool) → List K → List Bool
marks test [] = []
marks test (k ∷ ks) = test k ∷ marks test ks
