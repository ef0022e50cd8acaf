-- Two recordings' remaining calls side by side. Assumes nothing.
use mathlib.Core.Path.{◌≡◌, refl, sym, ◌∙◌}
use mathlib.Core.Bool.{Bool, true, false, cond, not}
use mathlib.Core.List.{List, [], ◌∷◌}
use Prim.Native.Nat.{ℕ}
use native.Mathlib.Omega.{arith}
use Rattle.std.specs.Prelude.{Some, None}
use Rattle.agreement.specs.Agreement.{Numbered, same_list, call_values, part_calls}
use Rattle.agreement.specs.declared.Agreement.TheVariants as answer

part_none : part_calls [] [] ≡ answer.Agree
unfolding part_calls
part_none = refl

part_display : (y : Numbered) (ys : List Numbered) → part_calls [] (y ∷ ys) ≡ answer.Part None (Some y.number)
unfolding part_calls
part_display y ys = refl

part_box : (x : Numbered) (xs : List Numbered) → part_calls (x ∷ xs) [] ≡ answer.Part (Some x.number) None
unfolding part_calls
part_box x xs = refl

part_both : (x y : Numbered) (xs ys : List Numbered)
    → part_calls (x ∷ xs) (y ∷ ys) ≡ cond (same_list (call_values x.call) (call_values y.call)) (part_calls xs ys) (answer.Part (Some x.number) (Some y.number))
unfolding part_calls
part_both x y xs ys = refl

-- what holds in each turn: the calls from here on part as those from the first on
pub record Meeting (xs₀ ys₀ xs ys : List Numbered) : Type 0 where
  pub is : part_calls xs ys ≡ part_calls xs₀ ys₀

module _ {xs₀ ys₀ xs ys : List Numbered} (f : Meeting xs₀ ys₀ xs ys) where
  pub meet_ends : xs ≡ [] → ys ≡ [] → answer.Agree ≡ part_calls xs₀ ys₀
  meet_ends a b = sym part_none ∙ (rw (a, b) at f.is)

  pub meet_display : (y : Numbered) (rest : List Numbered) → xs ≡ [] → ys ≡ y ∷ rest → answer.Part None (Some y.number) ≡ part_calls xs₀ ys₀
  meet_display y rest a b = sym (part_display y rest) ∙ (rw (a, b) at f.is)

  pub meet_box : (x : Numbered) (rest : List Numbered) → xs ≡ x ∷ rest → ys ≡ [] → answer.Part (Some x.number) None ≡ part_calls xs₀ ys₀
  meet_box x rest a b = sym (part_box x rest) ∙ (rw (a, b) at f.is)

  module _ (x y : Numbered) (xs₁ ys₁ : List Numbered) (a : xs ≡ x ∷ xs₁) (b : ys ≡ y ∷ ys₁) where
    both : cond (same_list (call_values x.call) (call_values y.call)) (part_calls xs₁ ys₁) (answer.Part (Some x.number) (Some y.number)) ≡ part_calls xs₀ ys₀
    both = sym (part_both x y xs₁ ys₁) ∙ (rw (a, b) at f.is)

    pub meet_parts : (r : Bool) → r ≡ same_list (call_values x.call) (call_values y.call) → not r ≡ true
        → answer.Part (Some x.number) (Some y.number) ≡ part_calls xs₀ ys₀
    meet_parts true e h = let z : ◌≡◌ {A = ℕ} 0 1 = cc in absurd (omega arith)
    meet_parts false e h = rw (sym e) at both

    pub meet_turn : (r : Bool) → r ≡ same_list (call_values x.call) (call_values y.call) → not r ≡ false → Meeting xs₀ ys₀ xs₁ ys₁
    meet_turn true e h = record { is = rw (sym e) at both }
    meet_turn false e h = let z : ◌≡◌ {A = ℕ} 0 1 = cc in absurd (omega arith)
