-- Lists of numbers held equal. Assumes nothing.
use mathlib.Core.Path.{◌≡◌, refl}
use mathlib.Core.Bool.{Bool, true, false, beq, ◌&&◌}
use mathlib.Core.List.{List, [], ◌∷◌, ◌++◌}
use Prim.Native.Nat.{ℕ}
use native.Mathlib.Omega.{arith}
use borrow.Author.Tests.{eq-eqb, eqb-true}
use lib.Dec.{eqb}
use lib.ListN.{length}
use lib.Pointwise.{pointwise}
use Rattle.std.specs.Prelude.{map, nat_eq}
use Rattle.fields.specs.Fields.{bit_of}
use Rattle.agreement.specs.Agreement.{same_list}

pub same_refl : (xs : List ℕ) → same_list xs xs ≡ true
unfolding same_list
same_refl [] = refl
same_refl (x ∷ xs) = rw (eq-eqb x x refl) (same_refl xs)

pub same_eq : (xs ys : List ℕ) → same_list xs ys ≡ true → xs ≡ ys
unfolding same_list
same_eq [] [] e = refl
same_eq [] (y ∷ ys) e = let z : ◌≡◌ {A = ℕ} 0 1 = cc in absurd (omega arith)
same_eq (x ∷ xs) [] e = let z : ◌≡◌ {A = ℕ} 0 1 = cc in absurd (omega arith)
same_eq (x ∷ xs) (y ∷ ys) e = go (eqb x y) refl e (same_eq xs ys)
  where
    go : (b : Bool) → eqb x y ≡ b → b && same_list xs ys ≡ true → (same_list xs ys ≡ true → xs ≡ ys) → x ∷ xs ≡ y ∷ ys
    go true q e ih = rw (eqb-true x y q, ih e)
    go false q e ih = let z : ◌≡◌ {A = ℕ} 0 1 = cc in absurd (omega arith)

pub same_append : (xs ys us vs : List ℕ) → length ys ≡ length xs → same_list (xs ++ us) (ys ++ vs) ≡ same_list xs ys && same_list us vs
unfolding same_list
same_append [] [] us vs h = refl
same_append [] (y ∷ ys) us vs h = absurd (omega arith)
same_append (x ∷ xs) [] us vs h = absurd (omega arith)
same_append (x ∷ xs) (y ∷ ys) us vs h = rw (same_append xs ys us vs (omega arith)) (and_assoc (eqb x y) (same_list xs ys) (same_list us vs))
  where
    and_assoc : (a b c : Bool) → a && (b && c) ≡ (a && b) && c
    and_assoc true b c = refl
    and_assoc false b c = refl

-- what `==` answers of two arrays of numbers
pub same_numbers : (xs ys : List ℕ) → pointwise nat_eq xs ys ≡ same_list xs ys
unfolding same_list
same_numbers [] [] = refl
same_numbers [] (y ∷ ys) = refl
same_numbers (x ∷ xs) [] = refl
same_numbers (x ∷ xs) (y ∷ ys) = rw (same_numbers xs ys) refl

-- what `==` answers of two arrays of Bools
pub same_truths : (ks ls : List Bool) → pointwise beq ks ls ≡ same_list (map bit_of ks) (map bit_of ls)
unfolding same_list
same_truths [] [] = refl
same_truths [] (l ∷ ls) = refl
same_truths (k ∷ ks) [] = refl
same_truths (true ∷ ks) (true ∷ ls) = same_truths ks ls
same_truths (true ∷ ks) (false ∷ ls) = refl
same_truths (false ∷ ks) (true ∷ ls) = refl
same_truths (false ∷ ks) (false ∷ ls) = same_truths ks ls
