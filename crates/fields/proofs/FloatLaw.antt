-- Laws of f32s that are read: they are made of the values of fields. Assumes nothing.
use mathlib.Core.Path.{◌≡◌, refl, ap, ◌∙◌}
use mathlib.Core.List.{List, [], ◌∷◌, map}
use Prim.Native.Nat.{ℕ, zero, suc, ◌-◌, ◌*◌, ◌/◌, ◌%◌, ◌<◌, ◌≤◌, ◌^◌}
use native.Mathlib.Omega.{arith}
use native.Mathlib.Nat.{pow-suc}
use borrow.Author.Tests.{eq-eqb}
use lib.Dec.{lit≤}
use lib.Pow.{pow_pos}
use Rattle.std.specs.Simd.{first_chunks}
use lib.Ieee.{Float, binary32, of_bits}
use lib.ListN.{length, take, drop, replicate}
use Rattle.fields.specs.Bytes.{number_at}
use Rattle.fields.specs.Fields.{ones, number_fields, values_at, values_as}
use Rattle.fields.specs.Numbers.{floats_of, numbers_at}
use Rattle.fields.proofs.FieldLaw.{ones_more, ones_none, values_made}
use Rattle.fields.proofs.Window.{drop_take, number_take}

-- +0, what a missing f32 means
abbrev pub none : ℕ → List Float
none n = replicate n (of_bits binary32 0)

pub floats_none : (n : ℕ) → floats_of (replicate n 0) ≡ none n
unfolding floats_of
floats_none zero = refl
floats_none (suc n) = ap (λ (l : List Float). of_bits binary32 0 ∷ l) (floats_none n)

pub floats_made : (ds : List ℕ) (m : ℕ) (s : List ℕ) → values_as (of_bits binary32) (floats_of ds) m s ≡ floats_of (values_at (number_fields ds) m s)
unfolding floats_of
floats_made ds m s = values_made (of_bits binary32) ds m s

-- ---- every bit stands

-- the map of n bits that all stand
abbrev pub full : ℕ → ℕ
full n = 2 ^ n - 1

module _ (n : ℕ) where
  full_odd : full (suc n) % 2 ≡ 1
  full_odd = let p : 0 < 2 ^ n = pow_pos n in rw (pow-suc 2 n) (omega arith)

  full_half : full (suc n) / 2 ≡ full n
  full_half = let p : 0 < 2 ^ n = pow_pos n in rw (pow-suc 2 n) (omega arith)

pub ones_full : (n : ℕ) → ones n (full n) ≡ n
ones_full zero = ones_none (full 0)
ones_full (suc n) = rw (ones_more n (full (suc n)), full_odd n, full_half n, ones_full n) (omega arith)

pub numbers_full : (v : List Float) (s : List ℕ) → numbers_at (length v) s ≡ values_as (of_bits binary32) v (full (length v)) s
unfolding values_as numbers_at
numbers_full [] s = refl
numbers_full (x ∷ xs) s =
    rw (eq-eqb _ _ (full_odd (length xs)), full_half (length xs)) (ap (λ (l : List Float). of_bits binary32 (number_at 4 s) ∷ l) (numbers_full xs (drop 4 s)))

-- ---- `read_all`: an f32 for each four bytes

-- the f32 of four bytes
abbrev pub f32_of : List ℕ → Float
f32_of word = of_bits binary32 (number_at 4 word)

pub numbers_chunked : (n : ℕ) (s : List ℕ) → map f32_of (first_chunks 4 n s) ≡ numbers_at n s
unfolding numbers_at
numbers_chunked zero s = refl
numbers_chunked (suc n) s = rw (number_take 4 4 s (lit≤ tt), numbers_chunked n (drop 4 s))

-- numbers that lie in the first k bytes
pub numbers_take : (n k : ℕ) (s : List ℕ) → 4 * n ≤ k → numbers_at n (take k s) ≡ numbers_at n s
unfolding numbers_at
numbers_take zero k s h = refl
numbers_take (suc n) k s h = rw (number_take 4 k s (omega arith), drop_take 4 k s, numbers_take n (k - 4) (drop 4 s) (omega arith))

-- the words of the first n numbers' bytes
pub read_words : (n : ℕ) (s : List ℕ) (words : List (List ℕ)) → words ≡ first_chunks 4 n (take (4 * n) s) → map f32_of words ≡ numbers_at n s
read_words n s words e = rw e (numbers_chunked n (take (4 * n) s) ∙ numbers_take n (4 * n) s (omega arith))
