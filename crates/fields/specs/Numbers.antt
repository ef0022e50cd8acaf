-- "Numbers are f32": lists of them, and their bits. Definitions only.
use Rattle.std.specs.Prelude.{List, [], ◌∷◌, map, ℕ, zero, suc, drop, T, Float}
use Rattle.std.specs.Float.{binary32}
use Rattle.std.specs.Float.Ieee.{of_bits, to_bits, fits}
use Rattle.fields.specs.Bytes.{number_at}

-- the f32s with these bits; the bits of every NaN are the one nan
unfoldable pub floats_of : List ℕ → List Float
floats_of ns = map (of_bits binary32) ns

-- the bits of f32s; nan's are 7fc00000
unfoldable pub bits_of : List Float → List ℕ
bits_of xs = map (to_bits binary32) xs

-- n f32s that stand one behind the other
unfoldable pub numbers_at : ℕ → List ℕ → List Float
numbers_at zero s = []
numbers_at (suc n) s = of_bits binary32 (number_at 4 s) ∷ numbers_at n (drop 4 s)

-- each is a number that an f32 holds
unfoldable pub AreF32 : List Float → Type 0
AreF32 [] = Unit {0}
AreF32 (x ∷ xs) = T (fits binary32 x) × AreF32 xs
