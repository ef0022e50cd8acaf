-- What the constants' bits stand for: "a decimal constant is its nearest f32, 1/3 and its like are one division. PI is hexadecimal
-- 40490FDB; FRAC_PI_4, FRAC_PI_2 and TAU are its exact quarter, half and double." Definitions only.
use Rattle.std.specs.Prelude.{ℕ, ◌*◌, false, List, [], ◌∷◌, Float}
use Rattle.std.specs.Float.{binary32}
use Rattle.std.specs.Float.Ieee.{round}
use Rattle.arithmetic.specs.Table.{Case, ◌is◌, bits}
use Rattle.arithmetic.specs.Constants.{◌/ᶠ◌, n0, n1, n2, pi, frac_pi4, frac_pi2, tau}
use Rattle.arithmetic.specs.Root.{in_units}
use Rattle.arithmetic.specs.Trigonometry.{n6, n20, n42, n72, n110, n12, n30, n56, third, fifth, seventh, ninth, eleventh, thirteenth, fifteenth}
use Rattle.arithmetic.specs.Trigonometry.{series_end}

-- the f32 nearest to n / d, ties to even: a decimal is a fraction over a power of ten
abbrev pub nearest : ℕ → ℕ → Float
nearest n d = round binary32 false n d

-- one division of two whole numbers
abbrev divided : ℕ → ℕ → Float
divided n d = nearest n 1 /ᶠ nearest d 1

abbrev pub table : List Case
table =
    (bits n0 is bits (nearest 0 1)) ∷
    (bits n1 is bits (nearest 1 1)) ∷
    (bits n2 is bits (nearest 2 1)) ∷
    (bits pi is 0x40490fdb) ∷
    -- exactly: as whole numbers of binary32's smallest value
    (4 * in_units frac_pi4 is in_units pi) ∷
    (2 * in_units frac_pi2 is in_units pi) ∷
    (in_units tau is 2 * in_units pi) ∷
    -- sine and cosine
    (bits n6 is bits (nearest 6 1)) ∷
    (bits n20 is bits (nearest 20 1)) ∷
    (bits n42 is bits (nearest 42 1)) ∷
    (bits n72 is bits (nearest 72 1)) ∷
    (bits n110 is bits (nearest 110 1)) ∷
    (bits n12 is bits (nearest 12 1)) ∷
    (bits n30 is bits (nearest 30 1)) ∷
    (bits n56 is bits (nearest 56 1)) ∷
    -- arctangent
    (bits third is bits (divided 1 3)) ∷
    (bits fifth is bits (divided 1 5)) ∷
    (bits seventh is bits (divided 1 7)) ∷
    (bits ninth is bits (divided 1 9)) ∷
    (bits eleventh is bits (divided 1 11)) ∷
    (bits thirteenth is bits (divided 1 13)) ∷
    (bits fifteenth is bits (divided 1 15)) ∷
    (bits series_end is bits (nearest 41421356 100000000)) ∷
    []
