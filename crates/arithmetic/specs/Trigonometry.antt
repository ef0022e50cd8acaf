-- Sine, cosine, arctangent, arcsine and the arctangent of y, x of document 01. Definitions only.
use Rattle.std.specs.Prelude.{cond, ◌||◌, Float}
use Rattle.std.specs.Float.Ieee as Ieee
use Rattle.std.specs.Float.{nan, binary32}
use Rattle.std.specs.Float.Ieee.{is_nan, neg}
use Rattle.arithmetic.specs.Constants.{f32, ◌+ᶠ◌, ◌-ᶠ◌, ◌·ᶠ◌, ◌/ᶠ◌, ◌%ᶠ◌, n0, n1, n2, pi, frac_pi4, frac_pi2, tau}
use Rattle.arithmetic.specs.Order.{finite, size, negative}
use Rattle.arithmetic.specs.Root.{root_of}

-- ---- the coefficients

abbrev pub n6 : Float
n6 = f32 0x40c00000  -- 6

abbrev pub n20 : Float
n20 = f32 0x41a00000  -- 20

abbrev pub n42 : Float
n42 = f32 0x42280000  -- 42

abbrev pub n72 : Float
n72 = f32 0x42900000  -- 72

abbrev pub n110 : Float
n110 = f32 0x42dc0000  -- 110

abbrev pub n12 : Float
n12 = f32 0x41400000  -- 12

abbrev pub n30 : Float
n30 = f32 0x41f00000  -- 30

abbrev pub n56 : Float
n56 = f32 0x42600000  -- 56

-- 1/3 and its like are one division
abbrev pub third : Float
third = n1 /ᶠ f32 0x40400000  -- 3

abbrev pub fifth : Float
fifth = n1 /ᶠ f32 0x40a00000  -- 5

abbrev pub seventh : Float
seventh = n1 /ᶠ f32 0x40e00000  -- 7

abbrev pub ninth : Float
ninth = n1 /ᶠ f32 0x41100000  -- 9

abbrev pub eleventh : Float
eleventh = n1 /ᶠ f32 0x41300000  -- 11

abbrev pub thirteenth : Float
thirteenth = n1 /ᶠ f32 0x41500000  -- 13

abbrev pub fifteenth : Float
fifteenth = n1 /ᶠ f32 0x41700000  -- 15

-- the tangent of an eighth of a turn's half, where the series gives way
abbrev pub series_end : Float
series_end = f32 0x3ed413cd  -- 0.41421356

-- ---- sine and cosine

-- Sine, z = a·a: a·(1 - z/6·(1 - z/20·(1 - z/42·(1 - z/72·(1 - z/110))))).
unfoldable pub sine : Float → Float
sine a =
    let z = a ·ᶠ a in
    a ·ᶠ (n1 -ᶠ z /ᶠ n6 ·ᶠ (n1 -ᶠ z /ᶠ n20 ·ᶠ (n1 -ᶠ z /ᶠ n42 ·ᶠ (n1 -ᶠ z /ᶠ n72 ·ᶠ (n1 -ᶠ z /ᶠ n110)))))

-- above PI, t becomes TAU - t
unfoldable pub folded : Float → Float
folded t = cond (Ieee.lt pi t) (tau -ᶠ t) t

-- With z = t·t, up to FRAC_PI_4: 1 - z/2·(1 - z/12·(1 - z/30·(1 - z/56))); above: sine(FRAC_PI_2 - t).
unfoldable pub cosine_of_folded : Float → Float
cosine_of_folded t =
    let z = t ·ᶠ t in
    cond (Ieee.le t frac_pi4)
    (n1 -ᶠ z /ᶠ n2 ·ᶠ (n1 -ᶠ z /ᶠ n12 ·ᶠ (n1 -ᶠ z /ᶠ n30 ·ᶠ (n1 -ᶠ z /ᶠ n56))))
    (sine (frac_pi2 -ᶠ t))

-- Cosine: NaN if r is not finite; t is the size of r % TAU.
unfoldable pub cosine : Float → Float
cosine r = cond (finite r) (cosine_of_folded (folded (size (r %ᶠ tau)))) nan

-- ---- arctangent

-- Series(w), z = w·w: w·(1 - z·(1/3 - z·(1/5 - z·(1/7 - z·(1/9 - z·(1/11 - z·(1/13 - z·(1/15)))))))).
unfoldable pub series : Float → Float
series w =
    let z = w ·ᶠ w in
    w ·ᶠ (n1 -ᶠ z ·ᶠ (third -ᶠ z ·ᶠ (fifth -ᶠ z ·ᶠ (seventh -ᶠ z ·ᶠ (ninth -ᶠ z ·ᶠ (eleventh -ᶠ z ·ᶠ (thirteenth -ᶠ z ·ᶠ fifteenth)))))))

-- Part: series(u) up to 0.41421356, else FRAC_PI_4 + series((u - 1)/(u + 1)).
unfoldable pub part : Float → Float
part u = cond (Ieee.le u series_end) (series u) (frac_pi4 +ᶠ series ((u -ᶠ n1) /ᶠ (u +ᶠ n1)))

-- of a size u: above 1, FRAC_PI_2 - part(1/u), else part(u)
unfoldable pub arctangent_of_size : Float → Float
arctangent_of_size u = cond (Ieee.lt n1 u) (frac_pi2 -ᶠ part (n1 /ᶠ u)) (part u)

-- Arctangent: NaN and zeros as they are; negated for v < 0.
unfoldable pub arctangent : Float → Float
arctangent v =
    cond (is_nan v || Ieee.eq v n0) v
    (cond (Ieee.lt v n0) (neg (arctangent_of_size (size v))) (arctangent_of_size (size v)))

-- Arcsine: arctangent(v / root(1 - v·v)).
unfoldable pub arcsine : Float → Float
arcsine v = arctangent (v /ᶠ root_of binary32 (n1 -ᶠ v ·ᶠ v))

-- x zero: FRAC_PI_2 with y's sign, or y if y is zero
unfoldable pub quarter_turn : Float → Float
quarter_turn y = cond (Ieee.eq y n0) y (cond (negative y) (neg frac_pi2) frac_pi2)

-- Arctangent of y, x: NaN if either is; x > 0: arctangent(y/x); x < 0: that plus PI, or minus PI when y's sign bit stands.
unfoldable pub arctangent2 : Float → Float → Float
arctangent2 y x =
    cond (is_nan y || is_nan x) nan
    (cond (Ieee.lt n0 x) (arctangent (y /ᶠ x))
    (cond (Ieee.lt x n0) (cond (negative y) (arctangent (y /ᶠ x) -ᶠ pi) (arctangent (y /ᶠ x) +ᶠ pi))
    (quarter_turn y)))
