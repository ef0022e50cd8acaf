-- Numbers and operators of f32, IEEE 754's binary32: each operation rounded once. Definitions only.
use Rattle.std.specs.Prelude.{ℕ, Float}
use Rattle.std.specs.Float.Ieee as Ieee
use Rattle.std.specs.Float.{binary32}
use Rattle.std.specs.Float.Ieee.{of_bits}

-- the number with these bits
abbrev pub f32 : ℕ → Float
f32 b = of_bits binary32 b

infixl 65 ◌+ᶠ◌
abbrev pub ◌+ᶠ◌ : Float → Float → Float
x +ᶠ y = Ieee.add binary32 x y

infixl 65 ◌-ᶠ◌
abbrev pub ◌-ᶠ◌ : Float → Float → Float
x -ᶠ y = Ieee.sub binary32 x y

infixl 70 ◌·ᶠ◌
abbrev pub ◌·ᶠ◌ : Float → Float → Float
x ·ᶠ y = Ieee.mul binary32 x y

infixl 70 ◌/ᶠ◌
abbrev pub ◌/ᶠ◌ : Float → Float → Float
x /ᶠ y = Ieee.div binary32 x y

-- the remainder, exact, with the sign of the left side
infixl 70 ◌%ᶠ◌
abbrev pub ◌%ᶠ◌ : Float → Float → Float
x %ᶠ y = Ieee.rem binary32 x y

abbrev pub n0 : Float
n0 = f32 0x00000000  -- 0

abbrev pub n1 : Float
n1 = f32 0x3f800000  -- 1

abbrev pub n2 : Float
n2 = f32 0x40000000  -- 2

abbrev pub pi : Float
pi = f32 0x40490fdb  -- 3.1415927

-- PI's exact quarter, half and double
abbrev pub frac_pi4 : Float
frac_pi4 = f32 0x3f490fdb  -- 0.7853982

abbrev pub frac_pi2 : Float
frac_pi2 = f32 0x3fc90fdb  -- 1.5707964

abbrev pub tau : Float
tau = f32 0x40c90fdb  -- 6.2831855
