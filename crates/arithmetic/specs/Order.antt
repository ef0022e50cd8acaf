-- Least, greatest, clamp, the size and the finite test of document 01, and a choice by a Bool. Definitions only.
use Rattle.std.specs.Prelude.{Bool, false, cond, Float}
use Rattle.std.specs.Float.Ieee as Ieee
use Rattle.std.specs.Float.{nan, inf, fin}
use Rattle.std.specs.Float.Ieee.{is_nan}
-- Finite: neither NaN nor an infinity.
unfoldable pub use Rattle.std.specs.Float.{float_is_finite as finite}

-- Least: the other if one is NaN; a if a < b; else b.
unfoldable pub least : Float → Float → Float
least a b = cond (is_nan a) b (cond (is_nan b) a (cond (Ieee.lt a b) a b))

-- Greatest: likewise with >.
unfoldable pub greatest : Float → Float → Float
greatest a b = cond (is_nan a) b (cond (is_nan b) a (cond (Ieee.lt b a) a b))

-- Clamp: low if v < low, high if v > high, else v; NaN passes.
unfoldable pub clamp : Float → Float → Float → Float
clamp v low high = cond (Ieee.lt v low) low (cond (Ieee.lt high v) high v)

-- The size: the sign bit is cleared.
unfoldable pub size : Float → Float
size nan = nan
size (inf s) = inf false
size (fin s m e) = fin false m e

-- the sign bit stands
unfoldable pub negative : Float → Bool
negative nan = false
negative (inf s) = s
negative (fin s m e) = s

-- x where the test holds, else y
abbrev pub choose : Bool → Float → Float → Float
choose b x y = cond b x y
