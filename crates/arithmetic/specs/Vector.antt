-- Difference, length, dot, cross and normalise of document 01, over x (north) and y (east). Definitions only.
use Rattle.std.specs.Prelude.{cond, Float, Option, Some, None}
use Rattle.std.specs.Float.Ieee as Ieee
use Rattle.std.specs.Float.{binary32}
use Rattle.arithmetic.specs.Constants.{◌+ᶠ◌, ◌-ᶠ◌, ◌·ᶠ◌, ◌/ᶠ◌}
use Rattle.arithmetic.specs.Root.{root_of}
use Rattle.arithmetic.specs.declared.vector.Vec2.{Vec2}

-- each part of a minus b's
abbrev pub difference : Vec2 → Vec2 → Vec2
difference a b = record { x = a.x -ᶠ b.x; y = a.y -ᶠ b.y }

-- Length: root(x·x + y·y).
unfoldable pub norm : Vec2 → Float
norm v = root_of binary32 (v.x ·ᶠ v.x +ᶠ v.y ·ᶠ v.y)

-- Dot: a.x·b.x + a.y·b.y.
unfoldable pub dot : Vec2 → Vec2 → Float
dot a b = a.x ·ᶠ b.x +ᶠ a.y ·ᶠ b.y

-- the cross product's z part: positive when b points right of a
unfoldable pub cross : Vec2 → Vec2 → Float
cross a b = a.x ·ᶠ b.y -ᶠ a.y ·ᶠ b.x

-- Normalise: none if length <= floor, else each part / length.
unfoldable pub normalise : Vec2 → Float → Option Vec2
normalise v floor =
    let l = norm v in
    cond (Ieee.le l floor) None (Some (record { x = v.x /ᶠ l; y = v.y /ᶠ l }))
