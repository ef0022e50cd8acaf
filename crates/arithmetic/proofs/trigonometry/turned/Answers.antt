-- 0x80000000 is 2 ^ 31.
use mathlib.Core.Path.{◌≡◌, sym, ap, ◌∙◌, subst}
use mathlib.Core.Bool.{false}
use Prim.Native.Nat.{ℕ, ◌%◌}
use native.Mathlib.Nat.{mod-lt}
use native.Mathlib.Omega.{arith}
use lib.Dec.{T}
use lib.Ieee.{Float, binary32, fits, is_nan, lt, rem, of_bits, to_bits}
use Rattle.arithmetic.specs.Constants.{tau}
use Rattle.arithmetic.specs.Order.{size, finite}
use Rattle.arithmetic.proofs.Bounds.{finite_number}
use Rattle.arithmetic.proofs.Signs.{size_bits, is_number}
use Rattle.arithmetic.proofs.Rounding.{rem_short}
use Rattle.arithmetic.proofs.Remainder.{size_rem, size_finite, at_least_four, finite_bits}
use Rattle.arithmetic.proofs.trigonometry.turned.Goals as goal
use Rattle.arithmetic.proofs.trigonometry.turned.Goals.{Start}

held : (c : Start) → T (fits binary32 c.args.r)
held c = subst T (sym c.well_formed.0.1) tt

number : (c : Start) → is_nan c.args.r ≡ false
number c = finite_number c.args.r c.requires

-- the bits without the sign bit
abbrev bits : Start → ℕ
bits c = to_bits binary32 c.args.r % 0x80000000

sized : (c : Start) → of_bits binary32 (bits c) ≡ size c.args.r
sized c = size_bits c.args.r (held c) (number c)

pub returns-then-u : goal.returns-then-u
returns-then-u c =
    let r = c.args.r in
    c.size-u.ensures ∙ ap size (rem_short r (held c.before.before) (ap (λ (x : Float). lt x tau) (sym c.size-u.ensures) ∙ c.if-u.true))

pub float_to_bits-r : goal.float_to_bits-r
float_to_bits-r c = is_number _ (number c.before.before)

pub remainder-requires : goal.remainder-requires
remainder-requires c =
    let s = c.before.before in (
      at_least_four (bits s) (ap (λ (x : Float). lt x tau) (sized s ∙ sym c.size-u.ensures) ∙ c.if-u.false),
      finite_bits (bits s) (mod-lt (to_bits binary32 s.args.r) (omega arith)) (ap finite (sized s) ∙ size_finite s.args.r ∙ s.requires),
    )

pub returns-else-u : goal.returns-else-u
returns-else-u c =
    let s = c.before.before.before in
    c.remainder.ensures ∙ ap (λ (x : Float). rem binary32 x tau) (sized s) ∙ sym (size_rem s.args.r)
