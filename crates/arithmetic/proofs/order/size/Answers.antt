use mathlib.Core.Path.{sym, ap, ◌∙◌, subst}
use mathlib.Core.Bool.{Bool, not}
use lib.Dec.{T}
use lib.Ieee.{binary32, fits, is_nan}
use lib.Ieee.Bits.{nan_bits_is}
use Rattle.arithmetic.proofs.Signs.{size_bits, size_number}
use Rattle.arithmetic.proofs.order.size.Goals as goal

pub float_from_bits-result : goal.float_from_bits-result
float_from_bits-result c =
    let v = c.args.v in
    let n = sym c.if-is_nan.ensures.value in
    let h : T (fits binary32 v) = subst T (sym c.well_formed.0.1) tt in
    subst (λ (b : Bool). T (not b)) (sym (nan_bits_is binary32 _ ∙ ap is_nan (size_bits v h n) ∙ size_number v n)) tt

pub returns : goal.returns
returns c = size_bits c.args.v (subst T (sym c.well_formed.0.1) tt) (sym c.if-is_nan.ensures.value)
