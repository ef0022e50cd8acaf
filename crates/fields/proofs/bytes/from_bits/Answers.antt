-- `bytes::from_bits` meets its contract, by whether the bits are a NaN's. Assumes nothing.
use mathlib.Core.Path.{refl, sym, ◌∙◌}
use borrow.Author.Tests.{lt-ltb, le-ltb}
use Rattle.fields.proofs.NumberLaw.{nan_bits_lem, no_nan_bits, not-false}
use Rattle.fields.proofs.bytes.from_bits.Goals as goal

pub returns-then-bits-gt-INFINITY : goal.returns-then-bits-gt-INFINITY
returns-then-bits-gt-INFINITY c = nan_bits_lem _ refl ∙ sym (nan_bits_lem c.args.bits (lt-ltb _ _ c.if-bits-gt-INFINITY.true))

pub float_from_bits-result : goal.float_from_bits-result
float_from_bits-result c = not-false (no_nan_bits c.args.bits (le-ltb _ _ c.if-bits-gt-INFINITY.false))
