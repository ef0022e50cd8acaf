-- `bytes::to_bits` meets its contract, by whether the number is NaN. Assumes nothing.
use mathlib.Core.Path.{◌∙◌, sym, ap}
use lib.Ieee.{binary32, to_bits}
use Rattle.fields.proofs.NumberLaw.{nan_of, bits_of_nan}
use Rattle.fields.proofs.bytes.to_bits.Goals as goal

pub returns-then-is_nan : goal.returns-then-is_nan
returns-then-is_nan c = sym (ap (to_bits binary32) (nan_of c.args.v (sym c.is_nan.ensures.value ∙ c.if-is_nan.true)) ∙ bits_of_nan)
