-- An f32 is held by its format, and the operation of such a value is the root.
use mathlib.Core.Path.{sym, subst}
use lib.Dec.{T}
use borrow.Author.Rules.{rules}
use Rattle.arithmetic.proofs.root.Law.{operation_is_root}
use Rattle.arithmetic.proofs.root.root.Goals as goal

pub returns : goal.returns
returns c = operation_is_root _ _ (subst T (sym c.well_formed.0.1) tt) (search rules)
