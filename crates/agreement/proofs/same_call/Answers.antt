-- `same_call` meets its contract, by the parts of both calls. Assumes nothing.
use mathlib.Core.Path.{◌∙◌}
use Rattle.agreement.proofs.Same.{same_numbers, same_truths}
use Rattle.agreement.proofs.Parts.{values_same}
use Rattle.agreement.proofs.same_call.Goals as goal

pub returns : goal.returns
returns c =
    rw (c.eq.ensures, c.eq-2.ensures)
    (values_same _ _ _ _
    c.parts_of-p.ensures
    c.parts_of-q.ensures
    _ _ c.bits_of.ensures
    c.bits_of-2.ensures _ _
    (c.eq-3.ensures ∙ same_numbers _ _)
    (c.eq-4.ensures ∙ same_truths _ _))
