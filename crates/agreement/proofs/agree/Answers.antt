-- `agree` meets its contract: the box's refusal first, then the display's, then the two recordings. Assumes nothing.
use Rattle.std.proofs.lemmas.Result.{err_from_is_err_and}
use Rattle.agreement.proofs.Whole.{box_refused, display_refused, both_read}
use Rattle.agreement.proofs.agree.Goals as goal

pub returns-in_err-a : goal.returns-in_err-a
returns-in_err-a c =
    let p = err_from_is_err_and c.from_residual.result c.from_residual.ensures.1 in
    rw (p.1, p.2) (box_refused _ _ _ (c.in_err-a.ensures))

pub returns-in_err-b : goal.returns-in_err-b
returns-in_err-b c =
    let p = err_from_is_err_and c.from_residual-in_err-b.result c.from_residual-in_err-b.ensures.1 in
    rw (p.1, p.2) (display_refused _ _ _ c.in_ok-a.ensures _ c.in_err-b.ensures)

pub returns : goal.returns
returns c = both_read _ _ _ c.in_ok-a.ensures _ c.in_ok-b.ensures _ c.part.ensures
