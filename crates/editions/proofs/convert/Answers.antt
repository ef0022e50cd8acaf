use Rattle.std.proofs.Common.{refl, sym, ◌∙◌}
use Rattle.records.proofs.ConfigLaw.{exit_is}
use Rattle.editions.proofs.Writing.{refusal_is, places_are}
use Rattle.editions.proofs.convert.Goals as goal

pub returns-in_err-read : goal.returns-in_err-read
returns-in_err-read c =
    let a = refusal_is _ _ c.args.out.now c.args.place _ (sym (rw c.other.ensures at c.in_err-read.ensures)) in
    (exit_is _ c.from_residual.ensures.1 refl ∙ a.0, a.1)

pub returns-in_err-written : goal.returns-in_err-written
returns-in_err-written c =
    let w = c.in_err-written.ensures in
    let a = places_are _ _ c.args.out.now c.args.place _ (sym (rw c.other.ensures at c.in_ok-read.ensures)) _ _ w.0 w.1 in
    (exit_is _ c.from_residual-in_err-written.ensures.1 refl ∙ a.0, a.1)

pub returns : goal.returns
returns c =
    let w = c.in_ok-written.ensures in
    places_are _ _ c.args.out.now c.args.place _ (sym (rw c.other.ensures at c.in_ok-read.ensures)) _ _ w.0 w.1
