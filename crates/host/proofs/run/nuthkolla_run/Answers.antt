use mathlib.Core.Path.{ap, sym, ◌∙◌}
use borrow.Author.Tests.{ne_eqb}
use Prim.Native.Nat.{ℕ}
use Rattle.host.specs.Run.{run_by}
use Rattle.host.specs.declared.run.Ran.{Ran}
use Rattle.host.proofs.Kept.{taken, change_run}
use Rattle.host.proofs.run.nuthkolla_run.Goals as goal

pub returns-then-what-eq0 : goal.returns-then-what-eq0
returns-then-what-eq0 c =
    let g = c.args.guidance.now in
    let r = c.call_by-r.ensures in
    let is = ap (λ (n : ℕ). run_by g c.args.caller n c.args.bytes.now) (sym c.if-what-eq0.true) in (
      c.take_over.ensures ∙ taken g c.args.caller c.args.bytes.now c.call_by-r.result r ∙ ap (λ (y : Ran). y.guidance) is,
      ap (λ (y : Ran). y.answer) (r ∙ is),
    )

pub returns-else-what-eq0 : goal.returns-else-what-eq0
returns-else-what-eq0 c =
    let is = change_run c.args.guidance.now c.args.caller c.args.what c.args.bytes.now (ne_eqb _ _ c.if-what-eq0.false) in
    let r = c.change_by-r.ensures ∙ is in
    (ap (λ (y : Ran). y.guidance) r, ap (λ (y : Ran). y.answer) r)
