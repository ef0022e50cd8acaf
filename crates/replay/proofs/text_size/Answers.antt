use Rattle.std.proofs.Common.{length, rules, tests, refl, sym, ◌∙◌, ap, arith}
use Rattle.std.proofs.lemmas.Iterator.{YieldsList-from_map}
use Rattle.std.proofs.lemmas.Iterator.Consumers.{YieldsList-at, YieldsList-from_first, sum_by_from_yields_List, fits_by_from_yields_list}
use Rattle.lines.specs.Line.{text}
use Rattle.replay.specs.Code.Run.{lines_left}
use Rattle.replay.proofs.TextLaw.{one_text, calls_text, sizes_sum, text_fits}
use Rattle.replay.proofs.text_size.Goals as goal

pub sum-requires-clause-fits : goal.sum-requires-clause-fits
sum-requires-clause-fits c =
    let size = ap length (calls_text c.args.s.now c.in-Ok.lines c.in-Ok.ensures) in
    fits_by_from_yields_list (λ l. length (text l)) (lines_left c.in-Ok.lines) c.map.result _
    (YieldsList-from_map _ (λ l. length (text l)) (YieldsList-at c.map.ensures.source (YieldsList-from_first (λ x. x) lines_left _ refl)) c.map.ensures.closure
    (λ x r q k. search (rules, tests)))
    (omega (arith, sizes_sum (lines_left c.in-Ok.lines), size, text_fits c.args.s.now))

pub returns-in-Err : goal.returns-in-Err
returns-in-Err c = c.line_size.ensures ∙ ap length (sym (one_text c.args.s.now c.in-Err.line c.in-Err.ensures))

pub returns-in-Ok : goal.returns-in-Ok
returns-in-Ok c =
    let size = ap length (calls_text c.args.s.now c.in-Ok.lines c.in-Ok.ensures) in
    sum_by_from_yields_List (λ l. length (text l)) (lines_left c.in-Ok.lines) c.map.result _ c.sum.ensures.ran
    (YieldsList-from_map _ (λ l. length (text l)) (YieldsList-at c.map.ensures.source (YieldsList-from_first (λ x. x) lines_left _ refl)) c.map.ensures.closure
    (λ x r q k. search (rules, tests)))
    ∙ sizes_sum (lines_left c.in-Ok.lines) ∙ sym size
