-- `all_finite` meets its contract: the test of each word. Assumes nothing.
use Rattle.std.proofs.Common.{rules, tests, ◌≡◌, ◌∙◌, ap, length, map, ◌/◌}
use Rattle.std.proofs.lemmas.Iterator.Search.{all_from_yields_List}
use Rattle.std.proofs.lemmas.Iterator.{YieldsList-from_slice}
use Rattle.arithmetic.specs.Order.{finite}
use Rattle.fields.proofs.FloatLaw.{f32_of, numbers_chunked}
use Rattle.route_records.specs.Record.{all_finite}
use Rattle.route_records.proofs.NumbersLaw.{all_finite_made}
use Rattle.route_records.proofs.all_finite.Goals as goal

pub returns : goal.returns
returns c =
    let words = c.as_chunks.result.0.now in
    let s = c.args.part.now in
    let tested : c.all.result ≡ all_finite (map f32_of words) =
    all_from_yields_List (λ w. finite (f32_of w)) _ _ c.all.result c.all.ensures.ran (YieldsList-from_slice words (cc)) (λ x b q k. search (rules, tests))
    ∙ all_finite_made f32_of words in
    tested ∙ ap (λ ws. all_finite (map f32_of ws)) c.as_chunks.ensures.front ∙ ap all_finite (numbers_chunked (length s / 4) s)
