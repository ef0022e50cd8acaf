use Rattle.std.proofs.Common.{rules, ◌≡◌, ◌++◌, take, drop, Ok, sym, length-take-le}
use Rattle.std.specs.Io.KnownBytes.{Appends}
use Rattle.compact.specs.Output.{answer_to, output_of}
use Rattle.compact.proofs.Law.{fits, of_input, short_written, nothing_written}
use Rattle.compact.proofs.shorten.Goals as goal

pub slice_bounds-bytes-end-in-Ok : goal.slice_bounds-bytes-end-in-Ok
slice_bounds-bytes-end-in-Ok g c = fits _ _ _ _ _ c.compact-answer.ensures.0 c.compact-answer.ensures.1 c.in-Ok.is

pub slice_bounds-write_all-end : goal.slice_bounds-write_all-end
slice_bounds-write_all-end g c = sym (length-take-le _ _ (fits _ _ _ _ _ c.compact-answer.ensures.0 c.compact-answer.ensures.1 c.in-Ok.is))

pub returns-in_ok-map_err-clause-answer : goal.returns-in_ok-map_err-clause-answer
returns-in_ok-map_err-clause-answer g c =
    of_input (λ s. Ok c.in-Ok.n ≡ answer_to s) _ _ _ c.in_ok-size.ensures.front (search rules) c.in-Ok.ensures.0

pub returns-in_ok-map_err-clause-written : goal.returns-in_ok-map_err-clause-written
returns-in_ok-map_err-clause-written g c =
    let before = g.W.Write.contents c.args.writer.now in
    let after = g.W.Write.contents c.write_all.new.self in
    let put : Appends before after (take c.in-Ok.n (c.compact-answer.new.s ++ drop c.in_ok-size.size c.read_full.new.buffer)) = search rules in
    of_input (λ s. Appends before after (output_of s)) _ _ _ c.in_ok-size.ensures.front (search rules)
    (short_written _ _ _ _ _ _ c.in-Ok.ensures.0 c.in-Ok.ensures.1 put)

pub returns-in_default-clause-answer : goal.returns-in_default-clause-answer
returns-in_default-clause-answer g c =
    of_input (λ s. c.compact-answer.result ≡ answer_to s) _ _ _ c.in_ok-size.ensures.front (search rules) c.compact-answer.ensures.0

pub returns-in_default-clause-written : goal.returns-in_default-clause-written
returns-in_default-clause-written g c =
    let before = g.W.Write.contents c.args.writer.now in
    of_input (λ s. Appends before before (output_of s)) _ _ _ c.in_ok-size.ensures.front (search rules)
    (nothing_written _ _ _ c.compact-answer.ensures.0 c.in_default.not-Ok)
