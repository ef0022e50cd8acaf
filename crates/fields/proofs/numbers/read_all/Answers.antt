-- `numbers::read_all` meets its contract: f32s 0 to i are read. Assumes nothing.
use Rattle.std.proofs.Common.{rules, ◌≡◌, ◌∙◌, length, take, ap, ◌*◌, ◌/◌}
use mathlib.Core.List.{[]}
use native.Mathlib.Omega.{arith}
use Rattle.std.specs.Simd.{first_chunks}
use Rattle.fields.proofs.MapLaw.{done}
use Rattle.fields.proofs.FloatLaw.{f32_of, read_words}
use Rattle.fields.proofs.numbers.read_all.Goals as goal

pub returns : goal.returns
returns c =
    let n = length c.args.v.now in
    let front = take (4 * n) c.args.s.now in
    let count : length front / 4 ≡ n = search (rules, arith) in
    let words : c.as_chunks.result.0.now ≡ first_chunks 4 n front = c.as_chunks.ensures.front ∙ ap (λ k. first_chunks 4 k front) count in
    done f32_of [] c.loop-i.invariant (search rules) ∙ read_words n c.args.s.now _ words
