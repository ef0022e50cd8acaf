-- A row's words are its bytes, four at a time. Assumes nothing.
use Rattle.std.proofs.Common.{◌≡◌, ◌∙◌, sym, ap, ◌+◌, ◌∷◌, [], ◌++◌, map, take, rules, get_or}
use Rattle.std.specs.Int.{w32, from_le_bytes}
use Rattle.std.specs.Simd.{first_chunks}
use Rattle.std.proofs.lemmas.List.{take_more, take_more_set, map-append, take_all}
use Rattle.case_rows.proofs.RowFromArrayU8ROOM.from.Goals as goal

pub loop-i-preserved : goal.loop-i-preserved
loop-i-preserved c =
    let i = c.loop-i.i in
    let chunks = c.as_chunks.result.0.now in
    let words = c.loop-i.words in
    let f = from_le_bytes w32 in
    let word = c.from_le_bytes.result in
    let chunk : word ≡ f (get_or chunks i []) = search rules in
    let more : map f (take (i + 1) chunks) ≡ map f (take i chunks) ++ f (get_or chunks i []) ∷ [] =
    ap (map f) (take_more chunks i [] (search rules)) ∙ map-append f (take i chunks) (get_or chunks i [] ∷ []) in
    let same = take_more_set words i word (search rules) ∙ ap (λ ws. ws ++ word ∷ []) c.loop-i.invariant.1 in
    (search rules, same ∙ ap (λ w. map f (take i chunks) ++ w ∷ []) chunk ∙ sym more)

pub returns : goal.returns
returns c =
    let f = from_le_bytes w32 in
    let chunks = c.as_chunks.result.0.now in
    let front : chunks ≡ first_chunks 4 64 c.args.bytes = search rules in
    sym (take_all c.loop-i.i c.loop-i.words (search rules)) ∙ c.loop-i.invariant.1 ∙ ap (map f) (take_all c.loop-i.i chunks c.loop-i-test.false) ∙ ap (map f) front
