-- `read_maps` meets its contract where there are two maps. Assumes nothing.
use Rattle.std.proofs.Common.{rules, ◌≡◌, ◌∙◌, ◌+◌, ap, drop}
use lib.Seq.{drop-drop}
use Rattle.fields.specs.Bytes.{number_at}
use Rattle.fields.proofs.FieldLaw.{rest_is}
use Rattle.route_records.specs.Record.{read_maps}
use Rattle.route_records.proofs.read_maps.Goals as goal

pub returns : goal.returns
unfolding read_maps
returns c =
    let s = c.args.s.now in
    let at = c.args.at in
    let rest = ap (drop 4) c.in_ok-two.ensures.1 ∙ drop-drop 4 at s in
    let second : c.from-second.result ≡ number_at 4 (drop (at + 4) s) =
    c.from-second.ensures ∙ c.read_word-2.ensures ∙ ap (number_at 4) (rest_is _ 4 ∙ rest) in
    search (second, rules)
