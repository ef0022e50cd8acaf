use Rattle.std.proofs.Common.{◌≡◌, length, ◌∙◌, rules}
use Rattle.records.proofs.ConfigLaw.{fields_are}
use Rattle.records.proofs.config.config_map.Goals as goal

pub returns : goal.returns
returns c =
    let l : length c.args.v ≡ 33 = search rules in
    (c.changed.ensures.0 ∙ rw (l, c.default_bits-missing.ensures, fields_are), rw l at c.changed.ensures.1)
