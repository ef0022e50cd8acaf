-- `call::write_fields` meets its contract. Assumes nothing.
use Rattle.std.proofs.Common.{◌≡◌, length, rules, arith, ◌∙◌}
use Rattle.records.proofs.CallLaw.{size_is, fields_written}
use Rattle.records.proofs.call_writer.write_fields.Goals as goal

pub write_byte-second-requires : goal.write_byte-second-requires
write_byte-second-requires c =
    omega (
      arith,
      c.requires.0,
      size_is c.args.r.now.map,
      c.write_word.auto.part,
    )

pub write_byte-third-requires : goal.write_byte-third-requires
write_byte-third-requires c =
    omega (
      arith,
      c.requires.0,
      size_is c.args.r.now.map,
      c.write_word.auto.part,
      c.write_byte-second.auto.part,
      c.write_byte-second.ensures.1,
    )

pub write_numbers-requires : goal.write_numbers-requires
write_numbers-requires c =
    omega (
      arith,
      c.requires.0,
      size_is c.args.r.now.map,
      c.write_word.auto.part,
      c.write_byte-second.auto.part,
      c.write_byte-second.ensures.1,
      c.write_byte-third.auto.part,
      c.write_byte-third.ensures.1,
    )

pub returns : goal.returns
returns c =
    let r = c.args.r.now in
    let long : length r.numbers ≡ 20 = search rules in
    fields_written _ _ _ _ _ r _ _ c.requires.0 long
    c.write_word.ensures
    (rw c.number.ensures at c.write_byte-second.ensures.0)
    c.write_byte-second.ensures.1
    (c.write_byte-third.ensures.0 ∙ search rules)
    c.write_byte-third.ensures.1 c.write_numbers.ensures
