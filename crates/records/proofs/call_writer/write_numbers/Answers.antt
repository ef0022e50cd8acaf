use Rattle.std.proofs.Common.{◌≡◌, length, take, ap, ◌∙◌, arith}
use Rattle.std.proofs.lemmas.List.{length-take-le}
use Rattle.fields.specs.Bytes.{put_at}
use Rattle.records.proofs.CallLaw.{front_ones, front_body}
use Rattle.records.proofs.call_writer.write_numbers.Goals as goal

pub write_values-requires : goal.write_values-requires
write_values-requires c =
    let five : length (take 5 c.args.v.now) ≡ 5 = length-take-le 5 c.args.v.now (omega arith) in
    rw five (omega (arith, c.requires, front_ones 5 (omega arith) c.args.map c.if-map-lt32.true))

pub returns-then-map-lt32 : goal.returns-then-map-lt32
returns-then-map-lt32 c =
    let five : length (take 5 c.args.v.now) ≡ 5 = length-take-le 5 c.args.v.now (omega arith) in
    c.write_values.ensures.0 ∙ ap (put_at c.args.part.now c.args.from) (front_body 5 (omega arith) c.args.map c.if-map-lt32.true c.args.v.now five)
