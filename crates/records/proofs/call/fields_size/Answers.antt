use Rattle.std.proofs.Common.{◌/◌, arith}
use Rattle.fields.proofs.FieldLaw.{ones_le}
use Rattle.records.proofs.CallLaw.{size_is, counted, bit_number}
use Rattle.records.proofs.call.fields_size.Goals as goal

pub returns : goal.returns
returns c =
    let m = c.args.map in
    let k = bit_number 0 m c.stands.ensures c.from.ensures in
    let r = bit_number 1 m c.stands-2.ensures c.from-2.ensures in
    let n = counted m _ c.count.ensures.0 in
    let e = size_is m in
    let most = ones_le 20 (m / 4) in
    (omega arith, omega arith)
