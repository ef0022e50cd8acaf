use Rattle.std.proofs.Common.{refl, ◌∙◌}
use Rattle.records.proofs.ConfigLaw.{exit_is}
use Rattle.editions.proofs.Reading.{short, room, copied, read_fails, reads}
use Rattle.editions.proofs.read_second.Goals as goal

pub returns-in_err-record : goal.returns-in_err-record
returns-in_err-record c =
    let asked = c.requires in
    exit_is _ c.from_residual.ensures.1 c.in_err-record.ensures.1 ∙ short _ _ _ asked.0 asked.1 asked.2 (rw c.fields_size-size.ensures.0 at c.in_err-record.ensures.0)

pub returns-in_err-read : goal.returns-in_err-read
returns-in_err-read c =
    let asked = c.requires in
    let there = room _ _ _ asked.0 asked.1 asked.2 _ c.fields_size-size.ensures.0 c.in_ok-record.ensures.0 _ c.in_ok-record.ensures.1 in
    let p = copied _ _ _ _ there c.copy_from_slice.ensures.after in
    exit_is _ c.from_residual-in_err-read.ensures.1 refl
    ∙ read_fails _ _ _ asked.0 asked.1 asked.2 _ c.fields_size-size.ensures.0 c.in_ok-record.ensures.0 _ c.in_ok-record.ensures.1 _ _ _ p.0 p.1
    c.turn.ensures c.write_number.ensures _ c.in_err-read.ensures

pub returns : goal.returns
returns c =
    let asked = c.requires in
    let there = room _ _ _ asked.0 asked.1 asked.2 _ c.fields_size-size.ensures.0 c.in_ok-record.ensures.0 _ c.in_ok-record.ensures.1 in
    let p = copied _ _ _ _ there c.copy_from_slice.ensures.after in
    reads _ _ _ asked.0 asked.1 asked.2 _ c.fields_size-size.ensures.0 c.in_ok-record.ensures.0 _ c.in_ok-record.ensures.1 _ _ _ p.0 p.1
    c.turn.ensures c.write_number.ensures _ c.in_ok-read.ensures
