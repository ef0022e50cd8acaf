-- Refused or accepted.
use Rattle.std.proofs.Common.{◌∙◌, arith, rules}
use Rattle.std.proofs.lemmas.Bool.{leb-true, leb-false}
use Rattle.fields.proofs.WriteLaw.{refused, accepted}
use Rattle.records.specs.Call.{call_record}
use Rattle.records.proofs.CallLaw.{map_below, record_is, record_long}
use Rattle.records.proofs.ConfigLaw.{exit_is}
use Rattle.records.proofs.call_writer.write_call.Goals as goal

pub returns-in_err-check_room : goal.returns-in_err-check_room
returns-in_err-check_room c =
    let long = record_long c.args.call _ c.record_of-record.ensures _ c.fields_size-size.ensures.0 in
    let kept = refused _ _ (call_record c.args.call) _ long (leb-false _ _ c.in_err-check_room.ensures.0) in
    (exit_is _ c.from_residual.ensures.1 c.in_err-check_room.ensures.1 ∙ kept.0, kept.1)

pub write_fields-requires : goal.write_fields-requires
write_fields-requires c = (search rules, rw c.record_of-record.ensures (omega (arith, map_below c.args.call)))

pub returns : goal.returns
returns c =
    let long = record_long c.args.call _ c.record_of-record.ensures _ c.fields_size-size.ensures.0 in
    accepted _ _ (call_record c.args.call) _ long (leb-true _ _ c.in_ok-check_room.ensures) _
    (c.write_fields.ensures ∙ rw (record_is c.args.call _ c.record_of-record.ensures))
