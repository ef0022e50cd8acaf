-- Refused or accepted.
use Rattle.std.proofs.Common.{◌≡◌, length, ap, ◌∙◌, arith}
use Rattle.std.proofs.lemmas.Bool.{leb-true, leb-false}
use Rattle.records.specs.Config.{config_record}
use Rattle.fields.proofs.WriteLaw.{refused, accepted}
use Rattle.records.proofs.ConfigLaw.{exit_is, bits_long, counted, map_is, record_is, record_long}
use Rattle.records.proofs.config.write_config.Goals as goal

pub returns-in_err-check_room : goal.returns-in_err-check_room
returns-in_err-check_room c =
    let b = c.bits_of-v.ensures in
    let m = map_is c.args.c _ _ b c.config_map-map.ensures.0 in
    let long = record_long c.args.c _ _ b m _ (counted _ _ c.config_map-map.ensures.1 c.count.ensures.0) in
    let kept = refused _ _ (config_record c.args.c) _ long (leb-false _ _ c.in_err-check_room.ensures.0) in
    (exit_is _ c.from_residual.ensures.1 c.in_err-check_room.ensures.1 ∙ kept.0, kept.1)

pub write_fields-requires : goal.write_fields-requires
write_fields-requires c =
    let long : length c.bits_of-v.result ≡ 33 = ap length c.bits_of-v.ensures ∙ bits_long c.args.c in
    rw long
    (omega (
      arith,
      counted _ _ c.config_map-map.ensures.1 c.count.ensures.0,
      leb-true _ _ c.in_ok-check_room.ensures,
    ))

pub returns : goal.returns
returns c =
    let b = c.bits_of-v.ensures in
    let m = map_is c.args.c _ _ b c.config_map-map.ensures.0 in
    let long = record_long c.args.c _ _ b m _ (counted _ _ c.config_map-map.ensures.1 c.count.ensures.0) in
    accepted _ _ (config_record c.args.c) _ long (leb-true _ _ c.in_ok-check_room.ensures) _
    (c.write_fields.ensures ∙ rw (record_is c.args.c _ _ b m))
