-- A waypoint, or a command with five numbers.
use Rattle.std.proofs.Common.{◌≡◌, false, drop, replicate, sym, ap, ◌∙◌}
use denote.Enum.Bare.{same_false}
use Rattle.records.specs.contracts.call.Kind.{the_type}
use Rattle.records.specs.Call.{zero}
use Rattle.records.specs.Code.Steps.{record_of}
use Rattle.records.proofs.CallLaw.{is_command, bits_after, map_is}
use Rattle.records.proofs.call_writer.record_of.Goals.{Else-eq}
use Rattle.records.proofs.call_writer.record_of.Goals as goal

pub returns-then-eq : goal.returns-then-eq
returns-then-eq c = map_is _ _ _ c.bits_of-numbers.ensures c.waypoint_map.ensures ∙ ap record_of c.parts_of-kind.ensures

five : (c : Else-eq) → (drop 5 c.parts_of-kind.result.numbers ≡ replicate 15 zero) × (c.parts_of-kind.result.keeps ≡ replicate 20 false)
five c = is_command c.args.call _ c.parts_of-kind.ensures (same_false the_type _ _ (sym c.eq.ensures ∙ c.if-eq.false))

pub command_bits-numbers-requires : goal.command_bits-numbers-requires
command_bits-numbers-requires c = (five c).0

pub command_map-requires : goal.command_map-requires
command_map-requires c = bits_after _ _ (five (goal.at.command_map-requires c).Else-eq).0 c.command_bits-numbers.ensures

pub returns : goal.returns
returns c =
    let kept = (five (goal.at.returns c).Else-eq).1 in
    map_is _ _ _ c.command_bits-numbers.ensures (c.command_map.ensures ∙ rw kept) ∙ ap record_of c.parts_of-kind.ensures
