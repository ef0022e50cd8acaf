use Rattle.records.proofs.CallLaw.{front_bits}
use Rattle.records.proofs.call_writer.command_bits.Goals as goal

pub returns : goal.returns
returns c = front_bits _ _ c.requires c.bits.ensures
