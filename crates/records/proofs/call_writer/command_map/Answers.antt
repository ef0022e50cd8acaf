use mathlib.Core.Path.{◌∙◌}
use Rattle.records.proofs.CallLaw.{front_map}
use Rattle.records.proofs.call_writer.command_map.Goals as goal

pub returns : goal.returns
returns c = c.whole_map.ensures ∙ rw (c.changed-numbers.ensures.0, front_map _ c.requires)
