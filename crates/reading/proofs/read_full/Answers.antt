use Rattle.std.proofs.Common.{rules}
use Rattle.reading.proofs.Law.{read_more}
use Rattle.reading.proofs.read_full.Goals as goal

pub loop-size-preserved : goal.loop-size-preserved
loop-size-preserved g c = (
  search rules,
  search rules,
  read_more _ _ _ _ _ _ _ _ c.loop-size.invariant.2 c.in-Ok.ensures.bytes.0 c.loop-size.invariant.1 c.in-Ok.ensures.bound.0,
)
