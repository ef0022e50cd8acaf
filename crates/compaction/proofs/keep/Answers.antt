use Rattle.std.proofs.Common.{arith}
use Rattle.compaction.proofs.Bytes.{moved_already, moved_within}
use Rattle.compaction.proofs.keep.Goals as goal
use Rattle.compaction.proofs.keep.Goals.{then-to-from, else-to-from}

pub returns : goal.returns
returns c =
    elim c.if-to-from.branch [
      | then-to-from w ↦ rw (w.s-is, w.copy_within.ensures.after) (moved_within _ _ _ _ c.requires.1 c.requires.2)
      | else-to-from w ↦ rw w.s-is (moved_already _ _ _ _ (omega arith) c.requires.1 c.requires.2)
    ]
