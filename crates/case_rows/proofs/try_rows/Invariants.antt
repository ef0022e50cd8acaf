-- `try_rows` counts no more rows as right than it has tried. Assumes nothing.
use Rattle.std.proofs.Common.{◌≤◌}
use Rattle.case_rows.proofs.try_rows.Given as goal

abbrev pub invariant-loop-rows : goal.invariant-loop-rows
invariant-loop-rows g l = goal.T-IsAlwaysCallable g l.is_right × (l.right ≤ l.rows)
