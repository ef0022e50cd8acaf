use Rattle.std.proofs.Common.{◌≡◌, Ok, rules, arith}
use Rattle.records.specs.Call.{read_call, skipped}
use Rattle.compaction.proofs.Reading.{scan_over, scan_nine, scan_bad, scan_turn}
use Rattle.compaction.proofs.scan.Goals as goal

pub returns-then-s-at : goal.returns-then-s-at
returns-then-s-at c = scan_over c.loop-number.invariant c.if-s-at.true

pub returns-in_err-at : goal.returns-in_err-at
returns-in_err-at c = scan_bad c.loop-number.invariant c.from_residual.result (omega arith) c.if-s-at.false (search rules)

pub loop-number-preserved : goal.loop-number-preserved
loop-number-preserved c =
    let read : skipped (read_call c.args.s.now c.loop-number.at) ≡ Ok c.in_ok-at.at = search rules in
    scan_turn c.loop-number.invariant _ (omega arith) c.if-s-at.false read

pub returns-then-s-at-2 : goal.returns-then-s-at-2
returns-then-s-at-2 c = scan_over c.loop-number.invariant c.if-s-at-2.true

pub returns : goal.returns
returns c = scan_nine c.loop-number.invariant (omega arith) c.if-s-at-2.false
