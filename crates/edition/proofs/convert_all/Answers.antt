-- `convert_all` meets its contract. Assumes nothing.
use native.Mathlib.Omega.{arith}
use borrow.Author.Rules.{rules}
use Rattle.edition.proofs.Law.{converting_starts, converting_ends, converting_refuses, converting_turns}
use Rattle.edition.proofs.convert_all.Goals as goal

pub loop-at-init : goal.loop-at-init
loop-at-init c = converting_starts _ _ _ c.requires.1

pub returns-in_err-done : goal.returns-in_err-done
returns-in_err-done c =
    converting_refuses c.loop-at.invariant _ _ _ c.loop-at-test.true c.convert.ensures.0 c.convert.ensures.1 (search rules)

pub loop-at-smaller : goal.loop-at-smaller
loop-at-smaller c =
    omega (
      arith,
      c.loop-at-test.true,
      (converting_turns c.loop-at.invariant c.in_ok-done.done _ _ c.loop-at-test.true c.convert.ensures.0 c.convert.ensures.1
          (search rules)).1,
    )

pub loop-at-preserved : goal.loop-at-preserved
loop-at-preserved c =
    (converting_turns c.loop-at.invariant c.in_ok-done.done _ _ c.loop-at-test.true c.convert.ensures.0 c.convert.ensures.1
    (search rules)).0

pub returns : goal.returns
returns c = converting_ends c.loop-at.invariant (search rules)
