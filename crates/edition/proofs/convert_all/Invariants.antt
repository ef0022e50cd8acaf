-- `convert_all` meets its contract. Assumes nothing.
use Prim.Native.Nat.{◌-◌}
use lib.ListN.{length}
use Rattle.edition.proofs.Law.{Converting}
use Rattle.edition.proofs.convert_all.Given as goal

abbrev pub invariant-loop-at : goal.invariant-loop-at
invariant-loop-at l = Converting l.s l.wanted l.initial.out l.out l.at l.to l.n

abbrev pub decreases-loop-at : goal.decreases-loop-at
decreases-loop-at l = length l.s - l.at
