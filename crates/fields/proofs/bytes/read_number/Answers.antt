-- `bytes::read_number` meets its contract: v is the number of the bytes behind those that are left. Assumes nothing.
use Rattle.std.proofs.Common.{rules, ◌≡◌, subst, sym, take}
use native.Mathlib.Omega.{arith}
use Rattle.fields.proofs.NumberLaw.{Left, left_starts, left_turn}
use Rattle.fields.proofs.bytes.read_number.Goals as goal

pub loop-b-init : goal.loop-b-init
loop-b-init c =
    let all : c.into_iter-b-iterator.result.iter.rest.now ≡ take c.args.n c.args.part.now = search rules in
    subst (Left c.args.part.now c.args.n 0) (sym all) (left_starts c.args.part.now c.args.n c.requires.1)

pub loop-b-preserved : goal.loop-b-preserved
loop-b-preserved c = rw c.from.ensures (left_turn c.loop-b.invariant _ _ c.in-Some.ensures.steps (λ i. omega (arith, c.type_inv.part i)))
