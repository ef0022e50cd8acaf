use mathlib.Core.Path.{sym, ap}
use mathlib.Core.Bool.{false}
use Prim.Native.Nat.{ℕ, ◌%◌, ◌^◌, ◌≤◌}
use native.Mathlib.Nat.{mul-one}
use native.Mathlib.Omega.{arith}
use lib.Dec.{T, le→leb}
use lib.IntN.{pos}
use lib.Ieee.{binary32, in_float, of_int}
use lib.Ieee.Exact.{HasValue}
use lib.Ieee.Back.{round_whole}
use Rattle.arithmetic.proofs.Remainder.{below_tau_units, doubled_once_more, all_doubled}
use Rattle.arithmetic.proofs.trigonometry.remainder.Goals as goal

whole : (x : ℕ) → x ≤ 2 ^ 24 → HasValue (of_int binary32 (pos x)) false x 1
unfolding of_int
whole x h = round_whole binary32 false x h

cast : (x : ℕ) → x ≤ 2 ^ 24 → T (in_float binary32 (pos x))
unfolding in_float
cast x h = le→leb x (2 ^ 24) h

pub loop-init : goal.loop-init
loop-init c = sym (ap (λ (k : ℕ). k % 13176795) (mul-one _))

pub overflow_mul-x : goal.overflow_mul-x
overflow_mul-x c = omega (arith, below_tau_units c.args.b c.loop.x c.loop.counter c.loop.invariant)

pub loop-preserved : goal.loop-preserved
loop-preserved c = doubled_once_more c.args.b c.loop.x c.loop.counter c.loop.invariant

pub int_to_float-result : goal.int_to_float-result
int_to_float-result c = cast c.loop.x (omega (arith, below_tau_units c.args.b c.loop.x c.loop.counter c.loop.invariant))

pub returns : goal.returns
returns c =
    let l = c.loop in
    let small : l.x ≤ 2 ^ 24 = omega (arith, below_tau_units c.args.b l.x l.counter l.invariant) in
    all_doubled c.args.b l.x l.counter (omega arith) l.invariant c.requires.0 c.requires.1 _ (whole l.x small)
