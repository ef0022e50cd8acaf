-- `read_values` meets its contract: fields 0 to x-index are read. Assumes nothing.
use Prim.Native.Nat.{◌<◌, ◌≤◌}
use native.Mathlib.Omega.{arith}
use lib.ListN.{length}
use Rattle.std.proofs.lemmas.List.{set-get_or}
use Rattle.fields.proofs.FieldLaw.{read_none, read_part, read_turn, read_keeps, read_done, read_place}
use Rattle.fields.proofs.read_values.Goals as goal

pub returns-then-map-eq0 : goal.returns-then-map-eq0
returns-then-map-eq0 g c = read_none _ _ _ _ _ c.if-map-eq0.true

pub read_word-requires : goal.read_word-requires
read_word-requires g c = let h : c.loop-x.x-index < length c.loop-x.v = omega arith in read_part _ c.loop-x.invariant h c.if-bit-eq1.true

pub loop-x-preserved : goal.loop-x-preserved
loop-x-preserved g c =
    let f = c.loop-x.invariant in
    let h : c.loop-x.x-index < length c.loop-x.v = omega arith in
    elim c.if-bit-eq1.branch [
      | goal.then-bit-eq1 w ↦ rw (w.v-is, w.at-is, w.of_bits.ensures) (read_turn _ f h w.if-bit-eq1.true w.read_word.result w.read_word.ensures)
      | goal.else-bit-eq1 w ↦ rw (w.v-is, w.at-is, set-get_or) (read_keeps _ f h w.if-bit-eq1.false)
    ]

pub returns : goal.returns
returns g c = let h : length c.loop-x.v ≤ c.loop-x.x-index = omega arith in (read_done _ c.loop-x.invariant h, read_place _ c.loop-x.invariant h)
