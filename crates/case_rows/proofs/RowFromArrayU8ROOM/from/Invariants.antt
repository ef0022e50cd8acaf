-- A row's words are its bytes, four at a time. Assumes nothing.
use Rattle.std.proofs.Common.{◌≡◌, length, map, take}
use Rattle.std.specs.Int.{w32, from_le_bytes}
use Rattle.case_rows.proofs.RowFromArrayU8ROOM.from.Given as goal

abbrev pub invariant-loop-i : goal.invariant-loop-i
invariant-loop-i l = (length l.words ≡ 64) × (take l.i l.words ≡ map (from_le_bytes w32) (take l.i l.chunks))
