-- The bytes at the front are those that the reader gave.
use Rattle.std.proofs.Common.{◌≡◌, ◌-◌, ◌≤◌, length, take}
use Rattle.std.specs.Io.KnownBytes.{Consumes}
use Rattle.reading.proofs.read_full.Given as goal

abbrev pub invariant-loop-size : goal.invariant-loop-size
invariant-loop-size g l =
    (length l.buffer ≡ length l.initial.buffer) × (l.size ≤ length l.buffer)
    × Consumes (g.R.Read.remaining l.initial.reader) (g.R.Read.remaining l.reader) (take l.size l.buffer)

abbrev pub decreases-loop-size : goal.decreases-loop-size
decreases-loop-size g l = length l.buffer - l.size
