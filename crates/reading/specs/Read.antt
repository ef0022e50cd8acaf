-- What was read. Definitions only.
use Rattle.std.specs.Prelude.{ℕ, Result, Ok, Err}
use Rattle.reading.specs.declared.ReadFailed.{ReadFailed}

-- how many bytes, also where a read failed after them
abbrev pub size_read : Result ℕ ReadFailed → ℕ
size_read (Ok n) = n
size_read (Err e) = e.size
