-- A conversion as a host asks for it, and its answer as numbers. Definitions only.
use Rattle.std.specs.Prelude.{cond, List, ℕ, eqb, Result, Ok, Err}
use Rattle.refusals.specs.Numbers.{number}
use Rattle.refusals.specs.declared.Refusal.{Refusal}
use Rattle.refusals.specs.declared.Refusal.TheVariants as why
use Rattle.editions.specs.declared.Edition.TheVariants.{First, Second}
use Rattle.editions.specs.declared.Converted.{Converted}
use Rattle.editions.specs.Edition.{read_as, answer, buffer}
use Rattle.host_editions.specs.declared.Conversion.{Conversion}

abbrev pub conversion_of : Result Converted Refusal → Conversion
conversion_of (Ok c) = record { refusal = 0; read = c.read; written = c.written }
conversion_of (Err why) = record { refusal = number why; read = 0; written = 0 }

-- the wanted edition is 1 or 2; another is 255, before the bytes are looked at
unfoldable pub conversion : ℕ → List ℕ → ℕ → List ℕ → ℕ → Conversion
conversion wanted s at out place =
    cond (eqb wanted 1) (conversion_of (answer First (read_as Second s at) out place))
    (cond (eqb wanted 2) (conversion_of (answer Second (read_as First s at) out place))
    (conversion_of (Err why.UnknownRequest)))

unfoldable pub buffer_after : ℕ → List ℕ → ℕ → List ℕ → ℕ → List ℕ
buffer_after wanted s at out place =
    cond (eqb wanted 1) (buffer First (read_as Second s at) out place)
    (cond (eqb wanted 2) (buffer Second (read_as First s at) out place)
    out)
