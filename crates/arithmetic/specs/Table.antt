-- A table of cases that the check computes: a case more is a line more. Definitions only.
use Rattle.std.specs.Prelude.{ℕ, Bool, true, ◌&&◌, List, [], ◌∷◌, eqb, Float}
use Rattle.std.specs.Float.{binary32}
use Rattle.std.specs.Float.Ieee.{to_bits}

-- what a definition gives, and what a document says that it is
pub record Case : Type 0 where
  pub given : ℕ
  pub expected : ℕ

infix 4 ◌is◌
abbrev pub ◌is◌ : ℕ → ℕ → Case
a is b = record { given = a; expected = b }

-- numbers are compared as bits
abbrev pub bits : Float → ℕ
bits x = to_bits binary32 x

-- every case of the table gives what is expected
unfoldable pub all_hold : List Case → Bool
all_hold [] = true
all_hold (c ∷ cs) = eqb c.given c.expected && all_hold cs
