-- The place after a record that was written, or its refusal. Definitions only.
use Rattle.std.specs.Prelude.{ℕ, Result, Ok, Err}
use Rattle.refusals.specs.Numbers.{number}
use Rattle.refusals.specs.declared.Refusal.{Refusal}
use Rattle.host_answers.specs.declared.place.Place.{Place}

abbrev pub place_of : Result ℕ Refusal → Place
place_of (Ok next) = record { refusal = 0; next = next }
place_of (Err why) = record { refusal = number why; next = 0 }
