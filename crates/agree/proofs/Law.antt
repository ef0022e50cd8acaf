-- What is written of the bytes that were read is the output of all that came in. Assumes nothing.
use Rattle.std.proofs.Common.{◌≡◌, ℕ, Option, None, Some, IfSome, IfOk, OnOk, Result, Ok, Err, List, take}
use Rattle.std.specs.Io.KnownBytes.{Appends}
use Rattle.replay.specs.Sizes.{decisive}
use Rattle.agreement.specs.Agreement.{agreement}
use Rattle.agree.specs.Text.{text_of, output_of}

pub of_inputs : {D E F : Type 0} (r : Result (Unit {0}) F) (theirs : Result D E) (remaining : D → Option (List ℕ)) (w w' : Option (List ℕ))
    (box display : List ℕ) (room : ℕ) → room ≡ decisive
    → IfOk theirs (λ opened. IfSome (remaining opened) (λ input. display ≡ take room input))
    → OnOk r (Appends w w' (text_of (agreement box display)))
    → OnOk r (IfOk theirs (λ opened. IfSome (remaining opened) (λ b. Appends w w' (output_of box b))))
of_inputs (Err e) theirs remaining w w' box display room h g p = tt
of_inputs (Ok u) (Err e) remaining w w' box display room h g p = tt
of_inputs (Ok u) (Ok opened) remaining w w' box display room h g p = go (remaining opened) g
  where
    go : (known : Option (List ℕ)) → IfSome known (λ input. display ≡ take room input) → IfSome known (λ b. Appends w w' (output_of box b))
    go None g = tt
    go (Some b) g = rw (g, h) at p
