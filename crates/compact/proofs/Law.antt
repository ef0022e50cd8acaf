-- What is answered to the input that was read, and what is written of it. Assumes nothing.
use Rattle.std.proofs.Common.{◌≡◌, ℕ, ◌≤◌, Option, None, Some, IfSome, Result, Ok, Err, List, [], ◌++◌, length, take, refl, sym, ap, ◌∙◌, subst, arith, length-append}
use lib.Seq.{take-append-le}
use Rattle.std.specs.Io.KnownBytes.{Appends}
use Rattle.std.proofs.KnownBytes.{Appends-nil}
use Rattle.replay.specs.Recording.{recording}
use Rattle.replay.specs.Sizes.{decisive}
use Rattle.compaction.specs.Compaction.{bytes_after}
use Rattle.compaction.specs.declared.BadRecording.{BadRecording}
use Rattle.compaction.proofs.LawsProof.{within}
use Rattle.compact.specs.Output.{written, answer_to, output_of}

-- the front of the input, as far as it decides
abbrev pub IsFront : Option (List ℕ) → List ℕ → ℕ → Type 0
IsFront known read room = IfSome known (λ input. read ≡ take room input)

-- the short recording is a part of the buffer
pub fits : (s after rest : List ℕ) (r : Result ℕ BadRecording) (n : ℕ) → r ≡ answer_to s → after ≡ bytes_after s (recording s) → r ≡ Ok n
    → n ≤ length (after ++ rest)
fits s after rest r n e b q =
    let w : n ≤ length after = rw b (within s n (sym e ∙ q)) in
    omega (arith, length-append after rest)

-- what holds of the bytes that were read holds of the input's front
pub of_input : (P : List ℕ → Type 0) (known : Option (List ℕ)) (read : List ℕ) (room : ℕ) → IsFront known read room → room ≡ decisive → P read
    → IfSome known (λ input. P (take decisive input))
of_input P None read room front whole p = tt
of_input P (Some input) read room front whole p = subst P (front ∙ ap (λ n. take n input) whole) p

pub short_written : (w w' : Option (List ℕ)) (s after rest : List ℕ) (n : ℕ) → Ok n ≡ answer_to s → after ≡ bytes_after s (recording s)
    → Appends w w' (take n (after ++ rest)) → Appends w w' (output_of s)
short_written w w' s after rest n e b p =
    let fit : n ≤ length after = rw b (within s n (sym e)) in
    let same : take n (after ++ rest) ≡ written (Ok n) (bytes_after s (recording s)) = take-append-le n after rest fit ∙ ap (take n) b in
    subst (Appends w w') (same ∙ ap (λ r. written r (bytes_after s (recording s))) e) p

pub nothing_written : (w : Option (List ℕ)) (s : List ℕ) (r : Result ℕ BadRecording) → r ≡ answer_to s → ((n : ℕ) → r ≡ Ok n → ⊥) → Appends w w (output_of s)
nothing_written w s r e q = subst (Appends w w) (sym (none r q) ∙ ap (λ r. written r (bytes_after s (recording s))) e) (Appends-nil w)
  where
    none : (r : Result ℕ BadRecording) → ((n : ℕ) → r ≡ Ok n → ⊥) → written r (bytes_after s (recording s)) ≡ []
    none (Ok n) q = absurd (q n refl)
    none (Err b) q = refl
