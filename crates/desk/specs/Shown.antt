-- What the desk program shows of the bytes that it read. Definitions only.
use Rattle.std.specs.Prelude.{◌≡◌, List, [], ◌++◌, ℕ, ◌<◌, ◌≤◌, length, take}
use Rattle.replay.specs.Sizes.{decisive}
use Rattle.replay.specs.Text.{recording_text}

-- Bytes were read until the input ended or the buffer was full; `rest` is whatever follows them. The first n bytes of the
-- output are the text of the whole input.
pub record Shown (read out : List ℕ) (n : ℕ) : Type 0 where
  pub text : (rest : List ℕ) → (length read < decisive → rest ≡ []) → take n out ≡ recording_text (read ++ rest)
  pub within : n ≤ length out
  pub part : n ≡ length (take n out)
