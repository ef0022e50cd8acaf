-- Numbers in bytes: "numbers and every map are low byte first". Definitions only.
use Rattle.std.specs.Prelude.{Bool, List, [], ◌∷◌, ◌++◌, ℕ, zero, suc, ◌+◌, ◌*◌, ◌/◌, ◌%◌, leb, length, get_or, take, drop}

-- the number that the first n bytes of s spell, low byte first
unfoldable pub number_at : ℕ → List ℕ → ℕ
number_at zero s = 0
number_at (suc n) s = get_or s 0 0 + 256 * number_at n (drop 1 s)

-- the n bytes of a number, low byte first
unfoldable pub bytes_of : ℕ → ℕ → List ℕ
bytes_of zero v = []
bytes_of (suc n) v = v % 256 ∷ bytes_of n (v / 256)

-- s has n bytes from a place on; no place past the end has any
abbrev pub has_bytes : List ℕ → ℕ → ℕ → Bool
has_bytes s at n = leb (at + n) (length s)

-- a buffer into which bytes are put from a place on; its other bytes are kept
abbrev pub put_at : List ℕ → ℕ → List ℕ → List ℕ
put_at out at bs = take at out ++ (bs ++ drop (at + length bs) out)
