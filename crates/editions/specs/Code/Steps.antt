-- A record's bytes turned in place from one edition to the other: the code's own way, for the contracts of its parts.
-- Definitions only.
use Rattle.std.specs.Prelude.{cond, List, [], ◌∷◌, ◌++◌, ℕ, suc, ◌+◌, ◌/◌, ltb, take, drop}
use Rattle.fields.specs.Bytes.{number_at, bytes_of}
use Rattle.fields.specs.Fields.{Field, stands}
use Rattle.records.specs.Call.{call_fields}
use Rattle.editions.specs.Edition.{is_down, flip, mark}

-- the byte count of the field of bit n of a call record: two bytes, then numbers
abbrev pub bytes_at : ℕ → ℕ
bytes_at n = cond (ltb n 2) 1 4

-- the bytes of the field of bit n, which has b of them
abbrev pub turned_field : ℕ → ℕ → List ℕ → List ℕ
turned_field n b s = cond (is_down n) (bytes_of 4 (flip (number_at 4 s))) (take b s)

-- the bytes of fields, the first of them bit n, with those turned that have down positive
unfoldable pub turned : List Field → ℕ → ℕ → List ℕ → List ℕ
turned [] n m s = s
turned (f ∷ fs) n m s =
    cond (stands m)
    (turned_field n f.bytes s ++ turned fs (suc n) (m / 2) (drop f.bytes s))
    (turned fs (suc n) (m / 2) s)

-- the bytes that begin with a record of the first edition, which becomes one of the second
abbrev pub turned_record : List ℕ → List ℕ
turned_record s = bytes_of 4 (mark + number_at 4 s) ++ turned call_fields 0 (number_at 4 s) (drop 4 s)
