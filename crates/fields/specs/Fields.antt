-- The fields of a record: bit n of its map says whether field n stands. Definitions only.
use Rattle.std.specs.Prelude.{Bool, cond, not, ◌||◌, List, [], ◌∷◌, ◌++◌, ℕ, zero, suc, ◌+◌, ◌*◌, ◌/◌, ◌%◌, ◌^◌, ◌<◌, eqb, ltb, length, drop}
use Rattle.fields.specs.Bytes.{number_at, bytes_of}

-- A field: how many bytes it has, and the value that a missing one means. A record's list of fields names the
-- lowest bits of its map, the first field bit 0.
pub record Field : Type 0 where
  pub bytes : ℕ
  pub missing : ℕ

-- whether the lowest bit of a map stands
abbrev pub stands : ℕ → Bool
stands m = eqb (m % 2) 1

-- whether bit n of a map stands
abbrev pub bit : ℕ → ℕ → Bool
bit n m = stands (m / 2 ^ n)

-- each bit that stands is named
abbrev pub named : List Field → ℕ → Bool
named fs m = ltb m (2 ^ length fs)

-- the byte count that a map demands
unfoldable pub size_of : List Field → ℕ → ℕ
size_of [] m = 0
size_of (f ∷ fs) m = cond (stands m) f.bytes 0 + size_of fs (m / 2)

-- Reading: "each field is read from where the one before it ended".
unfoldable pub values_at : List Field → ℕ → List ℕ → List ℕ
values_at [] m s = []
values_at (f ∷ fs) m s =
    cond (stands m)
    (number_at f.bytes s ∷ values_at fs (m / 2) (drop f.bytes s))
    (f.missing ∷ values_at fs (m / 2) s)

-- Writing: "the writer leaves out what missing would give, compared as bits". k is true for a field that is written
-- whatever its value: the kind, and a leg, an airspeed or a cap that is present.
abbrev pub is_written : Bool → ℕ → ℕ → Bool
is_written k v missing = k || not (eqb v missing)

-- a bit that stands, or does not
abbrev pub bit_of : Bool → ℕ
bit_of b = cond b 1 0

-- the map of the fields that are written
unfoldable pub map_of : List Field → List Bool → List ℕ → ℕ
map_of [] ks vs = 0
map_of (f ∷ fs) [] vs = 0
map_of (f ∷ fs) (k ∷ ks) [] = 0
map_of (f ∷ fs) (k ∷ ks) (v ∷ vs) = bit_of (is_written k v f.missing) + 2 * map_of fs ks vs

-- the bytes of the fields that stand in a map
unfoldable pub body_of : List Field → ℕ → List ℕ → List ℕ
body_of [] m vs = []
body_of (f ∷ fs) m [] = []
body_of (f ∷ fs) m (v ∷ vs) = cond (stands m) (bytes_of f.bytes v) [] ++ body_of fs (m / 2) vs

-- how many of the n lowest bits of a map stand
unfoldable pub ones : ℕ → ℕ → ℕ
ones zero m = 0
ones (suc n) m = m % 2 + ones n (m / 2)

-- the place after the numbers that stand among the n lowest bits of a map, read or written from a place on
abbrev pub place_after : ℕ → ℕ → ℕ → ℕ
place_after from n m = from + 4 * ones n m

-- fields that are numbers, of four bytes each
unfoldable pub number_fields : List ℕ → List Field
number_fields [] = []
number_fields (d ∷ ds) = record { bytes = 4; missing = d } ∷ number_fields ds

-- The same as values_at where v has numbers of another kind: `of` makes one of the bits that are read, and v's own stays where none stands.
unfoldable pub values_as : {A : Type 0} → (ℕ → A) → List A → ℕ → List ℕ → List A
values_as of [] m s = []
values_as of (x ∷ xs) m s =
    cond (stands m)
    (of (number_at 4 s) ∷ values_as of xs (m / 2) (drop 4 s))
    (x ∷ values_as of xs (m / 2) s)

-- one value for each field, and each is one that the field's bytes can spell
unfoldable pub Held : List Field → List ℕ → Type 0
Held [] [] = Unit {0}
Held [] (v ∷ vs) = ⊥
Held (f ∷ fs) [] = ⊥
Held (f ∷ fs) (v ∷ vs) = (v < 256 ^ f.bytes) × Held fs vs
