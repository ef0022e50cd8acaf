-- The field law: reading back what was written gives the values again, by induction over the list of fields, whatever their
-- count and their byte counts. Assumes nothing.
use mathlib.Core.Path.{◌≡◌, refl, sym, ap, subst, ◌∙◌}
use mathlib.Core.Bool.{Bool, true, false, not, cond, ◌||◌}
use mathlib.Core.List.{List, [], ◌∷◌, ◌++◌, append_assoc, map}
use Prim.Native.Nat.{ℕ, zero, suc, ◌+◌, ◌*◌, ◌/◌, ◌%◌, ◌<◌, ◌≤◌, ◌^◌}
use native.Mathlib.Omega.{arith}
use native.Mathlib.Nat.{pow-suc, mul_comm, div-div-eq-div-mul}
use borrow.Author.Tests.{eq-eqb, ne_eqb, eqb-true}
use lib.Dec.{T, eqb, lit<}
use lib.Pow.{pow_pos}
use lib.ListN.{length, drop, get_or}
use lib.Ieee.{Float, binary32, fits}
use lib.Ieee.Bits.{of_bits-to_bits, of_bits-fits, to_bits-lt}
use Rattle.std.proofs.lemmas.List.{get_or-map}
use Rattle.fields.specs.Bytes.{number_at, bytes_of}
use Rattle.fields.specs.Fields.{Field, stands, size_of, values_at, is_written, bit_of, map_of, body_of, number_fields, Held}
use Rattle.fields.specs.Numbers.{floats_of, bits_of, AreF32}
use Rattle.fields.proofs.NumberLaw.{number_back, drop_bytes}
use Rattle.fields.proofs.FieldLaw.{bit_small}

-- ---- a map of bits

half_bit : (b : Bool) (m : ℕ) → (bit_of b + 2 * m) / 2 ≡ m
half_bit true m = omega arith
half_bit false m = omega arith

low_bit : (b : Bool) (m : ℕ) → stands (bit_of b + 2 * m) ≡ b
low_bit true m = eq-eqb ((1 + 2 * m) % 2) 1 (omega arith)
low_bit false m = ne_eqb ((0 + 2 * m) % 2) 1 (λ (e : (0 + 2 * m) % 2 ≡ 1). omega arith)

-- a map of n fields is below 2 ^ n: no bit is unnamed
pub map_small : (fs : List Field) (ks : List Bool) (vs : List ℕ) → map_of fs ks vs < 2 ^ length fs
unfolding map_of
map_small [] ks vs = lit< tt
map_small (f ∷ fs) [] vs = pow_pos (length (f ∷ fs))
map_small (f ∷ fs) (k ∷ ks) [] = pow_pos (length (f ∷ fs))
map_small (f ∷ fs) (k ∷ ks) (v ∷ vs) = rw (pow-suc 2 (length fs)) (omega (arith, map_small fs ks vs, bit_small (is_written k v f.missing)))

-- the field at a place
abbrev pub field_at : List Field → ℕ → Field
field_at fs n = get_or fs n (record { bytes = 0; missing = 0 })

-- bit n of a map says whether field n is written
pub map_bit : (n : ℕ) (fs : List Field) (ks : List Bool) (vs : List ℕ) → n < length fs → length ks ≡ length fs → length vs ≡ length fs
    → map_of fs ks vs / 2 ^ n % 2 ≡ bit_of (is_written (get_or ks n false) (get_or vs n 0) (field_at fs n).missing)
unfolding map_of
map_bit n [] ks vs h lk lv = absurd (omega arith)
map_bit n (f ∷ fs) [] vs h lk lv = absurd (omega arith)
map_bit n (f ∷ fs) (k ∷ ks) [] h lk lv = absurd (omega arith)
map_bit zero (f ∷ fs) (k ∷ ks) (v ∷ vs) h lk lv = omega (arith, bit_small (is_written k v f.missing))
map_bit (suc n) (f ∷ fs) (k ∷ ks) (v ∷ vs) h lk lv =
    let m = map_of fs ks vs in
    let two : 2 ^ suc n ≡ 2 * 2 ^ n = pow-suc 2 n ∙ mul_comm (2 ^ n) 2 in
    rw (two, ← div-div-eq-div-mul (bit_of (is_written k v f.missing) + 2 * m) 2 (2 ^ n), half_bit (is_written k v f.missing) m)
    (map_bit n fs ks vs (omega arith) (omega arith) (omega arith))

-- ---- the field law

-- what is left out is what missing means
left_out : (k : Bool) (v d : ℕ) → is_written k v d ≡ false → d ≡ v
left_out k v d e = go k (eqb v d) refl e
  where
    go : (a b : Bool) → eqb v d ≡ b → (a || not b) ≡ false → d ≡ v
    go a true p q = sym (eqb-true v d p)
    go true false p q = absurd (subst T q tt)
    go false false p q = absurd (subst T q tt)

pub fields_back : (fs : List Field) (ks : List Bool) (vs rest : List ℕ) → length ks ≡ length fs → Held fs vs
    → values_at fs (map_of fs ks vs) (body_of fs (map_of fs ks vs) vs ++ rest) ≡ vs
unfolding values_at body_of map_of Held
fields_back [] ks [] rest lk h = refl
fields_back [] ks (v ∷ vs) rest lk h = absurd h
fields_back (f ∷ fs) [] vs rest lk h = absurd (omega arith)
fields_back (f ∷ fs) (k ∷ ks) [] rest lk h = absurd h
fields_back (f ∷ fs) (k ∷ ks) (v ∷ vs) rest lk h =
    let m = map_of fs ks vs in
    let w = is_written k v f.missing in
    rw (half_bit w m, low_bit w m) (go w refl (fields_back fs ks vs rest (omega arith) h.1))
  where
    go : (b : Bool) → is_written k v f.missing ≡ b → values_at fs (map_of fs ks vs) (body_of fs (map_of fs ks vs) vs ++ rest) ≡ vs
        → cond b
        (number_at f.bytes ((cond b (bytes_of f.bytes v) [] ++ body_of fs (map_of fs ks vs) vs) ++ rest)
        ∷ values_at fs (map_of fs ks vs)
        (drop f.bytes ((cond b (bytes_of f.bytes v) [] ++ body_of fs (map_of fs ks vs) vs) ++ rest)))
        (f.missing ∷ values_at fs (map_of fs ks vs) ((cond b (bytes_of f.bytes v) [] ++ body_of fs (map_of fs ks vs) vs) ++ rest))
        ≡ v ∷ vs
    go true e ih =
        let body = body_of fs (map_of fs ks vs) vs in
        rw (append_assoc (bytes_of f.bytes v) body rest, drop_bytes f.bytes v (body ++ rest), number_back f.bytes v (body ++ rest) h.0, ih)
    go false e ih = rw (left_out k v f.missing e, ih)

-- ---- a record that was read is written with no more fields than it had

-- each field that is written stands in m
unfoldable pub Within : List Field → List Bool → List ℕ → ℕ → Type 0
Within [] ks vs m = Unit {0}
Within (f ∷ fs) [] vs m = Unit {0}
Within (f ∷ fs) (k ∷ ks) [] m = Unit {0}
Within (f ∷ fs) (k ∷ ks) (v ∷ vs) m = (stands m ≡ false → is_written k v f.missing ≡ false) × Within fs ks vs (m / 2)

no_size : (fs : List Field) → size_of fs 0 ≡ 0
unfolding size_of
no_size [] = refl
no_size (f ∷ fs) = omega (arith, no_size fs)

pub size_within : (fs : List Field) (ks : List Bool) (vs : List ℕ) (m : ℕ) → Within fs ks vs m → size_of fs (map_of fs ks vs) ≤ size_of fs m
unfolding size_of map_of Within
size_within [] ks vs m h = omega arith
size_within (f ∷ fs) [] vs m h = omega (arith, no_size fs)
size_within (f ∷ fs) (k ∷ ks) [] m h = omega (arith, no_size fs)
size_within (f ∷ fs) (k ∷ ks) (v ∷ vs) m h =
    let w = is_written k v f.missing in
    let n = map_of fs ks vs in
    rw (half_bit w n, low_bit w n) (go w (stands m) h.0 (size_within fs ks vs (m / 2) h.1))
  where
    go : (a b : Bool) → (b ≡ false → a ≡ false) → size_of fs (map_of fs ks vs) ≤ size_of fs (m / 2)
        → cond a f.bytes 0 + size_of fs (map_of fs ks vs) ≤ cond b f.bytes 0 + size_of fs (m / 2)
    go true true p ih = omega arith
    go true false p ih = absurd (subst T (p refl) tt)
    go false true p ih = omega arith
    go false false p ih = omega arith

-- a number that does not stand has the value of a missing one
abbrev pub halved : ℕ → ℕ → ℕ
halved zero m = m
halved (suc n) m = halved n (m / 2)

pub value_missing : (n : ℕ) (ds : List ℕ) (m : ℕ) (s : List ℕ) → stands (halved n m) ≡ false → get_or (values_at (number_fields ds) m s) n 0 ≡ get_or ds n 0
unfolding values_at number_fields
value_missing n [] m s e = refl
value_missing zero (d ∷ ds) m s e = rw e
value_missing (suc n) (d ∷ ds) m s e = go (stands m) (λ (r : List ℕ). value_missing n ds (m / 2) r e)
  where
    go : (b : Bool) → ((r : List ℕ) → get_or (values_at (number_fields ds) (m / 2) r) n 0 ≡ get_or ds n 0)
        → get_or (cond b (number_at 4 s ∷ values_at (number_fields ds) (m / 2) (drop 4 s)) (d ∷ values_at (number_fields ds) (m / 2) s)) (suc n) 0 ≡ get_or ds n 0
    go true ih = ih (drop 4 s)
    go false ih = ih s

-- ---- f32s and their bits

pub floats_back : (xs : List Float) → AreF32 xs → floats_of (bits_of xs) ≡ xs
unfolding floats_of bits_of AreF32
floats_back [] h = refl
floats_back (x ∷ xs) h = rw (of_bits-to_bits binary32 x h.0) (ap (λ (l : List Float). x ∷ l) (floats_back xs h.1))

-- the same as one test that is computed
abbrev pub all_fit : List Float → Bool
all_fit [] = true
all_fit (x ∷ xs) = cond (fits binary32 x) (all_fit xs) false

pub all_fit_lem : (xs : List Float) → T (all_fit xs) → AreF32 xs
unfolding AreF32
all_fit_lem [] h = tt
all_fit_lem (x ∷ xs) h = go (fits binary32 x) refl h (λ (k : T (all_fit xs)). all_fit_lem xs k)
  where
    go : (b : Bool) → fits binary32 x ≡ b → T (cond b (all_fit xs) false) → (T (all_fit xs) → AreF32 xs) → T (fits binary32 x) × AreF32 xs
    go true e k r = (subst T (sym e) tt, r k)
    go false e k r = absurd k

-- what is read is what an f32 holds
pub floats_are : (ns : List ℕ) → AreF32 (floats_of ns)
unfolding floats_of AreF32
floats_are [] = tt
floats_are (n ∷ ns) = (of_bits-fits binary32 n, floats_are ns)

-- bits of f32s are held by fields of four bytes
pub bits_held : (ds : List ℕ) (xs : List Float) → length xs ≡ length ds → AreF32 xs → Held (number_fields ds) (bits_of xs)
unfolding Held number_fields bits_of AreF32
bits_held [] [] l h = tt
bits_held [] (x ∷ xs) l h = absurd (omega arith)
bits_held (d ∷ ds) [] l h = absurd (omega arith)
bits_held (d ∷ ds) (x ∷ xs) l h = (to_bits-lt binary32 x h.0, bits_held ds xs (omega arith) h.1)

-- an element of a mapped list
pub get_d_mapped : {A B : Type 0} (f : A → B) (xs : List A) (n : ℕ) (d : A) (e : B) → n < length xs → get_or (map f xs) n e ≡ f (get_or xs n d)
get_d_mapped f xs n d e h = get_or-map f xs n d e h
