-- The laws of the configuration record. Assumes nothing.
use mathlib.Core.Path.{◌≡◌, refl, sym, ap, subst, ◌∙◌}
use mathlib.Core.Bool.{Bool, true, false, cond, not}
use mathlib.Core.List.{List, [], ◌∷◌, ◌++◌, append_assoc}
use Prim.Native.Nat.{ℕ, zero, suc, ◌+◌, ◌-◌, ◌/◌, ◌<◌, ◌≤◌, ◌^◌}
use native.Mathlib.Omega.{arith}
use borrow.Author.Tests.{le-leb, eq-eqb}
use lib.Dec.{T, lit<}
use lib.ListN.{length, take, drop, get_or, replicate, length-append, length-drop}
use lib.Seq.{drop-drop, drop-cons, take_all}
use lib.Ieee.{Float, nan, binary32, fits, of_bits, to_bits}
use lib.Ieee.Bits.{of_bits-to_bits}
use Rattle.laws.specs.declared.config.PlaneGuidanceConfig.{PlaneGuidanceConfig}
use Rattle.laws.specs.Config.{default, tecs_default}
use Rattle.fields.specs.Bytes.{number_at, bytes_of, has_bytes}
use Rattle.fields.specs.Fields.{stands, named, ones, size_of, values_at, body_of, number_fields, Held}
use Rattle.fields.specs.Numbers.{floats_of, bits_of, AreF32}
use Rattle.fields.proofs.NumberLaw.{bytes_long, number_back, drop_bytes}
use Rattle.fields.proofs.MapLaw.{floats_length}
use Rattle.fields.proofs.FieldLaw.{ones_le, values_long, body_long}
use Rattle.fields.proofs.RecordLaw.{map_small, fields_back, Within, size_within, all_fit_lem, floats_back, floats_are, bits_held}
use Rattle.fields.proofs.LawsProof.{laws}
use Rattle.std.specs.Prelude.{Err}
use Rattle.records.specs.declared.config.ReadConfig.{ReadConfig}
use Rattle.refusals.specs.declared.Refusal.TheVariants as refusal
use Rattle.config_numbers.specs.Numbers.{config_of, numbers_of}
use Rattle.records.specs.Config.{config_fields, config_map, config_record, read_config}
use Rattle.record_laws.specs.Laws.{ConfigF32, config_read, ConfigLaws, ConfigLongest}
use Rattle.records.proofs.ConfigLaw.{fields_are, fields_long, bits_long, size_is, named_below}

-- ---- where a record stands

config_back : (c : PlaneGuidanceConfig) → config_of (numbers_of c) ≡ c
unfolding config_of numbers_of
config_back c = refl

numbers_length : (c : PlaneGuidanceConfig) → length (numbers_of c) ≡ 33
unfolding numbers_of
numbers_length c = refl

map_below : (c : PlaneGuidanceConfig) → config_map c < 2 ^ 33
unfolding config_map
map_below c = rw fields_long at (map_small config_fields (replicate 33 false) (bits_of (numbers_of c)))

-- the fields' bytes
abbrev Body : PlaneGuidanceConfig → List ℕ
Body c = body_of config_fields (config_map c) (bits_of (numbers_of c))

record_is : (c : PlaneGuidanceConfig) → config_record c ≡ bytes_of 5 (config_map c) ++ Body c
unfolding config_record
record_is c = refl

pub long : (c : PlaneGuidanceConfig) → length (config_record c) ≡ 5 + size_of config_fields (config_map c)
long c =
    let size : length (Body c) ≡ size_of config_fields (config_map c) = body_long config_fields (bits_of (numbers_of c)) (config_map c) (bits_long c ∙ sym fields_long) in
    rw (record_is c) (length-append (bytes_of 5 (config_map c)) (Body c) ∙ omega (arith, bytes_long 5 (config_map c), size))

values_back : (c : PlaneGuidanceConfig) (rest : List ℕ) → ConfigF32 c → values_at config_fields (config_map c) (Body c ++ rest) ≡ bits_of (numbers_of c)
unfolding config_map
values_back c rest f =
    let held : Held config_fields (bits_of (numbers_of c)) = rw fields_are (bits_held (bits_of (numbers_of default)) (numbers_of c) (numbers_length c ∙ sym (bits_long default)) f) in
    fields_back config_fields (replicate 33 false) (bits_of (numbers_of c)) rest (sym fields_long) held

pub stands_at : (s : List ℕ) (at : ℕ) (c : PlaneGuidanceConfig) (rest : List ℕ) → at ≤ length s → drop at s ≡ config_record c ++ rest → ConfigF32 c
    → read_config s at ≡ config_read c (at + length (config_record c))
unfolding read_config
stands_at s at c rest h e f =
    let m = config_map c in
    let below : m < 256 ^ 5 = omega (arith, map_below c) in
    let whole : drop at s ≡ bytes_of 5 m ++ (Body c ++ rest) = e ∙ rw (record_is c) (append_assoc (bytes_of 5 m) (Body c) rest) in
    let map_is : number_at 5 (drop at s) ≡ m = rw whole (number_back 5 m (Body c ++ rest) below) in
    let after : drop (at + 5) s ≡ Body c ++ rest = sym (drop-drop 5 at s) ∙ rw whole (drop_bytes 5 m (Body c ++ rest)) in
    let size : length s - at ≡ length (config_record c) + length rest = sym (length-drop at s) ∙ ap length e ∙ length-append (config_record c) rest in
    let room : at + length (config_record c) ≤ length s = omega arith in
    rw (
      le-leb (at + 5) (length s) (omega (arith, long c)),
      map_is,
      named_below m (map_below c),
      ← long c,
      le-leb (at + length (config_record c)) (length s) room,
      after,
      values_back c rest f,
      floats_back (numbers_of c) f,
      config_back c,
    )

-- ---- what was read

-- an answer that gives a configuration has one configuration and one place
same_read : (v w : PlaneGuidanceConfig) (a b : ℕ) → config_read v a ≡ config_read w b → (v ≡ w) × (a ≡ b)
same_read v w a b e =
    let r : ◌≡◌ {A = ReadConfig} (record { config = v; next = a }) (record { config = w; next = b }) = cc in
    (ap (λ (x : ReadConfig). x.config) r, ap (λ (x : ReadConfig). x.next) r)

-- a reader's answer that is no refusal
inverted : (a b d : Bool) (v c : PlaneGuidanceConfig) (n next : ℕ)
    → cond (not a) (Err refusal.TooFewBytes) (cond (not b) (Err refusal.UnknownMap) (cond (not d) (Err refusal.TooFewBytes) (config_read v n))) ≡ config_read c next
    → (v ≡ c) × (n ≡ next)
inverted true true true v c n next e = same_read v c n next e
inverted true true false v c n next e = absurd cc
inverted true false d v c n next e = absurd cc
inverted false b d v c n next e = absurd cc

-- the elements of a list from place k on
spread : ℕ → ℕ → List Float → List Float
spread k zero v = []
spread k (suc n) v = get_or v k nan ∷ spread (suc k) n v

spread_is : (k n : ℕ) (v : List Float) → k + n ≤ length v → spread k n v ≡ take n (drop k v)
unfolding spread
spread_is k zero v h = refl
spread_is k (suc n) v h = rw (drop-cons v k nan (omega arith)) (ap (λ (l : List Float). get_or v k nan ∷ l) (spread_is (suc k) n v (omega arith)))

numbers_spread : (v : List Float) → numbers_of (config_of v) ≡ spread 0 33 v
unfolding numbers_of config_of spread
numbers_spread v = refl

numbers_back : (v : List Float) → length v ≡ 33 → numbers_of (config_of v) ≡ v
numbers_back v h = numbers_spread v ∙ spread_is 0 33 v (omega arith) ∙ take_all 33 v (omega arith)

-- a default's bits are those of its number
default_held : AreF32 (numbers_of default)
unfolding numbers_of default tecs_default of_bits fits
default_held = all_fit_lem (numbers_of default) tt

-- what was read and is not what missing means stood
within : (xs : List Float) → AreF32 xs → (m : ℕ) (s : List ℕ)
    → Within (number_fields (bits_of xs)) (replicate (length xs) false) (bits_of (floats_of (values_at (number_fields (bits_of xs)) m s))) m
unfolding Within number_fields bits_of floats_of values_at AreF32
within [] h m s = tt
within (x ∷ xs) h m s = go (stands m) refl (λ (r : List ℕ). within xs h.1 (m / 2) r)
  where
    go : (b : Bool) → stands m ≡ b
        → ((r : List ℕ) → Within (number_fields (bits_of xs)) (replicate (length xs) false) (bits_of (floats_of (values_at (number_fields (bits_of xs)) (m / 2) r))) (m / 2))
        → Within (number_fields (bits_of (x ∷ xs))) (replicate (length (x ∷ xs)) false) (bits_of (floats_of (cond b
        (number_at 4 s ∷ values_at (number_fields (bits_of xs)) (m / 2) (drop 4 s)) (to_bits binary32 x ∷ values_at (number_fields (bits_of xs)) (m / 2) s)))) m
    go true e ih = (λ (q : stands m ≡ false). absurd (subst T (sym e ∙ q) tt), ih (drop 4 s))
    go false e ih = (λ (q : stands m ≡ false). rw (of_bits-to_bits binary32 x h.0, eq-eqb (to_bits binary32 x) (to_bits binary32 x) refl), ih s)

module _ (s : List ℕ) (at : ℕ) where
  -- the map and the values that were read
  abbrev map_number : ℕ
  map_number = number_at 5 (drop at s)

  values : List ℕ
  values = values_at config_fields map_number (drop (at + 5) s)

  read_long : length (floats_of values) ≡ 33
  unfolding values
  read_long = floats_length values ∙ values_long config_fields map_number (drop (at + 5) s) ∙ fields_long

module _ (s : List ℕ) (at : ℕ) (c : PlaneGuidanceConfig) (next : ℕ) (e : read_config s at ≡ config_read c next) where
  answered : (config_of (floats_of (values s at)) ≡ c) × (at + (5 + size_of config_fields (map_number s at)) ≡ next)
  unfolding read_config values
  answered = inverted (has_bytes s at 5) (named config_fields (map_number s at)) (has_bytes s at (5 + size_of config_fields (map_number s at))) _ c _ next e

  read_numbers : numbers_of c ≡ floats_of (values s at)
  read_numbers = ap numbers_of (sym answered.0) ∙ numbers_back (floats_of (values s at)) (read_long s at)

  held : ConfigF32 c
  held = rw read_numbers (floats_are (values s at))

  map_within : size_of config_fields (config_map c) ≤ size_of config_fields (map_number s at)
  unfolding config_map values
  map_within =
      let w = within (numbers_of default) default_held (map_number s at) (drop (at + 5) s) in
      rw read_numbers (size_within config_fields (replicate 33 false) (bits_of (floats_of (values s at))) (map_number s at) (rw (numbers_length default, ← fields_are) at w))

  no_longer : at + length (config_record c) ≤ next
  no_longer = omega (arith, long c, map_within, answered.1)

one : (v w : PlaneGuidanceConfig) (a b : ℕ) → config_read v a ≡ config_read w b → v ≡ w
one v w a b e = (same_read v w a b e).0

pub config_laws : ConfigLaws
config_laws = laws ConfigF32 config_record read_config config_read stands_at held no_longer one

-- ---- the greatest length

size-le : (m : ℕ) → size_of config_fields m ≤ 132
size-le m = rw (size_is m) (omega (arith, ones_le 33 m))

-- a record in which every field stands, each +0
longest : List ℕ
longest = 255 ∷ 255 ∷ 255 ∷ 255 ∷ 1 ∷ replicate 132 0

whole_size : size_of config_fields (2 ^ 33 - 1) ≡ 132
unfolding ones
whole_size = size_is (2 ^ 33 - 1)

-- what it gives
given : PlaneGuidanceConfig
given = config_of (floats_of (values_at config_fields (2 ^ 33 - 1) (drop 5 longest)))

longest_read : read_config longest 0 ≡ config_read given 137
unfolding longest given read_config number_at
longest_read = rw (named_below (2 ^ 33 - 1) (lit< tt), whole_size)

pub config_longest : ConfigLongest
config_longest =
    record {
      written = λ c. omega (arith, long c, size-le (config_map c));
      stepped = λ s at c next e. omega (arith, (answered s at c next e).1, size-le (map_number s at));
      reached = (longest, given, longest_read);
    }
