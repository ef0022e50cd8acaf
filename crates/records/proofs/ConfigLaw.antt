-- Each outcome of reading a configuration record, and what is written. Assumes nothing.
use mathlib.Core.Path.{◌≡◌, refl, sym, ap, ◌∙◌}
use mathlib.Core.Bool.{true, false}
use mathlib.Core.List.{List, ◌++◌}
use Prim.Native.Nat.{ℕ, ◌+◌, ◌*◌, ◌<◌, ◌≤◌, ◌^◌}
use native.Mathlib.Omega.{arith}
use borrow.Author.Tests.{le-ltb, lt-ltb, leb-true}
use lib.ListN.{length, drop, replicate, length-append}
use Rattle.laws.specs.declared.config.PlaneGuidanceConfig.{PlaneGuidanceConfig}
use Rattle.laws.specs.Config.{default}
use Rattle.fields.specs.Bytes.{number_at, bytes_of, has_bytes}
use Rattle.fields.specs.Fields.{ones, place_after, named, size_of, values_as, map_of, body_of, number_fields}
use Rattle.fields.specs.Numbers.{floats_of, bits_of}
use Rattle.config_numbers.specs.Numbers.{config_of, numbers_of}
use Rattle.records.specs.Config.{config_fields, config_map, config_record, read_config}
use Rattle.refusals.specs.declared.Refusal.TheVariants as refusal
use Rattle.std.specs.Prelude.{Result, Ok, Err}
use Rattle.std.specs.Result.{IsErrAnd}
use Rattle.std.proofs.lemmas.Result.{err_from_is_err_and}
use Rattle.refusals.specs.declared.Refusal.{Refusal}
use Rattle.fields.proofs.NumberLaw.{bytes_long}
use Rattle.fields.proofs.FieldLaw.{ones_below, values_same, size_numbers, body_numbers, body_missing}

pub bits_long : (c : PlaneGuidanceConfig) → length (bits_of (numbers_of c)) ≡ 33
unfolding bits_of numbers_of
bits_long c = refl

pub fields_are : config_fields ≡ number_fields (bits_of (numbers_of default))
unfolding config_fields
fields_are = refl

pub fields_long : length config_fields ≡ 33
unfolding config_fields number_fields bits_of numbers_of
fields_long = refl

pub size_is : (m : ℕ) → size_of config_fields m ≡ 4 * ones 33 m
size_is m = rw fields_are (size_numbers (bits_of (numbers_of default)) m ∙ rw (bits_long default))

-- a map with no unnamed bit, counted
pub counted : (m n : ℕ) → m < 2 ^ 33 → n ≡ ones 64 m → n ≡ ones 33 m
counted m n h e = e ∙ ones_below 33 31 m h

pub named_below : (m : ℕ) → m < 2 ^ 33 → named config_fields m ≡ true
named_below m h = rw fields_long (lt-ltb m (2 ^ 33) h)

named_above : (m : ℕ) → 2 ^ 33 ≤ m → named config_fields m ≡ false
named_above m h = rw fields_long (le-ltb m (2 ^ 33) h)

-- ---- reading

-- the exit of a `?`: r is what is returned, and d the refusal
pub exit_is : {A : Type 0} (r : Result A Refusal) {d e : Refusal} → IsErrAnd r (λ y. y ≡ d) → d ≡ e → r ≡ Err e
exit_is r h ed = let w = err_from_is_err_and r h in w.1 ∙ ap Err (w.2 ∙ ed)

module _ (s : List ℕ) (at : ℕ) where
  pub cut : has_bytes s at 5 ≡ false → Err refusal.TooFewBytes ≡ read_config s at
  unfolding read_config
  cut h = rw h

  -- m is what was read as the map, in t
  module _ (h : has_bytes s at 5 ≡ true) (t : List ℕ) (et : t ≡ drop at s) (m : ℕ) (em : m ≡ number_at 5 t) where
    map_is_read : number_at 5 (drop at s) ≡ m
    map_is_read = ap (number_at 5) (sym et) ∙ sym em

    pub unnamed : 2 ^ 33 ≤ m → Err refusal.UnknownMap ≡ read_config s at
    unfolding read_config
    unnamed b = rw (h, map_is_read, named_above m b)

    -- n is what was counted
    module _ (b : m < 2 ^ 33) (n : ℕ) (en : n ≡ ones 64 m) where
      size : 5 + size_of config_fields m ≡ 5 + 4 * n
      size = rw (size_is m, counted m n b en)

      pub short : has_bytes s at (5 + 4 * n) ≡ false → Err refusal.TooFewBytes ≡ read_config s at
      unfolding read_config
      short k = rw (h, map_is_read, named_below m b, size, k)

      module _ (k : has_bytes s at (5 + 4 * n) ≡ true) (d : List ℕ) (ed : d ≡ bits_of (numbers_of default)) where
        pub room : place_after (at + 5) (length d) m ≤ length s
        room = rw (ed, bits_long default) (omega (arith, leb-true _ _ k, counted m n b en))

        pub whole : (v : List ℕ) (c : PlaneGuidanceConfig) → v ≡ values_as (λ (x : ℕ). x) d m (drop (at + 5) s) → c ≡ config_of (floats_of v)
            → Ok (record { config = c; next = at + (5 + 4 * n) }) ≡ read_config s at
        unfolding read_config
        whole v c ev ec =
            let fields : number_fields d ≡ config_fields = rw (ed, fields_are) in
            rw (h, map_is_read, named_below m b, size, k, ec, ev, values_same d m (drop (at + 5) s), fields)

-- ---- writing

pub map_is : (c : PlaneGuidanceConfig) (v : List ℕ) (r : ℕ) → v ≡ bits_of (numbers_of c) → r ≡ map_of config_fields (replicate 33 false) v → r ≡ config_map c
unfolding config_map
map_is c v r ev er = er ∙ rw ev

module _ (c : PlaneGuidanceConfig) (v : List ℕ) (m : ℕ) (ev : v ≡ bits_of (numbers_of c)) (em : m ≡ config_map c) where
  pub record_is : bytes_of 5 m ++ body_of (number_fields v) m v ≡ config_record c
  unfolding config_record
  record_is =
      let long : length (bits_of (numbers_of default)) ≡ length v = bits_long default ∙ sym (rw ev (bits_long c)) in
      rw (em, fields_are, ← ev, body_missing (bits_of (numbers_of default)) v (config_map c) long)

  pub record_long : (n : ℕ) → n ≡ ones 33 m → 5 + 4 * n ≡ length (config_record c)
  record_long n en =
      let long : length v ≡ 33 = rw ev (bits_long c) in
      let body : length (body_of (number_fields v) m v) ≡ 4 * ones 33 m = body_numbers v m ∙ rw long in
      sym (ap length (sym record_is) ∙ length-append (bytes_of 5 m) (body_of (number_fields v) m v) ∙ omega (arith, bytes_long 5 m, body))
