-- What holds in each turn of `turn`. Assumes nothing.
use mathlib.Core.Path.{◌≡◌, refl, sym, ap, subst, ◌∙◌}
use mathlib.Core.Bool.{Bool, true, false, not, ◌||◌}
use mathlib.Core.List.{List, [], ◌∷◌, ◌++◌, append_assoc}
use Prim.Native.Nat.{ℕ, zero, suc, ◌+◌, ◌-◌, ◌/◌, ◌%◌, ◌^◌, ◌<◌, ◌≤◌}
use native.Mathlib.Omega.{arith}
use native.Mathlib.Numerals.{add-one}
use borrow.Author.Tests.{eq-eqb, ne_eqb, eqb-true, eqb-false, le-ltb}
use borrow.Rule.Slice.PartMut.{put_mid}
use lib.Dec.{T, eqb}
use lib.Pow.{shr-shr}
use lib.ListN.{length, get_or, take, drop, replicate, length-append, length-drop, take-append-drop, drop_of_length-le}
use lib.Seq.{take_at, drop_at, drop-cons, drop-drop, length-take-le}
use Rattle.fields.specs.Bytes.{number_at, bytes_of}
use Rattle.fields.specs.Fields.{Field, bit, size_of, number_fields}
use Rattle.fields.proofs.FieldLaw.{rest_is, rest_back}
use Rattle.records.specs.Call.{call_fields}
use Rattle.records.proofs.CallLaw.{fields_are, fields_long}
use Rattle.editions.specs.Edition.{is_down, flip}
use Rattle.editions.specs.Code.Steps.{bytes_at, turned_field, turned}
use Rattle.editions.proofs.FlipLaw.{field_long}

-- ---- the fields of a call record by their bits

abbrev no_field : Field
no_field = record { bytes = 0; missing = 0 }

number_bytes_lem : (ds : List ℕ) (k : ℕ) → k < length ds → (get_or (number_fields ds) k no_field).bytes ≡ 4
unfolding number_fields
number_bytes_lem [] k h = absurd (omega arith)
number_bytes_lem (d ∷ ds) zero h = refl
number_bytes_lem (d ∷ ds) (suc k) h = number_bytes_lem ds k (omega arith)

bytes_are : (i : ℕ) → i < 22 → (get_or call_fields i no_field).bytes ≡ bytes_at i
bytes_are zero h = rw fields_are
bytes_are (suc zero) h = rw fields_are
bytes_are (suc (suc k)) h = rw (fields_are, le-ltb (suc (suc k)) 2 (omega arith)) (number_bytes_lem (replicate 20 0) k (omega arith))

-- a field with down positive has four bytes
pub down_four : (i : ℕ) → is_down i ≡ true → bytes_at i ≡ 4
down_four zero e = absurd (subst T (sym e) tt)
down_four (suc zero) e = absurd (subst T (sym e) tt)
down_four (suc (suc k)) e = rw (le-ltb (suc (suc k)) 2 (omega arith))

is_wide : (i : ℕ) → T (not (is_down i) || eqb (bytes_at i) 4)
is_wide i = go (is_down i) refl
  where
    go : (d : Bool) → is_down i ≡ d → T (not d || eqb (bytes_at i) 4)
    go true e = rw (eq-eqb (bytes_at i) 4 (down_four i e)) tt
    go false e = tt

-- the fields from bit i on
module _ (i : ℕ) (h : i < 22) where
  from_bit : drop i call_fields ≡ get_or call_fields i no_field ∷ drop (suc i) call_fields
  from_bit = drop-cons call_fields i no_field (rw fields_long h)

  size_stands : (m : ℕ) → m % 2 ≡ 1 → size_of (drop i call_fields) m ≡ bytes_at i + size_of (drop (i + 1) call_fields) (m / 2)
  unfolding size_of
  size_stands m b = rw (from_bit, eq-eqb (m % 2) 1 b, bytes_are i h, add-one i)

  size_skips : (m : ℕ) → (m % 2 ≡ 1 → ⊥) → size_of (drop i call_fields) m ≡ size_of (drop (i + 1) call_fields) (m / 2)
  unfolding size_of
  size_skips m b = rw (from_bit, ne_eqb (m % 2) 1 b, add-one i) (omega arith)

  turned_stands : (m : ℕ) (s : List ℕ) → m % 2 ≡ 1
      → turned (drop i call_fields) i m s ≡ turned_field i (bytes_at i) s ++ turned (drop (i + 1) call_fields) (i + 1) (m / 2) (drop (bytes_at i) s)
  unfolding turned
  turned_stands m s b = rw (from_bit, eq-eqb (m % 2) 1 b, bytes_are i h, add-one i)

  turned_skips : (m : ℕ) (s : List ℕ) → (m % 2 ≡ 1 → ⊥) → turned (drop i call_fields) i m s ≡ turned (drop (i + 1) call_fields) (i + 1) (m / 2) s
  unfolding turned
  turned_skips m s b = rw (from_bit, ne_eqb (m % 2) 1 b, add-one i)

turned_none : (i m : ℕ) (s : List ℕ) → 22 ≤ i → turned (drop i call_fields) i m s ≡ s
unfolding turned
turned_none i m s h = let e : drop i call_fields ≡ [] = drop_of_length-le call_fields {i = i} (rw fields_long h) in rw e

-- ---- `turn_field`

module _ (p : List ℕ) (at n : ℕ) (h : at + bytes_at n ≤ length p) where
  pub down_room : is_down n ≡ true → 4 ≤ length (take (length p - at) (drop at p))
  down_room d = rw (rest_is p at) (simp length-drop (omega (arith, down_four n d)))

  pub field_turned : is_down n ≡ true → (q : List ℕ) → q ≡ bytes_of 4 (flip (number_at 4 (take (length p - at) (drop at p)))) ++ drop 4 (take (length p - at) (drop at p))
      → (put_mid at (length p - at) p q ≡ take at p ++ (turned_field n (bytes_at n) (drop at p) ++ drop (at + bytes_at n) p)) × (at + 4 ≡ at + bytes_at n)
  field_turned d q e = (
    rest_back p q at (omega arith) ∙ rw (e, rest_is p at, down_four n d, d, drop-drop 4 at p),
    omega (arith, down_four n d),
  )

  pub field_kept : is_down n ≡ false → (b : ℕ) → b ≡ bytes_at n
      → (p ≡ take at p ++ (turned_field n (bytes_at n) (drop at p) ++ drop (at + bytes_at n) p)) × (at + b ≡ at + bytes_at n)
  field_kept d b e = (sym (rw (d, ← drop-drop (bytes_at n) at p, take-append-drop (bytes_at n) (drop at p)) (take-append-drop at p)), rw e)

-- ---- `turn`

half : (m i : ℕ) → m / 2 ^ i / 2 ≡ m / 2 ^ (i + 1)
half m i = shr-shr m i 1

pub record Turning (p₀ : List ℕ) (map : ℕ) (p : List ℕ) (at i : ℕ) : Type 0 where
  pub below : i ≤ 22
  pub long : length p ≡ length p₀
  pub is : take at p ++ turned (drop i call_fields) i (map / 2 ^ i) (drop at p) ≡ take 4 p₀ ++ turned call_fields 0 map (drop 4 p₀)
  pub place : at + size_of (drop i call_fields) (map / 2 ^ i) ≡ 4 + size_of call_fields map
  pub room : 4 + size_of call_fields map ≤ length p₀

pub turn_starts : (p : List ℕ) (map : ℕ) → 4 + size_of call_fields map ≤ length p → Turning p map p 4 0
turn_starts p map h = let one : map / 1 ≡ map = omega arith in record { below = omega arith; long = refl; is = rw one; place = rw one; room = h }

module _ {p₀ : List ℕ} {map : ℕ} {p : List ℕ} {at i : ℕ} (f : Turning p₀ map p at i) where
  pub turn_room : i < 22 → bit i map ≡ true → at + bytes_at i ≤ length p
  turn_room h b = omega (arith, f.place, f.room, f.long, size_stands i h (map / 2 ^ i) (eqb-true (map / 2 ^ i % 2) 1 b))

  pub turn_turn : i < 22 → bit i map ≡ true → (q : List ℕ)
      → q ≡ take at p ++ (turned_field i (bytes_at i) (drop at p) ++ drop (at + bytes_at i) p) → (next : ℕ)
      → next ≡ at + bytes_at i
      → Turning p₀ map q next (i + 1)
  turn_turn h b q e next en =
      let m = map / 2 ^ i in
      let w = bytes_at i in
      let o : m % 2 ≡ 1 = eqb-true (m % 2) 1 b in
      let room : at + w ≤ length p = turn_room h b in
      let here = turned_field i w (drop at p) in
      let after : length (drop at p) ≡ length p - at = length-drop at p in
      let front : length (take at p) ≡ at = length-take-le at p (omega arith) in
      let wide : length here ≡ w = field_long i w (drop at p) (is_wide i) (omega (arith, after)) in
      let head : length (take at p ++ here) ≡ next = length-append (take at p) here ∙ omega (arith, front, wide, en) in
      let split : q ≡ (take at p ++ here) ++ drop (at + w) p = e ∙ sym (append_assoc (take at p) here (drop (at + w) p)) in
      let first : take next q ≡ take at p ++ here = rw split (take_at (take at p ++ here) (drop (at + w) p) next head) in
      let last : drop next q ≡ drop (at + w) p = rw split (drop_at (take at p ++ here) (drop (at + w) p) next head) in
      record {
        below = omega arith;
        long = rw split (length-append (take at p ++ here) (drop (at + w) p) ∙ omega (arith, head, en, length-drop (at + w) p, f.long));
        is =
            rw (← half map i, first, last, append_assoc (take at p) here (turned (drop (i + 1) call_fields) (i + 1) (m / 2) (drop (at + w) p)), ← drop-drop w at p)
            (ap (λ (l : List ℕ). take at p ++ l) (sym (turned_stands i h m (drop at p) o)) ∙ f.is);
        place = rw (← half map i) (omega (arith, f.place, en, size_stands i h m o));
        room = f.room;
      }

  pub turn_skips : i < 22 → bit i map ≡ false → Turning p₀ map p at (i + 1)
  turn_skips h b =
      let m = map / 2 ^ i in
      let o : m % 2 ≡ 1 → ⊥ = eqb-false (m % 2) 1 b in
      record {
        below = omega arith;
        long = f.long;
        is = rw (← half map i) (ap (λ (l : List ℕ). take at p ++ l) (sym (turned_skips i h m (drop at p) o)) ∙ f.is);
        place = rw (← half map i) (omega (arith, f.place, size_skips i h m o));
        room = f.room;
      }

  pub turn_done : 22 ≤ i → p ≡ take 4 p₀ ++ turned call_fields 0 map (drop 4 p₀)
  turn_done h = sym (rw (turned_none i (map / 2 ^ i) (drop at p) h) (take-append-drop at p)) ∙ f.is
