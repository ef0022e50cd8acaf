-- Each outcome of reading a call record, and what is written. Assumes nothing.
use mathlib.Core.Path.{◌≡◌, refl, sym, ap, subst, ◌∙◌}
use mathlib.Core.Bool.{Bool, true, false, cond, beq, ◌&&◌, ◌||◌}
use mathlib.Core.List.{List, [], ◌∷◌, ◌++◌, append_assoc}
use Prim.Native.Nat.{ℕ, zero, suc, ◌+◌, ◌-◌, ◌*◌, ◌/◌, ◌%◌, ◌<◌, ◌≤◌, ◌^◌}
use native.Mathlib.Omega.{arith}
use native.Mathlib.Nat.{mod-lt}
use borrow.Author.Tests.{le-ltb, lt-ltb, leb-true, eq-eqb, ne_eqb, eqb-true, eqb-false}
use lib.Dec.{T, eqb, ltb, lit<}
use lib.ListN.{length, get_or, set, drop, take, replicate, length-append, length-drop, length-replicate, take-append-drop}
use lib.Seq.{drop-drop, get_or-drop, length-take-le}
use lib.Ieee.{Float, binary32, to_bits, of_bits}
use Rattle.laws.specs.Types.{regime_from}
use Rattle.laws.specs.declared.types.FlightRegime.{FlightRegime}
use Rattle.fields.specs.Bytes.{number_at, bytes_of, has_bytes, put_at}
use Rattle.fields.specs.Fields.{Field, ones, place_after, stands, bit, named, size_of, values_at, values_as, map_of, body_of, number_fields}
use Rattle.fields.specs.Numbers.{floats_of, bits_of}
use Rattle.fields.proofs.NumberLaw.{bytes_long}
use Rattle.fields.proofs.MapLaw.{bits_length, bits_joined, bits_drop}
use Rattle.fields.proofs.FloatLaw.{none, floats_none, floats_made}
use Rattle.fields.proofs.FieldLaw.{ones_low, ones_below, values_front, body_front, map_front, size_numbers, put_none, put_next, body_long, body_missing}
use Rattle.fields.proofs.RecordLaw.{map_small}
use Rattle.records.specs.declared.call.Kind.{Kind}
use Rattle.records.specs.declared.call.Kind.TheVariants as kind
use Rattle.records.specs.declared.call.Head.{Head}
use Rattle.records.specs.declared.call.Call.{Call}
use Rattle.records.specs.declared.call.Call.TheVariants.{Prime, Attitude, Rate, Waypoint, AbsoluteAttitude, Land, AbsoluteRate}
use Rattle.records.specs.declared.call_writer.Parts.{Parts}
use Rattle.records.specs.declared.call_writer.Record.{Record}
use Rattle.refusals.specs.declared.Refusal.{Refusal}
use Rattle.refusals.specs.declared.Refusal.TheVariants as refusal
use Rattle.records.specs.declared.call.ReadCall.{ReadCall}
use Rattle.std.specs.Int.{from_bool}
use Rattle.std.specs.Prelude.{Ok, Err, Result, MatchResult}
use Rattle.std.specs.Result.{IsErrAnd, is_err}
use native.Mathlib.Numerals.{add-one}
use Rattle.std.proofs.lemmas.List.{take-replicate, set_split}
use Rattle.records.specs.Call as spec
use Rattle.records.specs.Call.{
  call_fields,
  kinds,
  kind_of,
  number_of,
  complete,
  unknown,
  regime_of,
  call_at,
  read_call,
  regime_byte,
  command_parts,
  waypoint_parts,
  parts_of,
  values_of,
  map_of_parts,
  call_record,
}
use Rattle.records.proofs.ConfigLaw.{exit_is}
use Rattle.records.specs.Code.Steps.{regime_read, regime_at, floats_at, call_from, map_with, record_of, bytes_of_record, byte_of}

pub fields_long : length call_fields ≡ 22
unfolding call_fields number_fields
fields_long = refl

-- the numbers' fields
abbrev pub Numbers : List Field
Numbers = number_fields (replicate 20 0)

pub fields_are : call_fields ≡ record { bytes = 1; missing = 0 } ∷ record { bytes = 1; missing = 1 } ∷ Numbers
unfolding call_fields
fields_are = refl

-- a bit as a number
bit_is : (m : ℕ) → cond (stands m) 1 0 ≡ m % 2
bit_is m = go (stands m) refl
  where
    go : (b : Bool) → stands m ≡ b → cond b 1 0 ≡ m % 2
    go true e = sym (eqb-true (m % 2) 1 e)
    go false e = let n : m % 2 ≡ 1 → ⊥ = eqb-false (m % 2) 1 e in let l : m % 2 < 2 = mod-lt m (lit< tt) in omega arith

pub bit_number : (n m : ℕ) {b : Bool} {x : ℕ} → b ≡ bit n m → x ≡ from_bool b → x ≡ m / 2 ^ n % 2
bit_number n m eb ex = ex ∙ ap from_bool eb ∙ number (bit n m) ∙ bit_is (m / 2 ^ n)
  where
    number : (b : Bool) → from_bool b ≡ cond b 1 0
    number true = refl
    number false = refl

pub size_is : (m : ℕ) → size_of call_fields m ≡ m % 2 + m / 2 % 2 + 4 * ones 20 (m / 4)
unfolding size_of
size_is m =
    let quarter : m / 2 / 2 ≡ m / 4 = omega arith in
    rw (fields_are, bit_is m, bit_is (m / 2), size_numbers (replicate 20 0) (m / 2 / 2), quarter) (omega arith)

-- the bits from the third on, counted
pub counted : (m n : ℕ) → n ≡ ones 64 (m / 4 % 2 ^ 20) → n ≡ ones 20 (m / 4)
counted m n e = e ∙ ones_low 20 44 (m / 4)

-- ---- a map in which no number after the first n stands

module _ (n : ℕ) (all : n ≤ 20) (m : ℕ) (h : m < 2 ^ n) where
  pub front_ones : ones 20 m ≡ ones n m
  front_ones =
      let e : n + (20 - n) ≡ 20 = omega arith in
      ap (λ (k : ℕ). ones k m) (sym e) ∙ ones_below n (20 - n) m h

  -- the first n are read over +0
  first_long : length (take n (none 20)) ≡ n
  first_long = rw (take-replicate n 20 spec.zero all) (length-replicate n spec.zero)

  pub front_room : (from l : ℕ) → place_after from 20 m ≤ l → place_after from (length (take n (none 20))) m ≤ l
  front_room from l r = rw first_long (omega (arith, r, front_ones))

  pub front_floats : (s : List ℕ) (v : List Float) → v ≡ values_as (of_bits binary32) (take n (none 20)) m s → v ++ drop n (none 20) ≡ floats_of (values_at Numbers m s)
  front_floats s v e =
      let r = values_as (of_bits binary32) in
      rw e (sym (values_front (of_bits binary32) (take n (none 20)) (drop n (none 20)) m s (rw first_long h)))
      ∙ ap (λ (l : List Float). r l m s) (take-append-drop n (none 20) ∙ sym (floats_none 20)) ∙ floats_made (replicate 20 0) m s

  pub front_body : (v : List ℕ) → length (take n v) ≡ n → body_of (number_fields (take n v)) m (take n v) ≡ body_of (number_fields v) m v
  front_body v l = sym (ap (λ (x : List ℕ). body_of (number_fields x) m x) (sym (take-append-drop n v)) ∙ body_front (take n v) (drop n v) m (rw l h))

-- ---- kinds and regimes

-- the kind of a number, or none above 6
kind_cases : (n : ℕ) → MatchResult (kind_of n) (λ k. (n ≤ 6) × (number_of k ≡ n)) (λ d. (6 < n) × (d ≡ refusal.UnknownKind))
kind_cases zero = (omega arith, refl)
kind_cases (suc zero) = (omega arith, refl)
kind_cases (suc (suc zero)) = (omega arith, refl)
kind_cases (suc (suc (suc zero))) = (omega arith, refl)
kind_cases (suc (suc (suc (suc zero)))) = (omega arith, refl)
kind_cases (suc (suc (suc (suc (suc zero))))) = (omega arith, refl)
kind_cases (suc (suc (suc (suc (suc (suc zero)))))) = (omega arith, refl)
kind_cases (suc (suc (suc (suc (suc (suc (suc n))))))) = (omega arith, refl)

-- the regime of a number, or none above 1
regime_cases : (n : ℕ) → MatchResult (regime_read n) (λ r. (n ≤ 1) × (regime_of n ≡ r)) (λ d. (1 < n) × (d ≡ refusal.UnknownKind))
unfolding regime_of
regime_cases zero = (omega arith, refl)
regime_cases (suc zero) = (omega arith, refl)
regime_cases (suc (suc n)) =
    let none : eqb (suc (suc n)) 0 ≡ false = ne_eqb (suc (suc n)) 0 (λ e. omega arith) in
    let one : eqb (suc (suc n)) 1 ≡ false = ne_eqb (suc (suc n)) 1 (λ e. omega arith) in
    rw (none, one) (omega arith, refl)

-- a number above 6 is no kind's, and one above 1 no regime's
pub kind_unknown : (n : ℕ) → is_err (kind_of n) ≡ ltb 6 n
kind_unknown n = go (kind_of n) (kind_cases n)
  where
    go : (a : Result Kind Refusal) → MatchResult a (λ k. (n ≤ 6) × (number_of k ≡ n)) (λ d. (6 < n) × (d ≡ refusal.UnknownKind)) → is_err a ≡ ltb 6 n
    go (Ok k) i = sym (le-ltb 6 n i.0)
    go (Err d) i = sym (lt-ltb 6 n i.0)

pub regime_unknown : (n : ℕ) → is_err (regime_from n) ≡ ltb 1 n
regime_unknown zero = refl
regime_unknown (suc zero) = refl
regime_unknown (suc (suc n)) =
    let none : eqb (suc (suc n)) 0 ≡ false = ne_eqb (suc (suc n)) 0 (λ e. omega arith) in
    let one : eqb (suc (suc n)) 1 ≡ false = ne_eqb (suc (suc n)) 1 (λ e. omega arith) in
    rw (none, one, lt-ltb 1 (suc (suc n)) (omega arith))

-- what is read by the names of a kind and a regime
abbrev pub by_names : Result Kind Refusal → Result FlightRegime Refusal → (Kind → FlightRegime → ReadCall) → Result ReadCall Refusal
by_names (Ok k) (Ok g) f = Ok (f k g)
by_names (Ok k) (Err d) f = Err d
by_names (Err d) g f = Err d

names_are : (k g : ℕ) (f : ℕ → FlightRegime → ReadCall)
    → cond (unknown k g) (Err refusal.UnknownKind) (Ok (f k (regime_of g))) ≡ by_names (kind_of k) (regime_read g) (λ kind. f (number_of kind))
unfolding unknown
names_are k g f = go (kind_of k) (kind_cases k) (regime_read g) (regime_cases g)
  where
    go : (a : Result Kind Refusal) → MatchResult a (λ kind. (k ≤ 6) × (number_of kind ≡ k)) (λ d. (6 < k) × (d ≡ refusal.UnknownKind))
        → (b : Result FlightRegime Refusal) → MatchResult b (λ r. (g ≤ 1) × (regime_of g ≡ r)) (λ d. (1 < g) × (d ≡ refusal.UnknownKind))
        → cond (ltb 6 k || ltb 1 g) (Err refusal.UnknownKind) (Ok (f k (regime_of g))) ≡ by_names a b (λ kind. f (number_of kind))
    go (Err d) n b w = rw (lt-ltb 6 k n.0, n.1)
    go (Ok kind) i (Err d) n = rw (le-ltb 6 k i.0, lt-ltb 1 g n.0, n.1)
    go (Ok kind) i (Ok r) j = rw (le-ltb 6 k i.0, le-ltb 1 g j.0, i.1, j.1)

-- ---- the values of a record whose kind stands

byte_is : (s : List ℕ) (k : ℕ) → number_at 1 (drop k s) ≡ get_or s k 0
unfolding number_at
byte_is s k =
    let i : k + 0 ≡ k = omega arith in
    let e : get_or (drop k s) 0 0 ≡ get_or s k 0 = get_or-drop k s 0 0 ∙ ap (λ (j : ℕ). get_or s j 0) i in
    omega (arith, e)

-- t has the record's bytes
module _ (t : List ℕ) (m : ℕ) (k : stands m ≡ true) where
  pub values_are : values_at call_fields m (drop 4 t) ≡ get_or t 4 0 ∷ regime_at t m ∷ values_at Numbers (m / 4) (drop (5 + m / 2 % 2) t)
  unfolding values_at
  values_are = rw (fields_are, k, byte_is t 4) (ap (λ (l : List ℕ). get_or t 4 0 ∷ l) (go (bit 1 m) refl))
    where
      quarter : m / 2 / 2 ≡ m / 4
      quarter = omega arith

      five : drop 1 (drop 4 t) ≡ drop 5 t
      five = drop-drop 1 4 t

      go : (b : Bool) → bit 1 m ≡ b
          → cond b (number_at 1 (drop 1 (drop 4 t)) ∷ values_at Numbers (m / 2 / 2) (drop 1 (drop 1 (drop 4 t)))) (1 ∷ values_at Numbers (m / 2 / 2) (drop 1 (drop 4 t)))
          ≡ cond b (get_or t 5 0) 1 ∷ values_at Numbers (m / 4) (drop (5 + m / 2 % 2) t)
      go true e = let l : m / 2 % 2 ≡ 1 = eqb-true (m / 2 % 2) 1 e in rw (quarter, l, five, byte_is t 5, drop-drop 1 5 t)
      go false e = let n : m / 2 % 2 ≡ 1 → ⊥ = eqb-false (m / 2 % 2) 1 e in let b : m / 2 % 2 < 2 = mod-lt (m / 2) (lit< tt) in let l : m / 2 % 2 ≡ 0 = omega arith in rw (quarter, l, five)

-- ---- reading

-- two bits are alike when their truth values are
alike : (m n : ℕ) → beq (stands m) (stands n) ≡ eqb (m % 2) (n % 2)
alike m n = by_bits (m % 2) (n % 2) (mod-lt m (lit< tt)) (mod-lt n (lit< tt))
  where
    by_bits : (a b : ℕ) → a < 2 → b < 2 → beq (eqb a 1) (eqb b 1) ≡ eqb a b
    by_bits zero zero h k = refl
    by_bits zero (suc zero) h k = refl
    by_bits (suc zero) zero h k = refl
    by_bits (suc zero) (suc zero) h k = refl
    by_bits (suc (suc a)) b h k = absurd (omega arith)
    by_bits a (suc (suc b)) h k = absurd (omega arith)

-- what `is_complete` computes
pub complete_is : (m : ℕ) → (ltb m (2 ^ 22) && bit 0 m) && beq (bit 9 m) (bit 10 m) ≡ complete m
unfolding complete
complete_is m =
    let one : m / 1 ≡ m = omega arith in
    rw (fields_long, one, alike (m / 2 ^ 9) (m / 2 ^ 10))

both : (a b c : Bool) → (a && b && c) ≡ true → (b ≡ true) × (c ≡ true)
both true true true e = (refl, refl)
both true true false e = absurd (subst T (sym e) tt)
both true false c e = absurd (subst T (sym e) tt)
both false b c e = absurd (subst T (sym e) tt)

-- a complete map has the kind, and both parts of a leg or neither
pub complete_gives : (m : ℕ) → complete m ≡ true → (stands m ≡ true) × (m / 2 ^ 9 % 2 ≡ m / 2 ^ 10 % 2)
unfolding complete
complete_gives m e = let r = both (named call_fields m) (stands m) (eqb (m / 2 ^ 9 % 2) (m / 2 ^ 10 % 2)) e in (r.0, eqb-true _ _ r.1)

-- r has a record's bytes, at a place in s; m is its map, and n its fields' byte count
pub record IsFound (s : List ℕ) (at m n : ℕ) (r : List ℕ) : Type 0 where
  pub room : at + (5 + m / 2 % 2 + 4 * ones 20 (m / 4)) ≤ length s
  pub room_in_record : 5 + m / 2 % 2 + 4 * ones 20 (m / 4) ≤ length r
  pub answer : read_call s at
      ≡ by_names (kind_of (get_or r 4 0)) (regime_read (regime_at r m))
      (λ kind regime. call_from s (record { map = m; kind = kind; regime = regime; numbers = at + (5 + m / 2 % 2); next = at + (4 + n) }))

-- the exit of a `?`: r is what is returned, d the refusal and x what the reader answers
pub refused : (r : Result Head Refusal) (P : Head → Type 0) {x : Result ReadCall Refusal} {d e : Refusal}
    → x ≡ Err e → d ≡ e → IsErrAnd r (λ y. y ≡ d) → MatchResult r P (λ y. x ≡ Err y)
refused r P ex ed h = rw (exit_is r h ed) ex

pub cut : (s : List ℕ) (at : ℕ) → has_bytes s at 4 ≡ false → read_call s at ≡ Err refusal.TooFewBytes
unfolding read_call
cut s at h = rw h

-- m is what was read as the map, in t, and b whether it is complete
module _ (s : List ℕ) (at : ℕ) (h : has_bytes s at 4 ≡ true) (t : List ℕ) (et : t ≡ drop at s) (m : ℕ) (em : m ≡ number_at 4 t) (b : Bool) (eb : b ≡ complete m) where
  map_is_read : number_at 4 (drop at s) ≡ m
  map_is_read = ap (number_at 4) (sym et) ∙ sym em

  pub incomplete : b ≡ false → read_call s at ≡ Err refusal.UnknownMap
  unfolding read_call
  incomplete q = rw (h, map_is_read, ← eb, q)

  -- n is the fields' byte count
  module _ (q : b ≡ true) (n : ℕ) (en : n ≡ size_of call_fields m) where
    given : (stands m ≡ true) × (m / 2 ^ 9 % 2 ≡ m / 2 ^ 10 % 2)
    given = complete_gives m (sym eb ∙ q)

    pub short : has_bytes s at (4 + n) ≡ false → read_call s at ≡ Err refusal.TooFewBytes
    unfolding read_call
    short l = rw (h, map_is_read, ← eb, q, ← en, l)

    -- r has the record's bytes
    module _ (l : has_bytes s at (4 + n) ≡ true) (r : List ℕ) (er : r ≡ drop at s) where
      room : at + (5 + m / 2 % 2 + 4 * ones 20 (m / 4)) ≤ length s
      room = omega (arith, leb-true _ _ l, en, size_is m, eqb-true (m % 2) 1 given.0)

      by_bytes : read_call s at
          ≡ cond (unknown (get_or r 4 0) (regime_at r m)) (Err refusal.UnknownKind)
          (Ok (record { call = call_at (get_or r 4 0) (regime_of (regime_at r m)) m (floats_at s (at + (5 + m / 2 % 2)) (m / 4)); next = at + (4 + n) }))
      unfolding read_call
      by_bytes = rw (h, map_is_read, ← eb, q, ← en, l, ← drop-drop 4 at s, values_are (drop at s) m given.0, drop-drop (5 + m / 2 % 2) at s, er)

      pub found : IsFound s at m n r
      found = record {
        room = room;
        room_in_record = rw (er, length-drop at s) (omega (arith, room));
        answer =
            by_bytes
            ∙ names_are (get_or r 4 0) (regime_at r m)
            (λ k g. record { call = call_at k g m (floats_at s (at + (5 + m / 2 % 2)) (m / 4)); next = at + (4 + n) });
      }

-- ---- writing

-- both lists of a call's parts
pub parts_long : (c : Call) → (length (parts_of c).numbers ≡ 20) × (length (parts_of c).keeps ≡ 20)
unfolding parts_of command_parts waypoint_parts
parts_long Prime = (refl, refl)
parts_long (Attitude r dt c) = (refl, refl)
parts_long (Rate r dt c) = (refl, refl)
parts_long (Waypoint r dt c s cap) = (refl, refl)
parts_long (AbsoluteAttitude r dt c) = (refl, refl)
parts_long (Land r dt) = (refl, refl)
parts_long (AbsoluteRate r dt c) = (refl, refl)

-- a call of another kind than a waypoint has five numbers, and keeps none
command_is : (c : Call) → ((parts_of c).kind ≡ kind.Waypoint → ⊥)
    → (drop 5 (parts_of c).numbers ≡ replicate 15 spec.zero) × ((parts_of c).keeps ≡ replicate 20 false)
unfolding parts_of command_parts waypoint_parts
command_is Prime h = (refl, refl)
command_is (Attitude r dt c) h = (refl, refl)
command_is (Rate r dt c) h = (refl, refl)
command_is (Waypoint r dt c s cap) h = absurd (h refl)
command_is (AbsoluteAttitude r dt c) h = (refl, refl)
command_is (Land r dt) h = (refl, refl)
command_is (AbsoluteRate r dt c) h = (refl, refl)

pub is_command : (c : Call) (p : Parts) → p ≡ parts_of c → (p.kind ≡ kind.Waypoint → ⊥) → (drop 5 p.numbers ≡ replicate 15 spec.zero) × (p.keeps ≡ replicate 20 false)
is_command c p e h = rw e (command_is c (rw e at h))

-- a list whose elements from the sixth on are fifteen
pub front_long : {A : Type 0} (v : List A) (z : A) → drop 5 v ≡ replicate 15 z → length (take 5 v) ≡ 5
front_long v z e =
    let l : length v - 5 ≡ 15 = sym (length-drop 5 v) ∙ ap length e in
    length-take-le 5 v (omega arith)

bits_zero : bits_of (replicate 15 spec.zero) ≡ replicate 15 0
unfolding bits_of to_bits of_bits
bits_zero = refl

pub front_bits : (v : List Float) (b : List ℕ) → drop 5 v ≡ replicate 15 spec.zero → b ≡ bits_of (take 5 v) → b ++ replicate 15 0 ≡ bits_of v
front_bits v b e eb = sym (ap bits_of (sym (take-append-drop 5 v)) ∙ bits_joined (take 5 v) (drop 5 v) ∙ rw (e, bits_zero, eb))

pub bits_after : (v : List Float) (b : List ℕ) → drop 5 v ≡ replicate 15 spec.zero → b ≡ bits_of v → drop 5 b ≡ replicate 15 0
bits_after v b e eb = rw (eb, bits_drop 5 v, e, bits_zero)

map_zero : map_of (number_fields (replicate 15 0)) (replicate 15 false) (replicate 15 0) ≡ 0
unfolding map_of number_fields
map_zero = refl

pub front_map : (v : List ℕ) → drop 5 v ≡ replicate 15 0
    → map_of (number_fields (replicate 5 0)) (replicate (length (take 5 v)) false) (take 5 v) ≡ map_of Numbers (replicate 20 false) v
front_map v e =
    let l : length (take 5 v) ≡ 5 = front_long v 0 e in
    rw l
    (sym
    (ap (map_of Numbers (replicate 20 false)) (sym (take-append-drop 5 v))
    ∙ map_front (replicate 5 0) (replicate 15 0) (replicate 5 false) (replicate 15 false) (take 5 v) (drop 5 v) refl l (rw e map_zero)))

-- ---- the record of a call

-- the flags, the values and the map of a call's fields
abbrev pub Flags : Call → List Bool
Flags c = true ∷ false ∷ (parts_of c).keeps

abbrev pub Values : Call → List ℕ
Values c = values_of (parts_of c)

abbrev pub Map : Call → ℕ
Map c = map_of_parts (parts_of c)

pub flags_long : (c : Call) → length (Flags c) ≡ length call_fields
flags_long c = rw ((parts_long c).1, fields_long)

pub call_values_long : (c : Call) → length (Values c) ≡ length call_fields
unfolding values_of
call_values_long c = rw (bits_length (parts_of c).numbers, (parts_long c).0, fields_long)

pub map_by_fields : (c : Call) → Map c ≡ map_of call_fields (Flags c) (Values c)
unfolding map_of_parts
map_by_fields c = refl

pub map_below : (c : Call) → Map c < 2 ^ 22
map_below c = rw (map_by_fields c) (rw fields_long at (map_small call_fields (Flags c) (Values c)))

pub call_is : (c : Call) → call_record c ≡ bytes_of 4 (Map c) ++ body_of call_fields (Map c) (Values c)
unfolding call_record
call_is c = refl

pub call_long : (c : Call) → length (call_record c) ≡ 4 + size_of call_fields (Map c)
call_long c =
    rw (call_is c)
    (length-append (bytes_of 4 (Map c)) (body_of call_fields (Map c) (Values c))
    ∙ omega (arith, bytes_long 4 (Map c), body_long call_fields (Values c) (Map c) (call_values_long c)))

-- ---- the bytes that the writer writes

-- no byte that is written, or one
byte_long : (m v : ℕ) → length (byte_of m v) ≡ m % 2
unfolding byte_of bytes_of
byte_long m v = go (stands m) refl
  where
    go : (b : Bool) → stands m ≡ b → length (cond b (v % 256 ∷ []) []) ≡ m % 2
    go true e = sym (eqb-true (m % 2) 1 e)
    go false e = let n : m % 2 ≡ 1 → ⊥ = eqb-false (m % 2) 1 e in let l : m % 2 < 2 = mod-lt m (lit< tt) in omega arith

pub byte_written : (out : List ℕ) (at m v : ℕ) → at < length out → v < 256 → (m % 2 ≡ 0 → ⊥) → set out at v ≡ put_at out at (byte_of m v)
unfolding byte_of bytes_of
byte_written out at m v h k e =
    let l : m % 2 < 2 = mod-lt m (lit< tt) in
    let one : m % 2 ≡ 1 = omega arith in
    let low : v % 256 ≡ v = omega arith in
    rw (eq-eqb (m % 2) 1 one, low, set_split out at v h, add-one at)

pub byte_left : (out : List ℕ) (at m v : ℕ) → m % 2 ≡ 0 → out ≡ put_at out at (byte_of m v)
unfolding byte_of
byte_left out at m v e = let n : m % 2 ≡ 1 → ⊥ = λ o. omega arith in rw (ne_eqb (m % 2) 1 n) (put_none out at)

body_is : (m k g : ℕ) (v : List ℕ) → length v ≡ 20 → body_of call_fields m (k ∷ g ∷ v) ≡ byte_of m k ++ (byte_of (m / 2) g ++ body_of (number_fields v) (m / 4) v)
unfolding body_of byte_of
body_is m k g v l =
    let quarter : m / 2 / 2 ≡ m / 4 = omega arith in
    rw (fields_are, quarter, body_missing (replicate 20 0) v (m / 4) (sym l))

-- the bytes of `write_fields`: the map, the two bytes, the numbers
module _ (p₀ p₁ p₂ p₃ p₄ : List ℕ) (r : Record) (second third : ℕ) (h : 4 + size_of call_fields r.map ≤ length p₀) (l : length r.numbers ≡ 20) where
  abbrev FieldKind : List ℕ
  FieldKind = byte_of r.map (number_of r.kind)

  abbrev FieldRegime : List ℕ
  FieldRegime = byte_of (r.map / 2) (regime_byte r.regime)

  abbrev Body : List ℕ
  Body = body_of (number_fields r.numbers) (r.map / 4) r.numbers

  pub fields_written : p₁ ≡ bytes_of 4 r.map ++ drop 4 p₀ → p₂ ≡ put_at p₁ 4 FieldKind → second ≡ 4 + r.map % 2 → p₃ ≡ put_at p₂ second FieldRegime
      → third ≡ second + r.map / 2 % 2
      → p₄ ≡ put_at p₃ third Body → p₄ ≡ put_at p₀ 0 (bytes_of_record r)
  fields_written e₁ e₂ es e₃ et e₄ =
      let m = r.map in
      let front = bytes_of 4 m in
      let room : 4 + m % 2 + m / 2 % 2 ≤ length p₀ = omega (arith, h, size_is m) in
      let l₁ : length front ≡ 4 = bytes_long 4 m in
      let l₂ : length (front ++ FieldKind) ≡ 4 + m % 2 = length-append front FieldKind ∙ rw (l₁, byte_long m (number_of r.kind)) in
      let l₃ : length ((front ++ FieldKind) ++ FieldRegime) ≡ 4 + m % 2 + m / 2 % 2 =
      length-append (front ++ FieldKind) FieldRegime ∙ rw (l₂, byte_long (m / 2) (regime_byte r.regime)) in
      let q₁ : p₁ ≡ put_at p₀ 0 front = e₁ ∙ rw l₁ in
      let q₂ : p₂ ≡ put_at p₀ 0 (front ++ FieldKind) = put_next p₀ 0 4 front FieldKind q₁ (omega (arith, l₁)) (omega arith) e₂ in
      let q₃ : p₃ ≡ put_at p₀ 0 ((front ++ FieldKind) ++ FieldRegime) =
      put_next p₀ 0 second (front ++ FieldKind) FieldRegime q₂ (omega (arith, l₂, es)) (omega (arith, es)) e₃ in
      let q₄ : p₄ ≡ put_at p₀ 0 (((front ++ FieldKind) ++ FieldRegime) ++ Body) =
      put_next p₀ 0 third ((front ++ FieldKind) ++ FieldRegime) Body q₃ (omega (arith, l₃, es, et)) (omega (arith, es, et)) e₄ in
      let order : ((front ++ FieldKind) ++ FieldRegime) ++ Body ≡ bytes_of_record r =
      append_assoc (front ++ FieldKind) FieldRegime _
      ∙ append_assoc front FieldKind _
      ∙ ap (λ (x : List ℕ). front ++ x) (sym (body_is m (number_of r.kind) (regime_byte r.regime) r.numbers l)) in
      q₄ ∙ ap (put_at p₀ 0) order

-- the map of a record is made of its parts
pub map_is : (p : Parts) (v : List ℕ) (m : ℕ) → v ≡ bits_of p.numbers → m ≡ map_with p.regime (map_of Numbers p.keeps v)
    → record { map = m; kind = p.kind; regime = p.regime; numbers = v } ≡ record_of p
unfolding map_of_parts values_of map_of
map_is p v m ev em = rw (em, fields_are, ev)

-- what is written is the call's record
module _ (c : Call) (r : Record) (e : r ≡ record_of (parts_of c)) where
  pub record_is : bytes_of_record r ≡ call_record c
  unfolding call_record values_of
  record_is = rw e

  pub record_long : (n : ℕ) → n ≡ size_of call_fields r.map → 4 + n ≡ length (call_record c)
  record_long n en = rw (en, e) (sym (call_long c))
