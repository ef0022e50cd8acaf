-- Laws of f32s that are read group by group, each group from where the one before it ended. Assumes nothing.
use mathlib.Core.Path.{◌≡◌, refl, sym, ap, ◌∙◌}
use mathlib.Core.Bool.{Bool, true, false, cond}
use mathlib.Core.List.{List, ◌∷◌, ◌++◌, append_assoc, append-nil}
use Prim.Native.Nat.{ℕ, zero, suc, ◌+◌, ◌-◌, ◌*◌, ◌/◌, ◌%◌, ◌<◌, ◌≤◌, ◌^◌}
use native.Mathlib.Omega.{arith}
use native.Mathlib.Nat.{suc-add, mod-lt, sub-zero}
use borrow.Author.Tests.{eqb-true, eqb-false}
use borrow.Rule.Slice.PartMut.{mid_of, put_mid}
use lib.Dec.{eqb, lit<}
use lib.Ieee.{Float, binary32, of_bits}
use lib.ListN.{length, drop, take, replicate, length-replicate, length-append, replicate-append-replicate}
use lib.Pow.{shr-shr}
use lib.Seq.{take_at, drop_at, drop-drop}
use Rattle.fields.specs.Bytes.{number_at}
use Rattle.fields.specs.Fields.{ones, number_fields, values_at, values_as}
use Rattle.fields.specs.Numbers.{floats_of}
use Rattle.fields.proofs.MapLaw.{floats_length, floats_joined}
use Rattle.fields.proofs.FieldLaw.{ones_none, ones_more, ones_low, low_bit, low_half, numbers_long, values_long}
use Rattle.fields.proofs.FloatLaw.{none, floats_none, floats_made}

-- n numbers, each of which missing is 0
abbrev Values : ℕ → ℕ → List ℕ → List ℕ
Values n m s = values_at (number_fields (replicate n 0)) m s

-- and their f32s
abbrev pub Floats : ℕ → ℕ → List ℕ → List Float
Floats n m s = floats_of (Values n m s)

-- what is read over n f32s that are +0
floats_read : (n m : ℕ) (s : List ℕ) → values_as (of_bits binary32) (none n) m s ≡ Floats n m s
floats_read n m s = ap (λ (l : List Float). values_as (of_bits binary32) l m s) (sym (floats_none n)) ∙ floats_made (replicate n 0) m s

half_of : (m a : ℕ) → m / 2 / 2 ^ a ≡ m / 2 ^ suc a
half_of m a = shr-shr m 1 a ∙ ap (λ (k : ℕ). m / 2 ^ k) (omega arith)

-- how many stand in two groups
ones_joined : (a b m : ℕ) → ones (a + b) m ≡ ones a m + ones b (m / 2 ^ a)
ones_joined zero b m =
    let z : m / 1 ≡ m = omega arith in
    let e : 0 + b ≡ b = omega arith in
    rw (z, e, ones_none m) (omega arith)
ones_joined (suc a) b m = rw (suc-add a b, ones_more (a + b) m, ones_more a m, ← half_of m a, ones_joined a b (m / 2)) (omega arith)

-- the values of two groups
values_joined : (a b m : ℕ) (s : List ℕ) → Values (a + b) m s ≡ Values a m s ++ Values b (m / 2 ^ a) (drop (4 * ones a m) s)
unfolding values_at number_fields
values_joined zero b m s =
    let z : m / 1 ≡ m = omega arith in
    let e : 0 + b ≡ b = omega arith in
    rw (z, e, ones_none m) refl
values_joined (suc a) b m s = rw (suc-add a b, ← half_of m a) (go (eqb (m % 2) 1) refl (λ (r : List ℕ). values_joined a b (m / 2) r))
  where
    go : (c : Bool) → eqb (m % 2) 1 ≡ c → ((r : List ℕ) → Values (a + b) (m / 2) r ≡ Values a (m / 2) r ++ Values b (m / 2 / 2 ^ a) (drop (4 * ones a (m / 2)) r))
        → cond c (number_at 4 s ∷ Values (a + b) (m / 2) (drop 4 s)) (0 ∷ Values (a + b) (m / 2) s)
        ≡ cond c (number_at 4 s ∷ Values a (m / 2) (drop 4 s)) (0 ∷ Values a (m / 2) s) ++ Values b (m / 2 / 2 ^ a) (drop (4 * ones (suc a) m) s)
    go true e ih =
        let n : 4 * ones (suc a) m ≡ 4 + 4 * ones a (m / 2) = omega (arith, eqb-true (m % 2) 1 e, ones_more a m) in
        rw (ih (drop 4 s), n, drop-drop (4 * ones a (m / 2)) 4 s)
    go false e ih =
        let l : m % 2 < 2 = mod-lt m (lit< tt) in
        let k : m % 2 ≡ 1 → ⊥ = eqb-false (m % 2) 1 e in
        let n : 4 * ones (suc a) m ≡ 4 * ones a (m / 2) = omega (arith, ones_more a m) in
        rw (ih s, n)

-- bits above a group's own are of no account
values_low : (n m : ℕ) (s : List ℕ) → Values n (m % 2 ^ n) s ≡ Values n m s
unfolding values_at number_fields
values_low zero m s = refl
values_low (suc n) m s = rw (low_bit n m, low_half n m, values_low n (m / 2) (drop 4 s), values_low n (m / 2) s)

floats_long : (n m : ℕ) (s : List ℕ) → length (Floats n m s) ≡ n
floats_long n m s = floats_length (Values n m s) ∙ values_long (number_fields (replicate n 0)) m s ∙ numbers_long (replicate n 0) ∙ length-replicate {A = ℕ} n 0

floats_more : (a b m : ℕ) (s : List ℕ) → Floats (a + b) m s ≡ Floats a m s ++ Floats b (m / 2 ^ a % 2 ^ b) (drop (4 * ones a m) s)
floats_more a b m s =
    ap floats_of (values_joined a b m s) ∙ floats_joined (Values a m s) (Values b (m / 2 ^ a) (drop (4 * ones a m) s))
    ∙ ap (λ (l : List ℕ). Floats a m s ++ floats_of l) (sym (values_low b (m / 2 ^ a) (drop (4 * ones a m) s)))

ones_group : (a b m : ℕ) → ones (a + b) m ≡ ones a m + ones b (m / 2 ^ a % 2 ^ b)
ones_group a b m =
    let low : ones (b + 0) (m / 2 ^ a % 2 ^ b) ≡ ones b (m / 2 ^ a) = ones_low b 0 (m / 2 ^ a) in
    let e : b + 0 ≡ b = omega arith in
    rw (rw e at low) (ones_joined a b m)

-- The first k of n f32s are read, up to a place; the others are +0.
pub record Filled (s : List ℕ) (from map n : ℕ) (v : List Float) (k at : ℕ) : Type 0 where
  pub is : v ≡ Floats k map (drop from s) ++ none (n - k)
  pub place : at ≡ from + 4 * ones k map
  pub room : from + 4 * ones n map ≤ length s

pub filled_none : (s : List ℕ) (from map n : ℕ) → from + 4 * ones n map ≤ length s → Filled s from map n (none n) 0 from
unfolding floats_of values_at number_fields
filled_none s from map n h = record { is = rw (sub-zero n); place = omega (arith, ones_none map); room = h }

module _ {s : List ℕ} {from map n : ℕ} {v : List Float} {k at : ℕ} (f : Filled s from map n v k at) (d : ℕ) (h : k + d ≤ n) where
  rest : drop k v ≡ none (n - k)
  rest = rw f.is (drop_at (Floats k map (drop from s)) (none (n - k)) k (floats_long k map (drop from s)))

  apart : none (n - k) ≡ none d ++ none (n - (k + d))
  apart =
      let e : n - k ≡ d + (n - (k + d)) = omega arith in
      rw e (sym (replicate-append-replicate d (n - (k + d)) (of_bits binary32 0)))

  -- the next group is d f32s that are +0 so far
  pub next_none : mid_of k d v ≡ none d
  next_none = rw (rest, apart) (take_at (none d) (none (n - (k + d))) d (length-replicate d (of_bits binary32 0)))

  next_long : length (mid_of k d v) ≡ d
  next_long = rw next_none (length-replicate d (of_bits binary32 0))

  -- and has its bytes
  next_room : at + 4 * ones d (map / 2 ^ k % 2 ^ d) ≤ length s
  next_room =
      let e : n ≡ (k + d) + (n - (k + d)) = omega arith in
      let all : ones n map ≡ ones (k + d) map + ones (n - (k + d)) (map / 2 ^ (k + d) % 2 ^ (n - (k + d))) =
      ap (λ (x : ℕ). ones x map) e ∙ ones_group (k + d) (n - (k + d)) map in
      omega (arith, all, ones_group k d map, f.place, f.room)

  -- what its reader asks
  pub asks_floats : at + 4 * ones (length (mid_of k d v)) (map / 2 ^ k % 2 ^ d) ≤ length s
  asks_floats = rw next_long next_room

  pub asks_group : (all : ℕ) → all ≡ 2 ^ d - 1
      → (all ≡ 2 ^ length (mid_of k d v) - 1) × (at + 4 * ones (length (mid_of k d v)) (map / 2 ^ k % 2 ^ d) ≤ length s)
  asks_group all e = (rw next_long e, asks_floats)

  -- and gives
  pub filled_more : (p : List Float) (next : ℕ)
      → (p ≡ values_as (of_bits binary32) (mid_of k d v) (map / 2 ^ k % 2 ^ d) (drop at s)) × (next ≡ at + 4 * ones (length (mid_of k d v)) (map / 2 ^ k % 2 ^ d))
      → Filled s from map n (put_mid k d v p) (k + d) next
  filled_more p next g =
      let e : p ≡ Floats d (map / 2 ^ k % 2 ^ d) (drop at s) = rw next_none at g.0 ∙ floats_read d (map / 2 ^ k % 2 ^ d) (drop at s) in
      let en : next ≡ at + 4 * ones d (map / 2 ^ k % 2 ^ d) = rw next_long at g.1 in
      let front : take k v ≡ Floats k map (drop from s) = rw f.is (take_at (Floats k map (drop from s)) (none (n - k)) k (floats_long k map (drop from s))) in
      let back : drop d (drop k v) ≡ none (n - (k + d)) =
      rw (rest, apart) (drop_at (none d) (none (n - (k + d))) d (length-replicate d (of_bits binary32 0))) in
      let there : drop at s ≡ drop (4 * ones k map) (drop from s) = rw f.place (sym (drop-drop (4 * ones k map) from s)) in
      record {
        is = rw (front, back, e, there, floats_more k d map (drop from s)) (sym (append_assoc (Floats k map (drop from s)) _ (none (n - (k + d)))));
        place = omega (arith, en, ones_group k d map, f.place);
        room = f.room;
      }

-- the first group
module _ (s : List ℕ) (from map n d : ℕ) (h : d ≤ n) (room : from + 4 * ones n map ≤ length s) where
  start : Filled s from map n (none n) 0 from
  start = filled_none s from map n room

  whole : map / 1 % 2 ^ d ≡ map % 2 ^ d
  whole = let z : map / 1 ≡ map = omega arith in rw z

  pub asks_first : from + 4 * ones (length (mid_of 0 d (none n))) (map % 2 ^ d) ≤ length s
  asks_first = rw whole at (asks_floats start d (omega arith))

  pub filled_first : (p : List Float) (next : ℕ)
      → (p ≡ values_as (of_bits binary32) (mid_of 0 d (none n)) (map % 2 ^ d) (drop from s)) × (next ≡ from + 4 * ones (length (mid_of 0 d (none n))) (map % 2 ^ d))
      → Filled s from map n (put_mid 0 d (none n) p) d next
  filled_first p next g =
      let e : 0 + d ≡ d = omega arith in
      rw e at (filled_more start d (omega arith) p next (rw whole g))

pub filled_long : {s : List ℕ} {from map n : ℕ} {v : List Float} {k at : ℕ} → Filled s from map n v k at → k ≤ n → length v ≡ n
filled_long {s} {from} {map} {n} {v} {k} {at} f h =
    rw (f.is, length-append (Floats k map (drop from s)) (none (n - k)), floats_long k map (drop from s), length-replicate (n - k) (of_bits binary32 0)) (omega arith)

pub filled_all : {s : List ℕ} {from map n : ℕ} {v : List Float} {at : ℕ} → Filled s from map n v n at → v ≡ Floats n map (drop from s)
filled_all {s} {from} {map} {n} {v} {at} f =
    let z : n - n ≡ 0 = omega arith in
    rw z at f.is ∙ append-nil (Floats n map (drop from s))
