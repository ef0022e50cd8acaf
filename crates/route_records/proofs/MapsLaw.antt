-- Each outcome of reading the maps of a route's record, what maps that were read are, and their bytes. Assumes nothing.
use Rattle.std.specs.Prelude.{Result, Ok, Err}
use mathlib.Core.Path.{◌≡◌, refl, sym, ap, ◌∙◌}
use mathlib.Core.Bool.{Bool, true, false, cond, not}
use mathlib.Core.List.{List, ◌++◌, append_assoc}
use Prim.Native.Nat.{ℕ, zero, suc, ◌+◌, ◌-◌, ◌/◌, ◌%◌, ◌<◌, ◌≤◌, ◌^◌}
use native.Mathlib.Omega.{arith}
use native.Mathlib.Nat.{zero-add, suc-add, pow-succ', div-div-eq-div-mul}
use borrow.Author.Tests.{lt-ltb, le-ltb, ltb-true, ltb-false, eqb-false}
use borrow.Rule.Slice.PartMut.{put_mid}
use lib.Dec.{eqb, ltb}
use lib.ListN.{length, drop, take, length-append, length-drop}
use lib.Seq.{drop-drop}
use Rattle.fields.specs.Bytes.{number_at, bytes_of}
use Rattle.fields.specs.Fields.{ones}
use Rattle.fields.proofs.NumberLaw.{bytes_long, number_back, drop_bytes}
use Rattle.fields.proofs.FieldLaw.{ones_low, ones_below, put_front, put_after}
use Rattle.refusals.specs.declared.Refusal.{Refusal}
use Rattle.refusals.specs.declared.Refusal.TheVariants as refusal
use Rattle.route_records.specs.Record.{check_map, joined, maps_bytes}

-- ---- a map that is not refused

-- the lowest unnamed bit is b
pub named : (b m : ℕ) → ◌≡◌ {A = Result (Unit {0}) Refusal} (cond (not (ltb m b)) (Err refusal.UnknownMap) (cond (eqb m 0) (Err refusal.NoPoint) (Ok tt))) (Ok tt)
    → (m < b) × (m ≡ 0 → ⊥)
named b m e = go (ltb m b) refl (eqb m 0) refl e
  where
    go : (x : Bool) → ltb m b ≡ x → (z : Bool) → eqb m 0 ≡ z
        → ◌≡◌ {A = Result (Unit {0}) Refusal} (cond (not x) (Err refusal.UnknownMap) (cond z (Err refusal.NoPoint) (Ok tt))) (Ok tt) → (m < b) × (m ≡ 0 → ⊥)
    go true q true r w = absurd (cc)
    go true q false r w = (ltb-true m b q, eqb-false m 0 r)
    go false q z r w = absurd (cc)

pub map_is : (m : ℕ) → check_map m ≡ Ok tt → (m < 2 ^ 62) × (m ≡ 0 → ⊥)
unfolding check_map
map_is m e = named (2 ^ 62) m e

-- ---- one map or two

-- a map is below 2^31, or it is not
pub either : {A : Type 0} (m : ℕ) → (m < 2 ^ 31 → A) → (2 ^ 31 ≤ m → A) → A
either {A} m f g = go (ltb m (2 ^ 31)) refl
  where
    go : (b : Bool) → ltb m (2 ^ 31) ≡ b → A
    go true e = f (ltb-true m (2 ^ 31) e)
    go false e = g (ltb-false m (2 ^ 31) e)

-- ---- two maps as one

-- the n lowest bits, and the d above them
ones_apart : (n d m : ℕ) → ones (n + d) m ≡ ones n m + ones d (m / 2 ^ n)
unfolding ones
ones_apart zero d m = let same : m / 1 ≡ m = omega arith in rw (same, zero-add d) (sym (zero-add (ones d m)))
ones_apart (suc n) d m =
    let above : m / 2 / 2 ^ n ≡ m / 2 ^ suc n = rw (pow-succ' 2 n) (div-div-eq-div-mul m 2 (2 ^ n)) in
    ap (λ (k : ℕ). ones k m) (suc-add n d) ∙ rw (ones_apart n d (m / 2), above) (omega arith)

pub maps_apart : (first second : ℕ) → (joined first second % 2 ^ 31 ≡ first % 2 ^ 31) × (joined first second / 2 ^ 31 ≡ second)
maps_apart first second = (omega arith, omega arith)

pub maps_count : (first second : ℕ) → second < 2 ^ 31 → ones 64 (joined first second) ≡ ones 31 first + ones 31 second
maps_count first second h =
    let m = joined first second in
    let apart = maps_apart first second in
    let low : ones 31 m ≡ ones 31 first = sym (ones_low 31 0 m) ∙ ap (ones 31) apart.0 ∙ ones_low 31 0 first in
    ones_apart 31 33 m ∙ rw (low, apart.1, ones_below 31 2 second h)

-- ---- the maps' bytes

pub one_map_bytes : (m : ℕ) → m < 2 ^ 31 → maps_bytes m ≡ bytes_of 4 m
unfolding maps_bytes
one_map_bytes m h = rw (lt-ltb m (2 ^ 31) h)

pub two_map_bytes : (m : ℕ) → 2 ^ 31 ≤ m → maps_bytes m ≡ bytes_of 4 (2 ^ 31 + m % 2 ^ 31) ++ bytes_of 4 (m / 2 ^ 31)
unfolding maps_bytes
two_map_bytes m h = rw (le-ltb _ _ h)

pub one_map_long : (m : ℕ) → m < 2 ^ 31 → length (maps_bytes m) ≡ 4
one_map_long m h = rw (one_map_bytes m h) (bytes_long 4 m)

pub two_maps_long : (m : ℕ) → 2 ^ 31 ≤ m → length (maps_bytes m) ≡ 8
two_maps_long m h =
    let a = 2 ^ 31 + m % 2 ^ 31 in
    let b = m / 2 ^ 31 in
    rw (two_map_bytes m h) (length-append (bytes_of 4 a) (bytes_of 4 b) ∙ omega (arith, bytes_long 4 a, bytes_long 4 b))

-- ---- where maps stand

module _ (s : List ℕ) (at m : ℕ) (rest : List ℕ) (e : drop at s ≡ maps_bytes m ++ rest) where
  maps_size : length s - at ≡ length (maps_bytes m) + length rest
  maps_size = sym (length-drop at s) ∙ ap length e ∙ length-append (maps_bytes m) rest

  pub room : at + length (maps_bytes m) ≤ length s
  room =
      let size = maps_size in
      either m (λ (h : m < 2 ^ 31). omega (arith, one_map_long m h)) (λ (h : 2 ^ 31 ≤ m). omega (arith, two_maps_long m h))

  pub alone_is : m < 2 ^ 31 → number_at 4 (drop at s) ≡ m
  alone_is h = rw (e, one_map_bytes m h) (number_back 4 m rest (omega arith))

  module _ (h : 2 ^ 31 ≤ m) where
    both_are : drop at s ≡ bytes_of 4 (2 ^ 31 + m % 2 ^ 31) ++ (bytes_of 4 (m / 2 ^ 31) ++ rest)
    both_are = e ∙ rw (two_map_bytes m h) (append_assoc (bytes_of 4 (2 ^ 31 + m % 2 ^ 31)) (bytes_of 4 (m / 2 ^ 31)) rest)

    pub first_is : number_at 4 (drop at s) ≡ 2 ^ 31 + m % 2 ^ 31
    first_is = rw both_are (number_back 4 (2 ^ 31 + m % 2 ^ 31) (bytes_of 4 (m / 2 ^ 31) ++ rest) (omega arith))

    pub second_is : m < 2 ^ 62 → number_at 4 (drop (at + 4) s) ≡ m / 2 ^ 31
    second_is k =
        let after : drop (at + 4) s ≡ bytes_of 4 (m / 2 ^ 31) ++ rest =
        sym (drop-drop 4 at s) ∙ rw both_are (drop_bytes 4 (2 ^ 31 + m % 2 ^ 31) (bytes_of 4 (m / 2 ^ 31) ++ rest)) in
        rw after (number_back 4 (m / 2 ^ 31) rest (omega arith))

-- ---- writing

pub wrote_one : (part p : List ℕ) (m : ℕ) → m < 2 ^ 31 → p ≡ bytes_of 4 m ++ drop 4 part → p ≡ maps_bytes m ++ drop (length (maps_bytes m)) part
wrote_one part p m h e = rw (one_map_long m h, one_map_bytes m h) e

-- q is what the first map's writing left, p what the second's left of the part behind it
module _ (part : List ℕ) (m : ℕ) (h : 2 ^ 31 ≤ m) (room : length (maps_bytes m) ≤ length part) where
  abbrev First : List ℕ
  First = bytes_of 4 (2 ^ 31 + m % 2 ^ 31)

  abbrev Second : List ℕ
  Second = bytes_of 4 (m / 2 ^ 31)

  eight : 8 ≤ length part
  eight = omega (arith, two_maps_long m h)

  module _ (q : List ℕ) (eq : q ≡ First ++ drop 4 part) where
    length_kept : length q ≡ length part
    length_kept = rw eq (simp (length-append, length-drop) (omega (arith, bytes_long 4 (2 ^ 31 + m % 2 ^ 31), eight)))

    pub wrote_two : (p : List ℕ) → p ≡ Second ++ drop 4 (take (length q - 4) (drop 4 q))
        → put_mid 4 (length q - 4) q p ≡ maps_bytes m ++ drop (length (maps_bytes m)) part
    wrote_two p ep =
        let z : 0 + length (maps_bytes m) ≡ length (maps_bytes m) = omega arith in
        let two = put_front q p 4 4 Second (bytes_long 4 (m / 2 ^ 31)) (omega (arith, length_kept, eight)) ep in
        let all = put_after 4 part q (put_mid 4 (length q - 4) q p) First Second (bytes_long 4 (2 ^ 31 + m % 2 ^ 31)) (omega (arith, eight)) eq two in
        rw z at (rw (← two_map_bytes m h) at all)
