-- Laws of numbers in bytes. Assumes nothing.
use mathlib.Core.Path.{◌≡◌, refl, sym, ap, subst, ◌∙◌}
use mathlib.Core.Bool.{Bool, true, false, not}
use mathlib.Core.List.{List, [], ◌∷◌, ◌++◌, append_assoc, append-nil}
use Prim.Native.Nat.{ℕ, zero, suc, ◌+◌, ◌-◌, ◌*◌, ◌/◌, ◌%◌, ◌<◌, ◌≤◌, ◌^◌}
use native.Mathlib.Omega.{arith}
use native.Mathlib.Numerals.{add-one}
use native.Mathlib.Nat.{pow-suc, pow-zero, pow-le-pow_right, lt_of_lt_of_le}
use lib.Dec.{T, ltb, lit<}
use lib.ListN.{length, set, get_or, take, drop, length-set, length-append}
use lib.Seq.{drop-drop, drop_at, get_or-drop, take_all, take-suc-set, length-take-le, take_at, get_or-take}
use Rattle.std.specs.List.{push}
use Rattle.std.proofs.lemmas.List.{take-take, get_or_push}
use lib.Ieee.{Float, nan, inf, fin, binary32, is_nan, of_bits, to_bits, nan_bits}
use lib.Ieee.Bits.{nan_bits_is, nan_bits_above}
use Rattle.fields.specs.Bytes.{number_at, bytes_of}

-- ---- numbers and their bytes

pub number_none : (s : List ℕ) → number_at 0 s ≡ 0
unfolding number_at
number_none s = refl

pub number_more : (n : ℕ) (s : List ℕ) → number_at (suc n) s ≡ get_or s 0 0 + 256 * number_at n (drop 1 s)
unfolding number_at
number_more n s = refl

pub bytes_long : (n v : ℕ) → length (bytes_of n v) ≡ n
unfolding bytes_of
bytes_long zero v = refl
bytes_long (suc n) v = ap suc (bytes_long n (v / 256))

-- the bytes of a number spell it
pub number_back : (n v : ℕ) (rest : List ℕ) → v < 256 ^ n → number_at n (bytes_of n v ++ rest) ≡ v
unfolding number_at bytes_of
number_back zero v rest h = omega (arith, rw (pow-zero 256) at h)
number_back (suc n) v rest h =
    let small : v < 256 * 256 ^ n = omega (arith, rw (pow-suc 256 n) at h) in
    rw (number_back n (v / 256) rest (omega arith)) (omega arith)

pub drop_bytes : (n v : ℕ) (rest : List ℕ) → drop n (bytes_of n v ++ rest) ≡ rest
drop_bytes n v rest = drop_at (bytes_of n v) rest n (bytes_long n v)

-- ---- `read_number`: v is the number of bytes i to n

-- one byte more at the low end
number_from : (n : ℕ) (s : List ℕ) (j : ℕ) → j < n → number_at (n - j) (drop j s) ≡ get_or s j 0 + 256 * number_at (n - (j + 1)) (drop (j + 1) s)
number_from n s j h =
    let e : n - j ≡ suc (n - (j + 1)) = omega arith in
    let z : j + 0 ≡ j = omega arith in
    rw e (number_more (n - (j + 1)) (drop j s) ∙ rw (get_or-drop j s 0 0, drop-drop 1 j s, z))

pub record Reading (s : List ℕ) (n v i : ℕ) : Type 0 where
  pub below : i ≤ n
  pub is : v ≡ number_at (n - i) (drop i s)
  pub small : v < 256 ^ (n - i)

read_starts : (s : List ℕ) (n : ℕ) → Reading s n 0 n
read_starts s n =
    let z : n - n ≡ 0 = omega arith in
    record { below = omega arith; is = rw z (sym (number_none (drop n s))); small = rw z (lit< tt) }

module _ {s : List ℕ} {n v i : ℕ} (r : Reading s n v i) where
  read_fits : n ≤ 7 → 0 < i → v < 256 ^ 6
  read_fits h k = lt_of_lt_of_le r.small (pow-le-pow_right {n = 256} (lit< tt) {i = n - i} {j = 6} (omega arith))

  read_turn : 0 < i → (b : ℕ) → b ≡ get_or s (i - 1) 0 → b < 256 → Reading s n (256 * v + b) (i - 1)
  read_turn h b e k =
      let back : i - 1 + 1 ≡ i = omega arith in
      let step = rw back at (number_from n s (i - 1) (omega (arith, r.below))) in
      let q : n - (i - 1) ≡ suc (n - i) = omega (arith, r.below) in
      record {
        below = omega (arith, r.below);
        is = omega (arith, step, e, r.is);
        small = rw (q, pow-suc 256 (n - i)) (omega (arith, r.small));
      }

  read_done : i ≤ 0 → (v ≡ number_at n s) × (v < 256 ^ n)
  read_done h =
      let z : i ≡ 0 = omega arith in
      let q : n - i ≡ n = omega arith in
      (rw (q, z) at r.is, rw q at r.small)

-- front has the bytes that are left: front is left of them after b was read
pub record Left (s : List ℕ) (n v : ℕ) (front : List ℕ) : Type 0 where
  pub is : front ≡ take (length front) s
  pub reading : Reading s n v (length front)

pub left_starts : (s : List ℕ) (n : ℕ) → n ≤ length s → Left s n 0 (take n s)
left_starts s n h = let long = length-take-le n s h in record { is = rw long; reading = rw long (read_starts s n) }

module _ {s : List ℕ} {n v : ℕ} {front : List ℕ} (l : Left s n v front) (after : List ℕ) (b : ℕ) (e : front ≡ push after b) where
  long : length front ≡ length after + 1
  long = rw e (length-append after (b ∷ []))

  pub left_fits : n ≤ 7 → v < 256 ^ 6
  left_fits h = read_fits l.reading h (omega (arith, long))

  whole : take (length after + 1) s ≡ push after b
  whole = sym (rw long at l.is) ∙ e

  pub left_turn : ((i : ℕ) → get_or s i 0 < 256) → Left s n (256 * v + b) after
  left_turn small =
      let i = length after in
      let back : length front - 1 ≡ i = omega (arith, long) in
      let kept : after ≡ take i s = sym (take_at after (b ∷ []) i refl) ∙ ap (take i) (sym whole) ∙ take-take i (i + 1) s (omega arith) in
      let last : b ≡ get_or s i 0 = sym (get_or_push after b 0 i refl) ∙ ap (λ (l : List ℕ). get_or l i 0) (sym whole) ∙ get_or-take (i + 1) s i 0 (omega arith) in
      record { is = kept; reading = rw back at (read_turn l.reading (omega (arith, long)) b (rw back last) (rw last (small i))) }

pub left_done : {s : List ℕ} {n v : ℕ} {front : List ℕ} → Left s n v front → length front ≡ 0 → (v ≡ number_at n s) × (v < 256 ^ n)
left_done l h = read_done l.reading (omega (arith, h))

-- ---- `write_number`: bytes 0 to i of p are written, v is what is left of the number

pub record Writing (n number : ℕ) (p : List ℕ) (v i : ℕ) : Type 0 where
  pub below : i ≤ n
  pub long : length p ≡ n
  pub is : take i p ++ bytes_of (n - i) v ≡ bytes_of n number

module _ {n number : ℕ} {p : List ℕ} {v i : ℕ} (w : Writing n number p v i) where
  first_byte : i < n → bytes_of (n - i) v ≡ v % 256 ∷ bytes_of (n - (i + 1)) (v / 256)
  unfolding bytes_of
  first_byte h = let e : n - i ≡ suc (n - (i + 1)) = omega arith in rw e

  pub write_turn : i < n → Writing n number (set p i (v % 256)) (v / 256) (i + 1)
  write_turn h =
      let here : i < length p = omega (arith, w.long) in
      record {
        below = omega arith;
        long = simp length-set w.long;
        is =
            rw (add-one i, take-suc-set p i (v % 256) here, ← add-one i)
            (append_assoc (take i p) (v % 256 ∷ []) (bytes_of (n - (i + 1)) (v / 256))
            ∙ ap (λ (bs : List ℕ). take i p ++ bs) (sym (first_byte h)) ∙ w.is);
      }

  no_bytes : n ≤ i → bytes_of (n - i) v ≡ []
  unfolding bytes_of
  no_bytes h = let z : n - i ≡ 0 = omega arith in rw z

  pub write_done : n ≤ i → p ≡ bytes_of n number
  write_done h =
      let all : take i p ≡ p = take_all i p (omega (arith, w.long)) in
      sym (rw (no_bytes h, all) (append-nil p)) ∙ w.is

-- ---- the bits of an f32

-- only nan is a NaN
pub nan_of : (x : Float) → is_nan x ≡ true → x ≡ nan
unfolding is_nan
nan_of nan e = refl
nan_of (inf s) e = elim (subst T (sym e) tt) [ ]
nan_of (fin s m k) e = elim (subst T (sym e) tt) [ ]

-- bits above the infinity's, the sign off, are nan
pub nan_bits_lem : (n : ℕ) → ltb 0x7f800000 (n % 0x80000000) ≡ true → of_bits binary32 n ≡ nan
nan_bits_lem n h = nan_of (of_bits binary32 n) (sym (nan_bits_is binary32 n) ∙ nan_bits_above binary32 n ∙ h)

pub no_nan_bits : (n : ℕ) → ltb 0x7f800000 (n % 0x80000000) ≡ false → nan_bits binary32 n ≡ false
no_nan_bits n h = nan_bits_above binary32 n ∙ h

pub bits_of_nan : to_bits binary32 nan ≡ 0x7fc00000
unfolding to_bits
bits_of_nan = refl

pub not-false : {b : Bool} → b ≡ false → T (not b)
not-false e = rw e tt
