-- Laws of the loops over fields that are numbers. Assumes nothing.
use mathlib.Core.Path.{◌≡◌, refl, sym, ap, ap₂, ◌∙◌}
use mathlib.Core.Bool.{Bool, true, false, cond}
use mathlib.Core.List.{List, [], ◌∷◌, ◌++◌, append_assoc, append-nil, map, map-id}
use Prim.Native.Nat.{ℕ, zero, suc, ◌+◌, ◌-◌, ◌*◌, ◌/◌, ◌%◌, ◌<◌, ◌≤◌, ◌^◌}
use native.Mathlib.Omega.{arith}
use native.Mathlib.Numerals.{add-one}
use native.Mathlib.Nat.{add-zero, mod-lt, mod-eq_of_lt, pow-suc, suc-add, lt_of_lt_of_le}
use lib.Arith.{mod-mul}
use lib.Count as all
use lib.Pow.{pow_mono, pow_pos}
use borrow.Rule.Slice.PartMut.{put_mid, Post-is}
use borrow.Author.Tests.{eq-eqb, ne_eqb, eqb-true, eqb-false}
use lib.Dec.{eqb, lit<}
use lib.ListN.{length, set, drop, take, get_or, length-append, length-drop, length-set, drop_of_length-le, take-append-drop}
use Rattle.std.proofs.lemmas.List.{take_rest}
use lib.Seq.{drop-length, take_all, take_at, drop_at, length-take-le, drop-cons, drop-drop, take-suc, take-suc-set, drop-set-lt}
use Rattle.fields.specs.Bytes.{number_at, bytes_of, put_at}
use Rattle.fields.specs.Fields.{Field, ones, size_of, number_fields, values_at, values_as, is_written, bit_of, map_of, body_of}
use Rattle.fields.proofs.NumberLaw.{bytes_long}

-- ---- how many bits stand

pub ones_none : (m : ℕ) → ones 0 m ≡ 0
unfolding ones
ones_none m = refl

pub ones_more : (n m : ℕ) → ones (suc n) m ≡ m % 2 + ones n (m / 2)
unfolding ones
ones_more n m = refl

pub ones_le : (n m : ℕ) → ones n m ≤ n
unfolding ones
ones_le zero m = omega arith
ones_le (suc n) m = omega (arith, ones_le n (m / 2))

-- one bit more
pub ones_step : (m n i : ℕ) → i < n → ones (n - i) m ≡ m % 2 + ones (n - (i + 1)) (m / 2)
ones_step m n i h = let e : n - i ≡ suc (n - (i + 1)) = omega arith in rw e (ones_more (n - (i + 1)) m)

no_ones : (m n i : ℕ) → n ≤ i → ones (n - i) m ≡ 0
no_ones m n i h = let z : n - i ≡ 0 = omega arith in rw z (ones_none m)

not_one : (n : ℕ) → (n ≡ 1 → ⊥) → n < 2 → n ≡ 0
not_one n h k = omega arith

half_below : (n m : ℕ) → m < 2 ^ suc n → m / 2 < 2 ^ n
half_below n m h = let e : 2 ^ suc n ≡ 2 ^ n * 2 = pow-suc 2 n in omega arith

no_bit : (m : ℕ) → m < 2 ^ 0 → m ≡ 0
no_bit m h = omega arith

-- no bit of 0 stands
pub ones_of_0 : (n : ℕ) → ones n 0 ≡ 0
unfolding ones
ones_of_0 zero = refl
ones_of_0 (suc n) = omega (arith, ones_of_0 n)

-- the lowest bit of the suc n lowest, and the others
module _ (n m : ℕ) where
  low_is : m % 2 ^ suc n ≡ m / 2 % 2 ^ n * 2 + m % 2
  low_is = ap (λ (p : ℕ). m % p) (pow-suc 2 n) ∙ mod-mul m (pow_pos n) (lit< tt)

  pub low_bit : m % 2 ^ suc n % 2 ≡ m % 2
  low_bit = rw low_is (omega arith)

  pub low_half : m % 2 ^ suc n / 2 ≡ m / 2 % 2 ^ n
  low_half = rw low_is (omega arith)

-- bits above the n lowest taken off
pub ones_low : (n d m : ℕ) → ones (n + d) (m % 2 ^ n) ≡ ones n m
unfolding ones
ones_low zero d m = let z : m % 1 ≡ 0 = omega arith in rw z (ones_of_0 (0 + d))
ones_low (suc n) d m =
    ap (λ (k : ℕ). ones k (m % 2 ^ suc n)) (suc-add n d)
    ∙ ap₂ (λ (a b : ℕ). a + ones (n + d) b) (low_bit n m) (low_half n m)
    ∙ ap (λ (a : ℕ). m % 2 + a) (ones_low n d (m / 2))

-- no bit stands above the n lowest
pub ones_below : (n d m : ℕ) → m < 2 ^ n → ones (n + d) m ≡ ones n m
ones_below n d m h = ap (ones (n + d)) (sym (mod-eq_of_lt h)) ∙ ones_low n d m

-- the count of all bits
pub ones_all : (n m : ℕ) → m < 2 ^ n → all.ones m ≡ ones n m
unfolding ones all.ones
ones_all zero m h = rw (no_bit m h) refl
ones_all (suc n) m h = all.ones_step m ∙ ap (λ (x : ℕ). m % 2 + x) (ones_all n (m / 2) (half_below n m h))

-- ---- a part of a slice

-- the rest of a slice, as a part of it is given
pub rest_is : {A : Type 0} (s : List A) (at : ℕ) → take (length s - at) (drop at s) ≡ drop at s
rest_is s at = take_rest s at

-- the rest of a slice, lent and come back as p
pub rest_back : (out p : List ℕ) (at : ℕ) → at ≤ length out → put_mid at (length out - at) out p ≡ take at out ++ p
rest_back out p at h = rw (Post-is at (length out) out h, drop-length out, append-nil p)

-- ---- reading

-- what a list has at a place
item : {A : Type 0} (v : List A) (i : ℕ) → i < length v → A
item [] i h = absurd (omega arith)
item (x ∷ xs) i h = x

module _ {A : Type 0} (of : ℕ → A) where
  values_none : (m : ℕ) (s : List ℕ) → values_as of [] m s ≡ []
  unfolding values_as
  values_none m s = refl

  module _ (v : List A) (m : ℕ) (s : List ℕ) (i : ℕ) (h : i < length v) where
    -- a turn that reads
    reads : m % 2 ≡ 1
        → take (i + 1) (set v i (of (number_at 4 s))) ++ values_as of (drop (i + 1) (set v i (of (number_at 4 s)))) (m / 2) (drop 4 s)
        ≡ take i v ++ values_as of (drop i v) m s
    unfolding values_as
    reads e =
        let d = item v i h in
        rw
        (add-one i, drop-set-lt (suc i) v i (of (number_at 4 s)) (omega arith), take-suc-set v i (of (number_at 4 s)) h, drop-cons v i d h, eq-eqb _ _ e)
        (append_assoc (take i v) _ _)

    -- a turn that keeps
    keeps : (m % 2 ≡ 1 → ⊥) → take (i + 1) v ++ values_as of (drop (i + 1) v) (m / 2) s ≡ take i v ++ values_as of (drop i v) m s
    unfolding values_as
    keeps e =
        let d = item v i h in
        rw (add-one i, take-suc v i d h, drop-cons v i d h, ne_eqb _ _ e) (append_assoc (take i v) _ _)

  -- where no bit stands, each stays
  pub values_of_0 : (v : List A) (s : List ℕ) → values_as of v 0 s ≡ v
  unfolding values_as
  values_of_0 [] s = refl
  values_of_0 (x ∷ xs) s = ap (λ (l : List A). x ∷ l) (values_of_0 xs s)

  -- where no bit stands above the first ones, the others stay
  pub values_front : (u v : List A) (m : ℕ) (s : List ℕ) → m < 2 ^ length u → values_as of (u ++ v) m s ≡ values_as of u m s ++ v
  unfolding values_as
  values_front [] v m s h = rw (no_bit m h) (values_of_0 v s)
  values_front (x ∷ xs) v m s h = go (eqb (m % 2) 1) (λ (r : List ℕ). values_front xs v (m / 2) r (half_below (length xs) m h))
    where
      go : (b : Bool) → ((r : List ℕ) → values_as of (xs ++ v) (m / 2) r ≡ values_as of xs (m / 2) r ++ v)
          → cond b (of (number_at 4 s) ∷ values_as of (xs ++ v) (m / 2) (drop 4 s)) (x ∷ values_as of (xs ++ v) (m / 2) s)
          ≡ cond b (of (number_at 4 s) ∷ values_as of xs (m / 2) (drop 4 s)) (x ∷ values_as of xs (m / 2) s) ++ v
      go true ih = ap (λ (l : List A). of (number_at 4 s) ∷ l) (ih (drop 4 s))
      go false ih = ap (λ (l : List A). x ∷ l) (ih s)

  pub read_none : (s : List ℕ) (v : List A) (from map : ℕ) → map ≡ 0 → (v ≡ values_as of v map (drop from s)) × (from ≡ from + 4 * ones (length v) map)
  read_none s v from map z = (sym (rw z (values_of_0 v (drop from s))), rw (z, ones_of_0 (length v)) (omega arith))

  -- what holds in each turn of `read_values`
  pub record Reading (s : List ℕ) (from map : ℕ) (v₀ v : List A) (at m i : ℕ) : Type 0 where
    pub below : i ≤ length v
    pub long : length v ≡ length v₀
    pub is : take i v ++ values_as of (drop i v) m (drop at s) ≡ values_as of v₀ map (drop from s)
    pub place : at + 4 * ones (length v - i) m ≡ from + 4 * ones (length v₀) map
    pub room : from + 4 * ones (length v₀) map ≤ length s

  module _ {s : List ℕ} {from map : ℕ} {v₀ v : List A} {at m i : ℕ} (f : Reading s from map v₀ v at m i) where
    pub read_room : i < length v → m % 2 ≡ 1 → at + 4 ≤ length s
    read_room h b = omega (arith, f.place, f.room, ones_step m (length v) i h)

    pub read_part : i < length v → m % 2 ≡ 1 → 4 ≤ length (take (length s - at) (drop at s))
    read_part h b = rw (rest_is s at) (simp length-drop (omega (arith, read_room h b)))

    pub read_turn : i < length v → m % 2 ≡ 1 → (x : ℕ) → x ≡ number_at 4 (take (length s - at) (drop at s))
        → Reading s from map v₀ (set v i (of x)) (at + 4) (m / 2) (i + 1)
    read_turn h b x e =
        record {
          below = simp length-set (omega arith);
          long = simp length-set f.long;
          is = rw (e, rest_is s at, ← drop-drop 4 at s) (reads v m (drop at s) i h b ∙ f.is);
          place = simp length-set (omega (arith, f.place, ones_step m (length v) i h));
          room = f.room;
        }

    pub read_keeps : i < length v → (m % 2 ≡ 1 → ⊥) → Reading s from map v₀ v at (m / 2) (i + 1)
    read_keeps h b =
        let z : m % 2 ≡ 0 = not_one (m % 2) b (mod-lt m (lit< tt)) in
        record {
          below = omega arith;
          long = f.long;
          is = keeps v m (drop at s) i h b ∙ f.is;
          place = omega (arith, f.place, ones_step m (length v) i h);
          room = f.room;
        }

    pub read_done : length v ≤ i → v ≡ values_as of v₀ map (drop from s)
    read_done h = sym (simp (drop_of_length-le, take_all, append-nil, values_none) (refl)) ∙ f.is

    pub read_place : length v ≤ i → at ≡ from + 4 * ones (length v₀) map
    read_place h = omega (arith, f.place, no_ones m (length v) i h)

-- ---- the values of numbers of a kind are made of those of the fields

pub values_made : {A : Type 0} (of : ℕ → A) (ds : List ℕ) (m : ℕ) (s : List ℕ) → values_as of (map of ds) m s ≡ map of (values_at (number_fields ds) m s)
unfolding values_as values_at number_fields
values_made of [] m s = refl
values_made of (d ∷ ds) m s = go (eqb (m % 2) 1) (λ (r : List ℕ). values_made of ds (m / 2) r)
  where
    go : (b : Bool) → ((r : List ℕ) → values_as of (map of ds) (m / 2) r ≡ map of (values_at (number_fields ds) (m / 2) r))
        → cond b (of (number_at 4 s) ∷ values_as of (map of ds) (m / 2) (drop 4 s)) (of d ∷ values_as of (map of ds) (m / 2) s)
        ≡ map of (cond b (number_at 4 s ∷ values_at (number_fields ds) (m / 2) (drop 4 s)) (d ∷ values_at (number_fields ds) (m / 2) s))
    go true ih = ap (λ (l : List _). of (number_at 4 s) ∷ l) (ih (drop 4 s))
    go false ih = ap (λ (l : List _). of d ∷ l) (ih s)

-- and those of u32s are the fields' own
pub values_same : (ds : List ℕ) (m : ℕ) (s : List ℕ) → values_as (λ (n : ℕ). n) ds m s ≡ values_at (number_fields ds) m s
values_same ds m s =
    ap (λ (l : List ℕ). values_as (λ (n : ℕ). n) l m s) (sym (map-id ds)) ∙ values_made (λ (n : ℕ). n) ds m s ∙ map-id (values_at (number_fields ds) m s)

-- ---- writing

-- bytes put from a place on, and then more after them
pub put_more : (out : List ℕ) (at n : ℕ) (a b : List ℕ) → length a ≡ n → at + n ≤ length out
    → put_at (take at out ++ (a ++ drop n (drop at out))) (at + n) b ≡ put_at out at (a ++ b)
put_more out at n a b l h =
    let front : length (take at out ++ a) ≡ at + n = simp length-append (omega (arith, length-take-le at out (omega arith))) in
    let whole : take at out ++ (a ++ drop n (drop at out)) ≡ (take at out ++ a) ++ drop n (drop at out) = sym (append_assoc (take at out) a _) in
    let first : take (at + n) (take at out ++ (a ++ drop n (drop at out))) ≡ take at out ++ a = rw whole (take_at (take at out ++ a) (drop n (drop at out)) (at + n) front) in
    let last : drop (at + n) (take at out ++ (a ++ drop n (drop at out))) ≡ drop (at + n) out =
    rw whole (drop_at (take at out ++ a) (drop n (drop at out)) (at + n) front ∙ drop-drop n at out) in
    let tail : drop (at + n + length b) (take at out ++ (a ++ drop n (drop at out))) ≡ drop (at + n + length b) out =
    sym (drop-drop (length b) (at + n) _) ∙ ap (drop (length b)) last ∙ drop-drop (length b) (at + n) out in
    let size : at + length (a ++ b) ≡ at + n + length b = simp length-append (omega arith) in
    rw (first, tail, size, append_assoc (take at out) a _, append_assoc a b _) refl

-- no byte put
pub put_none : (out : List ℕ) (at : ℕ) → out ≡ put_at out at []
put_none out at = sym (rw (add-zero at) (take-append-drop at out))

-- bytes put from a place on, and then more from where they end
pub put_next : (p : List ℕ) (at n : ℕ) (a b : List ℕ) {q r : List ℕ} → q ≡ put_at p at a → n ≡ at + length a
    → n ≤ length p → r ≡ put_at q n b → r ≡ put_at p at (a ++ b)
put_next p at n a b eq en h er =
    let whole = eq ∙ ap (λ (l : List ℕ). take at p ++ (a ++ l)) (sym (drop-drop (length a) at p)) in
    er ∙ rw (whole, en) (put_more p at (length a) a b refl (omega arith))

-- a part from a place on, lent and come back with n bytes at its front
pub put_front : (out p : List ℕ) (at n : ℕ) (bs : List ℕ) → length bs ≡ n → at ≤ length out → p ≡ bs ++ drop n (take (length out - at) (drop at out))
    → put_mid at (length out - at) out p ≡ put_at out at bs
put_front out p at n bs l h e = rest_back out p at h ∙ rw (e, rest_is out at, ← l, drop-drop (length bs) at out)

-- a part from a place on, lent and come back with bytes at its front
pub put_lent : (out p : List ℕ) (at : ℕ) (bs : List ℕ) → at ≤ length out → p ≡ put_at (take (length out - at) (drop at out)) 0 bs
    → put_mid at (length out - at) out p ≡ put_at out at bs
put_lent out p at bs h e =
    let z : 0 + length bs ≡ length bs = omega arith in
    rest_back out p at h ∙ rw (e, rest_is out at, z, drop-drop (length bs) at out)

-- bytes at the front of a part, and then more after them
pub put_after : (n : ℕ) (p₀ p₁ p₂ a b : List ℕ) → length a ≡ n → n ≤ length p₀ → p₁ ≡ a ++ drop n p₀
    → p₂ ≡ put_at p₁ n b → p₂ ≡ put_at p₀ 0 (a ++ b)
put_after n p₀ p₁ p₂ a b l h e₁ e₂ =
    let z : 0 + n ≡ n = omega arith in
    e₂ ∙ rw e₁ (rw z at (put_more p₀ 0 n a b l (omega arith)))

-- the fields of `write_values`; what a missing one means is of no account
abbrev Body : ℕ → List ℕ → List ℕ
Body m v = body_of (number_fields v) m v

-- where no bit stands, no byte is written
pub body_of_0 : (fs : List Field) (vs : List ℕ) → body_of fs 0 vs ≡ []
unfolding body_of
body_of_0 [] vs = refl
body_of_0 (f ∷ fs) [] = refl
body_of_0 (f ∷ fs) (v ∷ vs) = body_of_0 fs vs

-- where no bit stands above those of the first fields, the others have no bytes
pub body_front : (us vs : List ℕ) (m : ℕ) → m < 2 ^ length us → Body m (us ++ vs) ≡ Body m us
unfolding body_of number_fields
body_front [] vs m h = rw (no_bit m h) (body_of_0 (number_fields vs) vs)
body_front (u ∷ us) vs m h = ap (λ (l : List ℕ). cond (eqb (m % 2) 1) (bytes_of 4 u) [] ++ l) (body_front us vs (m / 2) (half_below (length us) m h))

pub write_none : (out v : List ℕ) (from map : ℕ) → map ≡ 0 → (out ≡ put_at out from (body_of (number_fields v) map v)) × (from ≡ from + 4 * ones (length v) map)
write_none out v from map z = (rw (z, body_of_0 (number_fields v) v) (put_none out from), rw (z, ones_of_0 (length v)) (omega arith))

-- what holds in each turn of `write_values`
pub record Writing (out₀ : List ℕ) (from map : ℕ) (v : List ℕ) (out : List ℕ) (at m i : ℕ) : Type 0 where
  pub below : i ≤ length v
  pub long : length out ≡ length out₀
  pub is : put_at out at (body_of (number_fields (drop i v)) m (drop i v)) ≡ put_at out₀ from (body_of (number_fields v) map v)
  pub place : at + 4 * ones (length v - i) m ≡ from + 4 * ones (length v) map
  pub room : from + 4 * ones (length v) map ≤ length out₀

module _ {out₀ : List ℕ} {from map : ℕ} {v : List ℕ} {out : List ℕ} {at m i : ℕ} (f : Writing out₀ from map v out at m i) where
  pub write_room : i < length v → m % 2 ≡ 1 → at + 4 ≤ length out
  write_room h b = omega (arith, f.place, f.room, f.long, ones_step m (length v) i h)

  pub write_part : i < length v → m % 2 ≡ 1 → 4 ≤ length (take (length out - at) (drop at out))
  write_part h b = rw (rest_is out at) (simp length-drop (omega (arith, write_room h b)))

  body_writes : i < length v → m % 2 ≡ 1 → Body m (drop i v) ≡ bytes_of 4 (get_or v i 0) ++ Body (m / 2) (drop (i + 1) v)
  unfolding body_of number_fields
  body_writes h b = rw (drop-cons v i 0 h, eq-eqb _ _ b, add-one i)

  body_skips : i < length v → (m % 2 ≡ 1 → ⊥) → Body m (drop i v) ≡ Body (m / 2) (drop (i + 1) v)
  unfolding body_of number_fields
  body_skips h b = rw (drop-cons v i 0 h, ne_eqb _ _ b, add-one i)

  pub write_turn : i < length v → m % 2 ≡ 1 → (p : List ℕ) → p ≡ bytes_of 4 (get_or v i 0) ++ drop 4 (take (length out - at) (drop at out))
      → Writing out₀ from map v (take at out ++ p) (at + 4) (m / 2) (i + 1)
  write_turn h b p e =
      let r : at + 4 ≤ length out = write_room h b in
      let l : length (bytes_of 4 (get_or v i 0)) ≡ 4 = bytes_long 4 (get_or v i 0) in
      record {
        below = omega arith;
        long = rw (e, rest_is out at) (simp (length-append, length-drop) (omega (arith, length-take-le at out (omega arith), l, f.long)));
        is = rw (e, rest_is out at) (put_more out at 4 (bytes_of 4 (get_or v i 0)) (Body (m / 2) (drop (i + 1) v)) l r ∙ ap (put_at out at) (sym (body_writes h b)) ∙ f.is);
        place = omega (arith, f.place, ones_step m (length v) i h);
        room = f.room;
      }

  pub write_skips : i < length v → (m % 2 ≡ 1 → ⊥) → Writing out₀ from map v out at (m / 2) (i + 1)
  write_skips h b =
      let z : m % 2 ≡ 0 = not_one (m % 2) b (mod-lt m (lit< tt)) in
      record {
        below = omega arith;
        long = f.long;
        is = ap (put_at out at) (sym (body_skips h b)) ∙ f.is;
        place = omega (arith, f.place, ones_step m (length v) i h);
        room = f.room;
      }

  body_done : length v ≤ i → Body m (drop i v) ≡ []
  unfolding body_of number_fields
  body_done h = rw (drop_of_length-le v h)

  pub write_done : length v ≤ i → out ≡ put_at out₀ from (Body map v)
  write_done h = sym (rw (body_done h, add-zero at) (take-append-drop at out)) ∙ f.is

  pub write_place : length v ≤ i → at ≡ from + 4 * ones (length v) map
  write_place h = omega (arith, f.place, no_ones m (length v) i h)

-- ---- the byte count

-- of fields that are numbers
pub size_numbers : (ds : List ℕ) (m : ℕ) → size_of (number_fields ds) m ≡ 4 * ones (length ds) m
unfolding size_of number_fields ones
size_numbers [] m = refl
size_numbers (d ∷ ds) m = go (eqb (m % 2) 1) refl (size_numbers ds (m / 2))
  where
    go : (b : Bool) → eqb (m % 2) 1 ≡ b → size_of (number_fields ds) (m / 2) ≡ 4 * ones (length ds) (m / 2)
        → cond b 4 0 + size_of (number_fields ds) (m / 2) ≡ 4 * (m % 2 + ones (length ds) (m / 2))
    go true e ih = omega (arith, eqb-true (m % 2) 1 e)
    go false e ih = let z : m % 2 ≡ 0 = not_one (m % 2) (eqb-false _ _ e) (mod-lt m (lit< tt)) in omega arith

-- of the bytes that are written
pub body_long : (fs : List Field) (vs : List ℕ) (m : ℕ) → length vs ≡ length fs → length (body_of fs m vs) ≡ size_of fs m
unfolding body_of size_of
body_long [] vs m h = refl
body_long (f ∷ fs) [] m h = absurd (omega arith)
body_long (f ∷ fs) (v ∷ vs) m h = go (eqb (m % 2) 1) (body_long fs vs (m / 2) (omega arith))
  where
    go : (b : Bool) → length (body_of fs (m / 2) vs) ≡ size_of fs (m / 2)
        → length (cond b (bytes_of f.bytes v) [] ++ body_of fs (m / 2) vs) ≡ cond b f.bytes 0 + size_of fs (m / 2)
    go true ih = length-append (bytes_of f.bytes v) (body_of fs (m / 2) vs) ∙ omega (arith, bytes_long f.bytes v)
    go false ih = omega arith

pub numbers_long : (ds : List ℕ) → length (number_fields ds) ≡ length ds
unfolding number_fields
numbers_long [] = refl
numbers_long (d ∷ ds) = ap suc (numbers_long ds)

-- one value for each field
pub values_long : (fs : List Field) (m : ℕ) (s : List ℕ) → length (values_at fs m s) ≡ length fs
unfolding values_at
values_long [] m s = refl
values_long (f ∷ fs) m s = go (eqb (m % 2) 1) (λ (r : List ℕ). values_long fs (m / 2) r)
  where
    go : (b : Bool) → ((r : List ℕ) → length (values_at fs (m / 2) r) ≡ length fs)
        → length (cond b (number_at f.bytes s ∷ values_at fs (m / 2) (drop f.bytes s)) (f.missing ∷ values_at fs (m / 2) s)) ≡ suc (length fs)
    go true ih = ap suc (ih (drop f.bytes s))
    go false ih = ap suc (ih s)

pub body_numbers : (vs : List ℕ) (m : ℕ) → length (body_of (number_fields vs) m vs) ≡ 4 * ones (length vs) m
body_numbers vs m = body_long (number_fields vs) vs m (sym (numbers_long vs)) ∙ size_numbers vs m

-- what a missing field means is of no account to the bytes
pub body_missing : (ds vs : List ℕ) (m : ℕ) → length ds ≡ length vs → body_of (number_fields ds) m vs ≡ body_of (number_fields vs) m vs
unfolding body_of number_fields
body_missing [] [] m h = refl
body_missing [] (v ∷ vs) m h = absurd (omega arith)
body_missing (d ∷ ds) [] m h = absurd (omega arith)
body_missing (d ∷ ds) (v ∷ vs) m h = rw (body_missing ds vs (m / 2) (omega arith))

-- ---- the map

pub bit_small : (b : Bool) → bit_of b ≤ 1
bit_small true = omega arith
bit_small false = omega arith

-- what holds in each turn of `map_of`
pub record Mapping (keep : List Bool) (v missing : List ℕ) (m i : ℕ) : Type 0 where
  pub below : i ≤ length keep
  pub is : m ≡ map_of (number_fields (drop i missing)) (drop i keep) (drop i v)
  pub small : m < 2 ^ (length keep - i)

map_none : (fs : List Field) (v : List ℕ) → map_of fs [] v ≡ 0
unfolding map_of
map_none [] v = refl
map_none (f ∷ fs) v = refl

-- where no number after the first ones is written, the map is theirs
pub map_front : (ds es : List ℕ) (ks ls : List Bool) (us vs : List ℕ) → length ks ≡ length ds → length us ≡ length ds → map_of (number_fields es) ls vs ≡ 0
    → map_of (number_fields (ds ++ es)) (ks ++ ls) (us ++ vs) ≡ map_of (number_fields ds) ks us
unfolding map_of number_fields
map_front [] es [] ls [] vs lk lu z = z
map_front [] es (k ∷ ks) ls us vs lk lu z = absurd (omega arith)
map_front [] es [] ls (u ∷ us) vs lk lu z = absurd (omega arith)
map_front (d ∷ ds) es [] ls us vs lk lu z = absurd (omega arith)
map_front (d ∷ ds) es (k ∷ ks) ls [] vs lk lu z = absurd (omega arith)
map_front (d ∷ ds) es (k ∷ ks) ls (u ∷ us) vs lk lu z = rw (map_front ds es ks ls us vs (omega arith) (omega arith) z)

pub map_starts : (keep : List Bool) (v missing : List ℕ) → Mapping keep v missing 0 (length keep)
map_starts keep v missing =
    let z : length keep - length keep ≡ 0 = omega arith in
    record { below = omega arith; is = sym (rw (drop-length keep) (map_none _ _)); small = rw z (lit< tt) }

module _ {keep : List Bool} {v missing : List ℕ} {m i : ℕ} (f : Mapping keep v missing m i) (lv : length v ≡ length keep) (ld : length missing ≡ length keep) where
  map_step : (j : ℕ) → suc j ≡ i
      → map_of (number_fields (drop j missing)) (drop j keep) (drop j v)
      ≡ bit_of (is_written (get_or keep j false) (get_or v j 0) (get_or missing j 0))
      + 2 * map_of (number_fields (drop i missing)) (drop i keep) (drop i v)
  unfolding map_of number_fields
  map_step j e = rw (← e, drop-cons keep j false (omega (arith, f.below)), drop-cons v j 0 (omega (arith, f.below)), drop-cons missing j 0 (omega (arith, f.below)))

  pub map_fits : length keep ≤ 40 → m < 2 ^ 40
  map_fits h = lt_of_lt_of_le f.small (pow_mono {i = length keep - i} {j = 40} (omega arith))

  pub map_turn : 0 < i → (b : ℕ) → b ≡ bit_of (is_written (get_or keep (i - 1) false) (get_or v (i - 1) 0) (get_or missing (i - 1) 0)) → Mapping keep v missing (2 * m + b) (i - 1)
  map_turn h b e =
      record {
        below = omega (arith, f.below);
        is = omega (arith, map_step (i - 1) (omega arith), e, f.is);
        small =
            let q : length keep - (i - 1) ≡ suc (length keep - i) = omega (arith, f.below) in
            rw (q, pow-suc 2 (length keep - i)) (omega (arith, f.small, e, bit_small (is_written (get_or keep (i - 1) false) (get_or v (i - 1) 0) (get_or missing (i - 1) 0))));
      }

pub map_done : {keep : List Bool} {v missing : List ℕ} {m i : ℕ} → Mapping keep v missing m i → length v ≡ length keep
    → length missing ≡ length keep → length keep ≤ 40 → i ≤ 0
    → (m ≡ map_of (number_fields missing) keep v) × (m < 2 ^ length keep) × (m < 2 ^ 40)
map_done {keep} {v} {missing} {m} {i} f lv ld h k =
    let z : i ≡ 0 = omega arith in
    let s : length keep - i ≡ length keep = omega arith in
    (rw z at f.is, rw s at f.small, map_fits f lv ld h)
