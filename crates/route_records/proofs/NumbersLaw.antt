-- Laws of the loops over a route's numbers. Assumes nothing.
use mathlib.Core.Path.{◌≡◌, refl, sym, ap, ◌∙◌}
use mathlib.Core.Bool.{Bool, ◌&&◌}
use mathlib.Core.List.{List, [], ◌∷◌, ◌++◌, map}
use Prim.Native.Nat.{ℕ, zero, suc, ◌+◌, ◌-◌, ◌*◌, ◌<◌, ◌≤◌}
use native.Mathlib.Omega.{arith}
use native.Mathlib.Numerals.{add-one}
use native.Mathlib.Nat.{add-zero}
use lib.ListN.{length, drop, take, get_or, length-append, length-drop, drop_of_length-le, take-append-drop}
use lib.Seq.{drop-cons, length-take-le}
use lib.Ieee.{Float, nan, binary32, to_bits}
use Rattle.std.specs.List.{list_all}
use Rattle.arithmetic.specs.Order.{finite}
use Rattle.fields.specs.Bytes.{bytes_of, put_at}
use Rattle.fields.proofs.NumberLaw.{bytes_long}
use Rattle.fields.proofs.FieldLaw.{rest_is, put_more}
use Rattle.fields.specs.Numbers.{numbers_at}
use Rattle.route_records.specs.Record.{all_finite, number_bytes}

pub numbers_long : (n : ℕ) (s : List ℕ) → length (numbers_at n s) ≡ n
unfolding numbers_at
numbers_long zero s = refl
numbers_long (suc n) s = ap suc (numbers_long n (drop 4 s))

-- ---- whether all are finite

-- of f32s that are made of others' values
pub all_finite_made : {A : Type 0} (of : A → Float) (xs : List A) → list_all (λ (x : A). finite (of x)) xs ≡ all_finite (map of xs)
unfolding all_finite
all_finite_made of [] = refl
all_finite_made of (x ∷ xs) = ap (λ (b : Bool). finite (of x) && b) (all_finite_made of xs)

-- ---- writing

pub bytes_size : (xs : List Float) → length (number_bytes xs) ≡ 4 * length xs
unfolding number_bytes
bytes_size [] = refl
bytes_size (x ∷ xs) = length-append (bytes_of 4 (to_bits binary32 x)) (number_bytes xs) ∙ omega (arith, bytes_long 4 (to_bits binary32 x), bytes_size xs)

pub record Writing (out₀ : List ℕ) (from : ℕ) (xs : List Float) (out : List ℕ) (at i : ℕ) : Type 0 where
  pub below : i ≤ length xs
  pub long : length out ≡ length out₀
  pub is : put_at out at (number_bytes (drop i xs)) ≡ put_at out₀ from (number_bytes xs)
  pub place : at ≡ from + 4 * i
  pub room : from + 4 * length xs ≤ length out₀

module _ {out₀ : List ℕ} {from : ℕ} {xs : List Float} {out : List ℕ} {at i : ℕ} (w : Writing out₀ from xs out at i) where
  pub write_room : i < length xs → at + 4 ≤ length out
  write_room h = omega (arith, w.place, w.room, w.long)

  first : i < length xs → number_bytes (drop i xs) ≡ bytes_of 4 (to_bits binary32 (get_or xs i nan)) ++ number_bytes (drop (i + 1) xs)
  unfolding number_bytes
  first h = rw (drop-cons xs i nan h, add-one i)

  pub write_turn : i < length xs → (b : ℕ) → b ≡ to_bits binary32 (get_or xs i nan) → (p : List ℕ)
      → p ≡ bytes_of 4 b ++ drop 4 (take (length out - at) (drop at out)) → Writing out₀ from xs (take at out ++ p) (at + 4) (i + 1)
  write_turn h b eb p e =
      let fits = write_room h in
      let four : length (bytes_of 4 b) ≡ 4 = bytes_long 4 b in
      let is_p : p ≡ bytes_of 4 b ++ drop 4 (drop at out) = e ∙ rw (rest_is out at) in
      record {
        below = omega arith;
        long = rw is_p (simp (length-append, length-drop) (omega (arith, length-take-le at out (omega arith), four, w.long)));
        is = rw is_p (put_more out at 4 (bytes_of 4 b) (number_bytes (drop (i + 1) xs)) four fits ∙ rw eb (ap (put_at out at) (sym (first h)) ∙ w.is));
        place = omega (arith, w.place);
        room = w.room;
      }

  none : length xs ≤ i → number_bytes (drop i xs) ≡ []
  unfolding number_bytes
  none h = rw (drop_of_length-le xs h)

  pub write_done : length xs ≤ i → out ≡ put_at out₀ from (number_bytes xs)
  write_done h = sym (rw (none h, add-zero at) (take-append-drop at out)) ∙ w.is
