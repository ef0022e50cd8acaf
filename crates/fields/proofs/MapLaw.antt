-- Lists of f32s and their bits: a loop that applies a function to each number of a list. Assumes nothing.
use mathlib.Core.Path.{◌≡◌, sym, ◌∙◌}
use mathlib.Core.List.{List, [], ◌++◌, append-nil, map, map-append}
use Prim.Native.Nat.{ℕ, ◌≤◌}
use native.Mathlib.Omega.{arith}
use lib.ListN.{length, drop, take, length-map, drop_of_length-le}
use lib.Ieee.{Float, binary32, of_bits, to_bits}
use lib.Seq.{take_all}
use Rattle.std.proofs.lemmas.List.{drop-map}
use Rattle.fields.specs.Numbers.{floats_of, bits_of}

module _ {A B : Type 0} (f : A → B) (d : A) where
  -- what holds in each turn: the first i numbers of the result are there
  pub record Mapped (xs : List A) (ys : List B) (i : ℕ) : Type 0 where
    pub below : i ≤ length xs
    pub long : length ys ≡ length xs
    pub is : take i ys ++ map f (drop i xs) ≡ map f xs

  module _ {xs : List A} {ys : List B} {i : ℕ} (m : Mapped xs ys i) where
    pub done : length xs ≤ i → ys ≡ map f xs
    done h =
        let all : take i ys ≡ ys = take_all i ys (omega (arith, m.long)) in
        let none : drop i xs ≡ [] = drop_of_length-le xs h in
        sym (rw (all, none) (append-nil ys)) ∙ m.is

pub bits_length : (xs : List Float) → length (bits_of xs) ≡ length xs
unfolding bits_of
bits_length xs = length-map xs (to_bits binary32)

pub floats_length : (ns : List ℕ) → length (floats_of ns) ≡ length ns
unfolding floats_of
floats_length ns = length-map ns (of_bits binary32)

-- ---- parts of a list

pub floats_joined : (ms ns : List ℕ) → floats_of (ms ++ ns) ≡ floats_of ms ++ floats_of ns
unfolding floats_of
floats_joined ms ns = map-append (of_bits binary32) ms ns

pub bits_joined : (xs ys : List Float) → bits_of (xs ++ ys) ≡ bits_of xs ++ bits_of ys
unfolding bits_of
bits_joined xs ys = map-append (to_bits binary32) xs ys

pub bits_drop : (n : ℕ) (xs : List Float) → drop n (bits_of xs) ≡ bits_of (drop n xs)
unfolding bits_of
bits_drop n xs = drop-map (to_bits binary32) n xs
