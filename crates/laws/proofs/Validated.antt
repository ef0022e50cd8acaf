-- What a valid configuration guarantees: the test of every field. And which of them the answer of `validate` names.
use Rattle.std.proofs.Common.{Ok, Err, eqb, eqb-true}
use Prim.Native.Nat.{ℕ, zero, suc}
use mathlib.Core.Path.{◌≡◌, refl}
use mathlib.Core.Bool.{Bool, true, false, not}
use mathlib.Core.List.{List, [], ◌∷◌}
use native.Mathlib.Omega.{arith}
use lib.Ieee.{Float, is_nan, lt, le}
use Rattle.arithmetic.specs.Constants.{n0}
use Rattle.arithmetic.proofs.Bounds.{never, and_left, right_number, lt_right, le_of_not_lt}
use Rattle.laws.specs.Config.{first_failing, ordered, tecs_tests, config_tests, tecs_validate, validate, judged, OrderedPairs}
use Rattle.laws.specs.declared.config.InvalidConfig.{InvalidConfig}
use Rattle.laws.specs.declared.config.TecsConfig.{TecsConfig}
use Rattle.laws.specs.declared.config.PlaneGuidanceConfig.{PlaneGuidanceConfig}
use Rattle.laws.proofs.Checked.{passed, failed, named}

-- the test at a place, counted from 0; past the end there is nothing to fail
abbrev pub at : ℕ → List Bool → Bool
at n [] = true
at zero (b ∷ bs) = b
at (suc n) (b ∷ bs) = at n bs

not_zero : {A : Type 0} {n : ℕ} → suc n ≡ 0 → A
not_zero h = absurd (omega arith)

none_fails : (n : ℕ) (bs : List Bool) → first_failing (suc n) bs 0 ≡ 0 → (i : ℕ) → at i bs ≡ true
unfolding first_failing
none_fails n [] h i = refl
none_fails n (true ∷ bs) h zero = refl
none_fails n (true ∷ bs) h (suc i) = none_fails (suc n) bs h i
none_fails n (false ∷ bs) h i = not_zero h

-- Field i of document 01, 1 to 33, or of document 02, 34 and 35, passes its test in a valid configuration.
pub valid_field : (c : PlaneGuidanceConfig) → validate c ≡ 0 → (i : ℕ) → at i (true ∷ config_tests c) ≡ true
unfolding validate
valid_field c h zero = refl
valid_field c h (suc i) = none_fails 0 (config_tests c) h i

-- Field 15 + i, in a valid energy configuration.
pub valid_tecs_field : (t : TecsConfig) → tecs_validate t ≡ 0 → (i : ℕ) → at i (tecs_tests t) ≡ true
unfolding tecs_validate
valid_tecs_field t h i = none_fails 14 (tecs_tests t) h i

-- Of two numbers the first is at most the second where it is not above it.
at_most : (x y : Float) → is_nan x ≡ false → is_nan y ≡ false → ordered x y ≡ true → le x y ≡ true
at_most x y p q h = go (lt y x) refl h
  where
    go : (b : Bool) → lt y x ≡ b → not b ≡ true → le x y ≡ true
    go true e h = never h
    go false e h = le_of_not_lt y x q p e

-- A valid configuration has both pairs ordered.
pub valid_ordered : (c : PlaneGuidanceConfig) → validate c ≡ 0 → OrderedPairs c
valid_ordered c h = record {
  airspeed =
      at_most c.tecs.min_airspeed_mps c.tecs.max_airspeed_mps (lt_right n0 _ (and_left (lt n0 c.tecs.min_airspeed_mps) _ (valid_field c h 25)))
      (lt_right n0 _ (and_left (lt n0 c.tecs.max_airspeed_mps) _ (valid_field c h 26))) (valid_field c h 34);
  thrust =
      at_most c.min_thrust c.max_thrust (right_number n0 _ (and_left (le n0 c.min_thrust) _ (valid_field c h 31)))
      (right_number n0 _ (and_left (le n0 c.max_thrust) _ (valid_field c h 32))) (valid_field c h 35);
}

-- ---- by what `validate` answers

pub valid_judged : (c : PlaneGuidanceConfig) → Ok tt ≡ judged c → validate c ≡ 0
unfolding judged
valid_judged c h = eqb-true (validate c) 0 (passed (validate c) _ h)

pub judged_valid : (c : PlaneGuidanceConfig) → validate c ≡ 0 → judged c ≡ Ok tt
unfolding judged
judged_valid c h = rw h

pub failed_judged : (c : PlaneGuidanceConfig) (e : InvalidConfig) → Err e ≡ judged c → eqb (validate c) 0 ≡ false
unfolding judged
failed_judged c e h = failed (validate c) _ e h

pub field_judged : (c : PlaneGuidanceConfig) (e : InvalidConfig) → Err e ≡ judged c → record { field = validate c } ≡ e
unfolding judged
field_judged c e h = named (validate c) _ e h
