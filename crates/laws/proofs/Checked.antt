-- How the configuration's answer comes from its parts: one field's check, and what follows where none of a part failed.
use Rattle.std.proofs.Common.{ℕ, suc, Bool, true, false, cond, eqb, List, [], ◌∷◌, Ok, Err, ◌≡◌, refl, sym, rules, tests}
use Rattle.laws.specs.Config.{checked, first_failing, first_tests, tecs_tests, last_tests, tecs_validate, validate}
use Rattle.laws.specs.declared.config.PlaneGuidanceConfig.{PlaneGuidanceConfig}
use Rattle.laws.specs.declared.config.InvalidConfig.{InvalidConfig}

pub passed : (n : ℕ) (b : Bool) → Ok tt ≡ checked n b → b ≡ true
passed n true h = refl
passed n false h = cc

pub failed : (n : ℕ) (b : Bool) (e : InvalidConfig) → Err e ≡ checked n b → b ≡ false
failed n true e h = cc
failed n false e h = refl

pub named : (n : ℕ) (b : Bool) (e : InvalidConfig) → Err e ≡ checked n b → record { field = n } ≡ e
named n true e h = cc
named n false e h = cc

pub ruleset checks = (passed, failed, named)

-- the first failing field of tests, or else what follows them
follows :
    (n : ℕ) (bs : List Bool) (rest : ℕ) →
    first_failing (suc n) bs rest ≡ cond (eqb (first_failing (suc n) bs 0) 0) rest (first_failing (suc n) bs 0)
unfolding first_failing
follows n [] rest = refl
follows n (true ∷ bs) rest = follows (suc n) bs rest
follows n (false ∷ bs) rest = rw (not_zero n)
  where
    not_zero : (n : ℕ) → eqb (suc n) 0 ≡ false
    not_zero n = search (rules, tests)

pub parts :
    (c : PlaneGuidanceConfig) →
    validate c
    ≡ cond (eqb (first_failing 1 (first_tests c) 0) 0)
    (cond (eqb (tecs_validate c.tecs) 0) (first_failing 31 (last_tests c) 0) (tecs_validate c.tecs))
    (first_failing 1 (first_tests c) 0)
unfolding validate tecs_validate first_failing
parts c = rw (sym (follows 14 (tecs_tests c.tecs) (first_failing 31 (last_tests c) 0))) (follows 0 (first_tests c) _)
