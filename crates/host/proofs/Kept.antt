-- A guide or prime call keeps the configuration in force and the kept one, whoever sends it. And
-- the code's branch for changes is the definition.
-- Assumes nothing.
use Rattle.std.proofs.Common.{ℕ, Bool, true, false, cond, not, T, eqb, List, ◌≡◌, refl, ap, ◌∙◌, Result, Ok, Err}
use Rattle.std.specs.Prelude.{⊤}
use Rattle.refusals.specs.declared.Refusal.{Refusal}
use Rattle.refusals.specs.declared.Refusal.TheVariants as why
use borrow.Author.Tests.{eqb-true}
use Rattle.laws.specs.declared.config.InvalidConfig.{InvalidConfig}
use Rattle.laws.specs.declared.config.PlaneGuidanceConfig.{PlaneGuidanceConfig}
use Rattle.laws.specs.Config.{validate, judged}
use Rattle.guidance.specs.Plane.{cleared, primed, taken_over, with_config, configured}
use Rattle.guidance.proofs.plane.Kept.{guided_keeps}
use Rattle.claims.specs.Calls.{set_config, configured_by, perform}
use Rattle.host_answers.specs.Answer.{of_field, of_reply}
use Rattle.guidance.specs.declared.plane.PlaneGuidance.{PlaneGuidance}
use Rattle.records.specs.Call.{read_call}
use Rattle.records.specs.declared.call.Call.{Call}
use Rattle.records.specs.declared.call.Call.TheVariants.{Prime, Attitude, Rate, Waypoint, AbsoluteAttitude, Land, AbsoluteRate}
use Rattle.records.specs.declared.call.ReadCall.{ReadCall}
use Rattle.calls.specs.Calls.{call_of}
use Rattle.rights.specs.Rights.{may}
use Rattle.rights.specs.declared.Deed.{Deed}
use Rattle.rights.specs.declared.Deed.TheVariants as deed
use Rattle.host.specs.Run.{of_call, refused, performed, made, run_call, run_config, run_new, run_back, run, deed_of, run_by}
use Rattle.host.specs.Code.Dispatch.{change, change_by}
use Rattle.host.specs.declared.run.Ran.{Ran}

call_keeps : (g : PlaneGuidance) (k : Call) → taken_over g (perform g (call_of k)).next ≡ (perform g (call_of k)).next
unfolding perform primed cleared
call_keeps g Prime = refl
call_keeps g (Attitude r dt c) = guided_keeps g dt r _ _ _
call_keeps g (Rate r dt c) = guided_keeps g dt r _ _ _
call_keeps g (Waypoint r dt c s cap) = guided_keeps g dt r _ s cap
call_keeps g (AbsoluteAttitude r dt c) = guided_keeps g dt r _ _ _
call_keeps g (Land r dt) = guided_keeps g dt r _ _ _
call_keeps g (AbsoluteRate r dt c) = guided_keeps g dt r _ _ _

read_keeps : (g : PlaneGuidance) (r : Result ReadCall Refusal) → taken_over g (of_call g r).guidance ≡ (of_call g r).guidance
unfolding performed
read_keeps g (Err why) = refl
read_keeps g (Ok r) = call_keeps g r.call

run_keeps : (g : PlaneGuidance) (bytes : List ℕ) → taken_over g (run g 0 bytes).guidance ≡ (run g 0 bytes).guidance
unfolding run run_call
run_keeps g bytes = read_keeps g (read_call bytes 0)

pub run_by_keeps : (g : PlaneGuidance) (caller : ℕ) (bytes : List ℕ) → taken_over g (run_by g caller 0 bytes).guidance ≡ (run_by g caller 0 bytes).guidance
unfolding run_by
run_by_keeps g caller bytes = go (may caller (deed_of 0))
  where
    go : (b : Bool) → let r = cond b (run g 0 bytes) (refused g why.NoRight) in taken_over g r.guidance ≡ r.guidance
    go true = run_keeps g bytes
    go false = refl

-- what `nuthkolla_run` leaves after a call
pub taken : (g : PlaneGuidance) (caller : ℕ) (bytes : List ℕ) (r : Ran) → r ≡ run_by g caller 0 bytes
    → taken_over g r.guidance ≡ (run_by g caller 0 bytes).guidance
taken g caller bytes r e = ap (λ (y : Ran). taken_over g y.guidance) e ∙ run_by_keeps g caller bytes

-- where the number is not 0
pub change_run : (g : PlaneGuidance) (caller what : ℕ) (bytes : List ℕ) → eqb what 0 ≡ false → change_by g caller what bytes ≡ run_by g caller what bytes
unfolding change_by run_by run deed_of
change_run g caller what bytes z = rw z (go (eqb what 1) (eqb what 2) (eqb what 3))
  where
    asked : Bool → Bool → Bool → Deed
    asked a b c = cond a deed.SetConfig (cond b deed.New (cond c deed.TakeBack deed.Other))

    go : (a b c : Bool) →
        cond (may caller (asked a b c)) (change g (asked a b c) bytes) (refused g why.NoRight)
        ≡ cond (may caller (asked a b c)) (cond a (run_config g bytes) (cond b (run_new g bytes) (cond c (run_back g) (refused g why.UnknownRequest)))) (refused g why.NoRight)
    go true b c = refl
    go false true c = refl
    go false false true = refl
    go false false false = refl

-- the same, by a proof that the number is not 0
pub change_is_run : (g : PlaneGuidance) (caller what : ℕ) (bytes : List ℕ) → T (not (eqb what 0)) → change_by g caller what bytes ≡ run_by g caller what bytes
change_is_run g caller what bytes z = change_run g caller what bytes (not_zero (eqb what 0) z)
  where
    not_zero : (b : Bool) → T (not b) → b ≡ false
    not_zero false z = refl
    not_zero true z = absurd z

-- a configuration that is set: the code judges it by its result, demand 3's call by its field
pub set_is : (g : PlaneGuidance) (c : PlaneGuidanceConfig) (next : ℕ) → made g (configured g c) next ≡ performed g (set_config c) next
unfolding performed perform configured of_field
set_is g c next = go (eqb (validate c) 0) refl
  where
    go : (b : Bool) → eqb (validate c) 0 ≡ b →
        made g (cond b (Ok (with_config g c)) (Err (record { field = validate c }))) next
        ≡ record {
          guidance = (configured_by g (cond b (Ok (with_config g c)) (Err (record { field = validate c })))).next;
          answer = of_reply (configured_by g (cond b (Ok (with_config g c)) (Err (record { field = validate c })))).reply next;
        }
    go true e = refl
    go false e = rw e

abbrev pub field_of : Result ⊤ InvalidConfig → ℕ
field_of (Ok t) = 0
field_of (Err e) = e.field

pub judged_field : (c : PlaneGuidanceConfig) → validate c ≡ field_of (judged c)
unfolding judged
judged_field c = go (eqb (validate c) 0) refl
  where
    go : (b : Bool) → eqb (validate c) 0 ≡ b → validate c ≡ field_of (cond b (Ok tt) (Err (record { field = validate c })))
    go true e = eqb-true (validate c) 0 e
    go false e = refl
