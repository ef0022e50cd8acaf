-- What is left after striking has nothing to strike. Assumes nothing.
use mathlib.Core.Path.{◌≡◌, refl, sym, ap, ◌∙◌}
use mathlib.Core.Bool.{Bool, true, false, cond, ◌&&◌, ◌||◌}
use mathlib.Core.List.{List, [], ◌∷◌}
use Prim.Native.Nat.{ℕ, suc}
use native.Mathlib.Omega.{arith}
use lib.ListN.{length}
use lib.Ieee.{Float}
use Rattle.laws.specs.Config.{validate}
use Rattle.laws.specs.declared.config.PlaneGuidanceConfig.{PlaneGuidanceConfig}
use Rattle.laws.specs.declared.types.ControlInput.{ControlInput}
use Rattle.laws.specs.declared.types.ControlInput.TheVariants as Input
use Rattle.laws.specs.declared.types.VehicleState.{VehicleState}
use Rattle.guidance.specs.Plane.{fresh, vertical_law}
use Rattle.guidance.specs.declared.plane.PlaneGuidance.{PlaneGuidance}
use Rattle.guidance.specs.declared.plane.VerticalLaw.{VerticalLaw}
use Rattle.guidance.specs.declared.plane.VerticalLaw.TheVariants.{Energy, Hold, Fallback}
use Rattle.claims.specs.Calls.{Call, guide, prime, set_config, take_back, Reply, perform, refused, replies, refusals, law_is, is_hold, is_fallback, fell_back, struck, strikes, unmarked, marks}
use Rattle.claims.proofs.Demand3.{demand3}

-- no mark at all
unfoldable pub no_marks : {A : Type 0} → List A → List Bool
no_marks [] = []
no_marks (x ∷ xs) = false ∷ no_marks xs

pub unmarked_none : {A B : Type 0} (xs : List A) (ys : List B) → length xs ≡ length ys → unmarked (no_marks xs) ys ≡ ys
unfolding unmarked no_marks
unmarked_none [] ys e = refl
unmarked_none (x ∷ xs) [] e = absurd (omega arith)
unmarked_none (x ∷ xs) (y ∷ ys) e = ap (λ l. y ∷ l) (unmarked_none xs ys (omega arith))

-- a hold is no fallback
not_both : (l : VerticalLaw) → is_hold l ≡ true → is_fallback l ≡ false
not_both Energy e = refl
not_both Hold e = refl
not_both Fallback e = let z : ◌≡◌ {A = ℕ} 0 1 = cc in absurd (omega arith)

held_not_fallen : (dt : Float) (i : ControlInput) (s : VehicleState) → law_is is_hold dt i s ≡ true → law_is is_fallback dt i s ≡ false
held_not_fallen dt (Input.Attitude k) s e = refl
held_not_fallen dt (Input.Rate k) s e = refl
held_not_fallen dt (Input.Waypoint w) s e = not_both (vertical_law dt w s) e
held_not_fallen dt (Input.AbsoluteAttitude k) s e = refl
held_not_fallen dt Input.Land s e = refl
held_not_fallen dt (Input.AbsoluteRate k) s e = refl

-- a struck call does not change what came before
fell_stays : (before : Bool) (k : Call) (r : Bool) → struck before k r ≡ true → fell_back before k r ≡ before
fell_stays before k true e = refl
fell_stays true (guide dt regime i s cap) false e = go (law_is is_hold dt i s) e
  where
    go : (b : Bool) → false || (b && false) ≡ true → law_is is_fallback dt i s ≡ true
    go true q = let z : ◌≡◌ {A = ℕ} 0 1 = cc in absurd (omega arith)
    go false q = let z : ◌≡◌ {A = ℕ} 0 1 = cc in absurd (omega arith)
fell_stays false (guide dt regime i s cap) false e = go (law_is is_hold dt i s) refl e
  where
    go : (b : Bool) → law_is is_hold dt i s ≡ b → false || (b && true) ≡ true → law_is is_fallback dt i s ≡ false
    go true q e = held_not_fallen dt i s q
    go false q e = let z : ◌≡◌ {A = ℕ} 0 1 = cc in absurd (omega arith)
fell_stays before prime false e = let z : ◌≡◌ {A = ℕ} 0 1 = cc in absurd (omega arith)
fell_stays before (set_config c) false e = refl
fell_stays before take_back false e = refl

-- striking what is left marks nothing
strikes_again : (before : Bool) (ks : List Call) (rs : List Bool) → length rs ≡ length ks
    → let ms = strikes before ks rs in strikes before (unmarked ms ks) (unmarked ms rs) ≡ no_marks (unmarked ms ks)
unfolding strikes unmarked no_marks
strikes_again before [] [] h = refl
strikes_again before [] (r ∷ rs) h = absurd (omega arith)
strikes_again before (k ∷ ks) [] h = absurd (omega arith)
strikes_again before (k ∷ ks) (r ∷ rs) h = go (struck before k r) refl (strikes_again (fell_back before k r) ks rs (omega arith))
  where
    Rest : List Bool
    Rest = strikes (fell_back before k r) ks rs

    go : (b : Bool) → struck before k r ≡ b → strikes (fell_back before k r) (unmarked Rest ks) (unmarked Rest rs) ≡ no_marks (unmarked Rest ks)
        → strikes before (cond b (unmarked Rest ks) (k ∷ unmarked Rest ks)) (cond b (unmarked Rest rs) (r ∷ unmarked Rest rs))
        ≡ no_marks (cond b (unmarked Rest ks) (k ∷ unmarked Rest ks))
    go true e ih = ap (λ (b : Bool). strikes b (unmarked Rest ks) (unmarked Rest rs)) (sym (fell_stays before k r e)) ∙ ih
    go false e ih = λ i. e i ∷ ih i

refusals_unmarked : (ms : List Bool) (rs : List Reply) → refusals (unmarked ms rs) ≡ unmarked ms (refusals rs)
unfolding refusals unmarked
refusals_unmarked [] rs = refl
refusals_unmarked (m ∷ ms) [] = refl
refusals_unmarked (true ∷ ms) (r ∷ rs) = refusals_unmarked ms rs
refusals_unmarked (false ∷ ms) (r ∷ rs) = ap (λ (l : List Bool). refused r ∷ l) (refusals_unmarked ms rs)

refusals_long : (g : PlaneGuidance) (ks : List Call) → length (refusals (replies g ks)) ≡ length ks
unfolding replies refusals
refusals_long g [] = refl
refusals_long g (k ∷ ks) = ap suc (refusals_long (perform g k).next ks)

-- nothing of a run's remaining calls is struck
pub marks_again : (c : PlaneGuidanceConfig) → validate c ≡ 0 → (ks : List Call)
    → let ms = marks (fresh c) ks in marks (fresh c) (unmarked ms ks) ≡ no_marks (unmarked ms ks)
marks_again c v ks =
    let ms = marks (fresh c) ks in
    rw ((demand3 c v ks).struck, refusals_unmarked ms (replies (fresh c) ks)) (strikes_again false ks (refusals (replies (fresh c) ks)) (refusals_long (fresh c) ks))
