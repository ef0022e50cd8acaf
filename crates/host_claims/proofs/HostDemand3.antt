-- Demand 3 of every list of inputs from a guidance that NEW made, whatever came before. Assumes nothing.
use Prim.Native.Nat.{ℕ}
use mathlib.Core.Path.{◌≡◌, sym, ap, subst, ◌∙◌}
use mathlib.Core.Bool.{true, false}
use mathlib.Core.List.{List, ◌∷◌, ◌++◌}
use Rattle.laws.specs.Config.{validate}
use Rattle.laws.specs.declared.config.PlaneGuidanceConfig.{PlaneGuidanceConfig}
use Rattle.guidance.specs.Plane.{fresh}
use Rattle.guidance.specs.declared.plane.PlaneGuidance.{PlaneGuidance}
use Rattle.claims.specs.Calls.{Call, perform, Reply, replies, after, marks, unmarked, starts_fresh, settings_of, fresh_with}
use Rattle.claims.specs.Calls as calls
use Rattle.claims.specs.Demand3 as calls-of
use Rattle.claims.proofs.Demand3.{demand3}
use Rattle.host_answers.specs.Answer.{bare}
use Rattle.host.specs.Run.{performed}
use Rattle.host_answers.specs.declared.answer.RunAnswer.{RunAnswer}
use Rattle.host.specs.declared.run.Ran.{Ran}
use Rattle.host_claims.specs.Inputs.{Input, a_call, a_fresh, meaning, run_on, answers, left, calls_of, OneList, refused, input_marks, told}
use Rattle.host_claims.specs.Demand3.{BesideFresh, HostDemand3}
use Rattle.host_claims.proofs.Told.{
  run_as,
  run_is,
  refused_is,
  answers_told,
  left_after,
  calls_left,
  told_left,
  still_one,
  one_before,
  one_after,
  one_rest,
  calls_next,
  calls_join,
  passes,
  fresh_next,
  answers_join,
}

struck_list : (c : PlaneGuidanceConfig) → validate c ≡ 0 → (is : List Input) → OneList is →
    answers (fresh c) (unmarked (input_marks (fresh c) is) is) ≡ unmarked (input_marks (fresh c) is) (answers (fresh c) is)
struck_list c e is n =
    let ms = input_marks (fresh c) is in
    answers_told (fresh c) (unmarked ms is) (still_one ms is n)
    ∙ ap (λ (ks : List Call). told (unmarked ms is) (replies (fresh c) ks)) (calls_left false (fresh c) is n)
    ∙ ap (told (unmarked ms is)) (demand3 c e (calls_of is)).struck
    ∙ told_left false (fresh c) is n

-- an input that is a call does what the call does
as_call : (g : PlaneGuidance) (i : Input) (k : Call) (next : ℕ) → meaning i ≡ a_call k next → run_on g i ≡ performed g k next
as_call g i k next e = run_is g i ∙ ap (run_as g) e

refused_too_lem : (g : PlaneGuidance) (i : Input) (k : Call) (next : ℕ) → meaning i ≡ a_call k next →
    calls.refused (perform g k).reply ≡ refused (run_on g i).answer
unfolding performed
refused_too_lem g i k next e = sym (ap (λ (o : Ran). refused o.answer) (as_call g i k next e) ∙ refused_is (perform g k).reply next)

-- calls beside a fresh guidance, and so the inputs that carry them
inputs_beside : (g : PlaneGuidance) (rest : List Input) → OneList rest → calls-of.BesideFresh g (calls_of rest) → BesideFresh g rest
inputs_beside g rest n b = record {
  valid = b.valid;
  kept_valid = b.kept_valid;
  same = answers_told g rest n ∙ ap (told rest) b.same ∙ sym (answers_told (fresh_with (settings_of g)) rest n);
}

fresh_at : (c : PlaneGuidanceConfig) → validate c ≡ 0 → (before : List Input) (i : Input) (rest : List Input) → OneList (before ++ (i ∷ rest)) →
    (k : Call) (next : ℕ) → meaning i ≡ a_call k next →
    let o = run_on (after (fresh c) (calls_of before)) i in
    starts_fresh k (refused o.answer) ≡ true → BesideFresh o.guidance rest
unfolding performed
fresh_at c e before i rest n k next is starts =
    let g = after (fresh c) (calls_of before) in
    let split : calls_of (before ++ (i ∷ rest)) ≡ calls_of before ++ (k ∷ calls_of rest) =
    calls_join before (i ∷ rest) ∙ ap (λ (ks : List Call). calls_of before ++ ks) (calls_next i (a_call k next) rest is) in
    let beside =
    (demand3 c e (calls_of (before ++ (i ∷ rest)))).fresh_start (calls_of before) k (calls_of rest) split
    (ap (starts_fresh k) (refused_too_lem g i k next is) ∙ starts) in
    subst (λ (o : Ran). BesideFresh o.guidance rest) (sym (as_call g i k next is))
    (inputs_beside (perform g k).next rest (one_rest i rest (one_after before (i ∷ rest) n)) beside)

pub host_demand3 : (c : PlaneGuidanceConfig) → validate c ≡ 0 → (inputs : List Input) → OneList inputs → HostDemand3 c inputs
host_demand3 c e inputs n = record {
  struck = struck_list c e inputs n;
  fresh_start = λ before i rest at k next is.
      let all : OneList (before ++ (i ∷ rest)) = subst OneList at n in
      subst (λ (g : PlaneGuidance). starts_fresh k (refused (run_on g i).answer) ≡ true → BesideFresh (run_on g i).guidance rest)
      (sym (left_after (fresh c) before (one_before before (i ∷ rest) all)))
      (fresh_at c e before i rest all k next is);
  as_replies = answers_told (fresh c) inputs n;
  limits = (demand3 c e (calls_of inputs)).limits;
}

-- Every list of inputs, on whatever guidance: an input that makes a fresh guidance starts a list of its own, and of that list
-- demand 3 holds up to the next such input.
pub every_list : (g : PlaneGuidance) (before : List Input) (i : Input) (inputs : List Input) (c : PlaneGuidanceConfig) (next : ℕ) →
    meaning i ≡ a_fresh c next → OneList inputs →
    (answers g (before ++ (i ∷ inputs)) ≡ answers g before ++ (bare 0 0 next ∷ answers (fresh c) inputs)) × HostDemand3 c inputs
every_list g before i inputs c next e n = (
  answers_join g before (i ∷ inputs) ∙ ap (λ (l : List RunAnswer). answers g before ++ l) (fresh_next (left g before) i inputs c next e),
  host_demand3 c (passes i c next e) inputs n,
)
