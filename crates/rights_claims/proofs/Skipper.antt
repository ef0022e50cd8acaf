-- The skipper does everything, and a call by the skipper is the call without a caller. Assumes nothing.
use mathlib.Core.Path.{◌≡◌, refl, ap, ◌∙◌}
use mathlib.Core.Bool.{Bool, true, cond, not}
use mathlib.Core.List.{List, [], ◌∷◌}
use Rattle.rights.specs.Rights.{may}
use Rattle.rights.specs.declared.Deed.{Deed}
use Rattle.rights.specs.declared.Deed.TheVariants as deed
use Rattle.rights_claims.specs.Runs.{Step, answers, after}
use Rattle.rights_claims.specs.Sent.{Held, Act, Told, forbidden, Sent, lent_by, act, deed_of, answer_to}
use Rattle.rights_claims.specs.Skipper.{skipper, from_skipper, all_from_skipper, SkipperDoesAll}

pub may_all : (d : Deed) → may skipper d ≡ true
unfolding may
may_all deed.New = refl
may_all deed.Guide = refl
may_all deed.Prime = refl
may_all deed.SetConfig = refl
may_all deed.TakeBack = refl
may_all deed.LoadRoute = refl
may_all deed.WriteRoute = refl
may_all deed.RouteCall = refl
may_all deed.ModeReport = refl
may_all deed.GuardReport = refl
may_all deed.Other = refl

carried_out : (h : Held) (k : Sent) → may k.caller (deed_of k.wants) ≡ true → answer_to h k ≡ act h k.wants
unfolding answer_to
carried_out h k e = ap (λ (b : Bool). cond (not b) (record { answer = forbidden (lent_by k.wants); left = h }) (act h k.wants)) e

same_call : (h : Held) (a : Act) → answer_to h (from_skipper a) ≡ act h a
same_call h a = carried_out h (from_skipper a) (may_all (deed_of a))

same_answers : (h : Held) (acts : List Act) → answers answer_to h (all_from_skipper acts) ≡ answers act h acts
unfolding answers all_from_skipper
same_answers h [] = refl
same_answers h (a ∷ acts) =
    ap (λ (o : Step Told Held). o.answer ∷ answers answer_to o.left (all_from_skipper acts)) (same_call h a)
    ∙ ap (λ (l : List Told). (act h a).answer ∷ l) (same_answers (act h a).left acts)

same_after : (h : Held) (acts : List Act) → after answer_to h (all_from_skipper acts) ≡ after act h acts
unfolding after all_from_skipper
same_after h [] = refl
same_after h (a ∷ acts) =
    ap (λ (o : Step Told Held). after answer_to o.left (all_from_skipper acts)) (same_call h a) ∙ same_after (act h a).left acts

pub holds : SkipperDoesAll
holds = record {
  is_the_skipper = refl;
  may_all = may_all;
  same_call = same_call;
  same_answers = same_answers;
  same_after = same_after;
  carried_out = carried_out;
}
