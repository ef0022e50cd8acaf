-- The marks of demand 3 are its words, at every place of every list. Assumes nothing.
use Rattle.std.specs.Prelude.{Some, suc, length}
use mathlib.Core.Path.{◌≡◌, refl, sym, ap, subst}
use mathlib.Core.Bool.{Bool, true, false, not, ◌&&◌}
use mathlib.Core.List.{List, [], ◌∷◌, ◌++◌}
use Rattle.laws.specs.declared.config.PlaneGuidanceConfig.{PlaneGuidanceConfig}
use Rattle.guidance.specs.Plane.{fresh}
use Rattle.guidance.specs.declared.plane.PlaneGuidance.{PlaneGuidance}
use Rattle.claims.specs.Calls.{Call, guide, prime, set_config, take_back, perform, refused, replies, after, refusals, holds, fell_back, struck, strikes, marks}
use Rattle.claims.specs.StallGuard.{Made, made, backwards, those}
use Rattle.claims.specs.Struck.{counts, made_on, latest_fell, is_struck, behind, Struck}

-- ---- one call more

-- the call k, made with the configuration c, refused or not
abbrev now : Call → PlaneGuidanceConfig → Bool → Made
now k c r = record { call = k; config = c; accepted = not r }

-- the fold's Bool is whether the last accepted guide or prime call was a fallback
one_more : (k : Call) (c : PlaneGuidanceConfig) (r fell : Bool) (past : List Made) → fell ≡ latest_fell (those counts past) →
    fell_back fell k r ≡ latest_fell (those counts (now k c r ∷ past))
unfolding those
one_more k c true fell past e = e
one_more (guide dt regime input s cap) c false fell past e = refl
one_more prime c false fell past e = refl
one_more (set_config d) c false fell past e = e
one_more take_back c false fell past e = e

one_mark : (k : Call) (c : PlaneGuidanceConfig) (r fell : Bool) (past : List Made) → fell ≡ latest_fell (those counts past) →
    struck fell k r ≡ is_struck past (now k c r)
one_mark k c true fell past e = refl
one_mark k c false fell past e = ap (λ (b : Bool). holds k && not b) e

-- ---- the list

-- of a run from g with `past` made before it, the latest first
each_mark : (g : PlaneGuidance) (fell : Bool) (past : List Made) → fell ≡ latest_fell (those counts past) →
    (before : List Call) (k : Call) (rest : List Call) →
    behind before (strikes fell (before ++ (k ∷ rest)) (refusals (replies g (before ++ (k ∷ rest)))))
    ≡ Some (is_struck (backwards (made g before) past) (made_on (after g before) k))
unfolding behind strikes refusals replies backwards made after
each_mark g fell past e [] k rest = ap Some (one_mark k g.config (refused (perform g k).reply) fell past e)
each_mark g fell past e (b ∷ before) k rest =
    let r = refused (perform g b).reply in
    each_mark (perform g b).next (fell_back fell b r) (now b g.config r ∷ past) (one_more b g.config r fell past e) before k rest

as_many_marks : (g : PlaneGuidance) (fell : Bool) (ks : List Call) → length (strikes fell ks (refusals (replies g ks))) ≡ length ks
unfolding strikes refusals replies
as_many_marks g fell [] = refl
as_many_marks g fell (k ∷ ks) = ap suc (as_many_marks (perform g k).next (fell_back fell k (refused (perform g k).reply)) ks)

pub marks_are_struck : (c : PlaneGuidanceConfig) (calls : List Call) → Struck c calls
unfolding those
marks_are_struck c calls = record {
  each = λ before k rest at.
      subst (λ (ks : List Call). behind before (marks (fresh c) ks) ≡ Some (is_struck (backwards (made (fresh c) before) []) (made_on (after (fresh c) before) k)))
      (sym at) (each_mark (fresh c) false [] refl before k rest);
  as_many = as_many_marks (fresh c) false calls;
}
