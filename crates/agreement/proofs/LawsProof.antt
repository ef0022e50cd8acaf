-- The laws of agreement, for every two byte strings. Assumes nothing.
use mathlib.Core.Path.{◌≡◌, refl, sym, ap, ◌∙◌}
use mathlib.Core.Bool.{Bool, true, false, cond}
use mathlib.Core.List.{List, [], ◌∷◌}
use Prim.Native.Nat.{ℕ, ◌-◌}
use native.Mathlib.Omega.{arith}
use borrow.Author.Tests.{eqb-true}
use lib.Dec.{eqb}
use lib.ListN.{length, take, replicate}
use lib.Seq.{take_at}
use Rattle.std.specs.Prelude.{Some, Result, Ok, Err}
use Rattle.laws.specs.Config.{validate}
use Rattle.laws.specs.declared.config.PlaneGuidanceConfig.{PlaneGuidanceConfig}
use Rattle.guidance.specs.Plane.{fresh}
use Rattle.claims.specs.Calls as claims
use Rattle.claims.specs.Calls.{replies, marks, unmarked}
use Rattle.claims.proofs.Demand3.{demand3}
use Rattle.replay.specs.Recording.{Recorded, Calls, Ending, ends, stops, Recording, bad_config, recorded, most_calls, recording}
use Rattle.replay.proofs.Window.{config_within}
use Rattle.compaction.specs.Compaction as compaction
use Rattle.compaction.specs.Compaction.{calls_of, padded, compacted, compacted_calls, bytes_after}
use Rattle.compaction.specs.Laws.{Shortened}
use Rattle.compaction.specs.declared.BadRecording.{BadRecording}
use Rattle.compaction.specs.declared.BadRecording.TheVariants as bad
use Rattle.compaction.proofs.Again.{unmarked_none, marks_again}
use Rattle.compaction.proofs.Short.{AllRead, all_unmarked, calls_unmarked, Whole, whole}
use Rattle.compaction.proofs.LawsProof.{Opened, opened, laws as short-laws}
use Rattle.agreement.specs.Agreement.{same_list, config_values, call_values, Numbered, settings, remaining, part_calls, parted, or_refused, agreement}
use Rattle.agreement.specs.Laws.{Agree, Read, OneStory, Laws}
use Rattle.agreement.specs.declared.Agreement.TheVariants as answer
use Rattle.agreement.specs.declared.Side.TheVariants as side
use Rattle.agreement.proofs.Same.{same_refl, same_eq}
use Rattle.agreement.proofs.Values.{config_eq, values_of_calls, values_of_numbered, numbered_values, calls_eq}

-- ---- calls that part nowhere have equal values

part_values : (xs ys : List Numbered) → part_calls xs ys ≡ answer.Agree → values_of_numbered xs ≡ values_of_numbered ys
unfolding part_calls values_of_numbered
part_values [] [] e = refl
part_values [] (y ∷ ys) e = let z : ◌≡◌ {A = ℕ} 0 1 = cc in absurd (omega arith)
part_values (x ∷ xs) [] e = let z : ◌≡◌ {A = ℕ} 0 1 = cc in absurd (omega arith)
part_values (x ∷ xs) (y ∷ ys) e = go (same_list (call_values x.call) (call_values y.call)) refl e (part_values xs ys)
  where
    go : (b : Bool) → same_list (call_values x.call) (call_values y.call) ≡ b → cond b (part_calls xs ys) (answer.Part (Some x.number) (Some y.number)) ≡ answer.Agree
        → (part_calls xs ys ≡ answer.Agree → values_of_numbered xs ≡ values_of_numbered ys)
        → call_values x.call ∷ values_of_numbered xs ≡ call_values y.call ∷ values_of_numbered ys
    go true q e ih = rw (same_eq (call_values x.call) (call_values y.call) q, ih e)
    go false q e ih = let z : ◌≡◌ {A = ℕ} 0 1 = cc in absurd (omega arith)

values_part : (xs ys : List Numbered) → values_of_numbered xs ≡ values_of_numbered ys → part_calls xs ys ≡ answer.Agree
unfolding part_calls values_of_numbered
values_part [] [] e = refl
values_part [] (y ∷ ys) e = let z : ◌≡◌ {A = ℕ} 0 1 = cc in absurd (omega arith)
values_part (x ∷ xs) [] e = let z : ◌≡◌ {A = ℕ} 0 1 = cc in absurd (omega arith)
values_part (x ∷ xs) (y ∷ ys) e =
    let head : call_values x.call ≡ call_values y.call = cc in
    let tail : values_of_numbered xs ≡ values_of_numbered ys = cc in
    rw (head, same_refl (call_values y.call)) (values_part xs ys tail)

-- ---- two recordings that agree: both are read, and their values are equal

record Equal (s t : List ℕ) : Type 0 where
  first : Read s
  second : Read t
  configs : settings (recording s) ≡ settings (recording t)
  values : values_of_numbered (remaining (recording s)) ≡ values_of_numbered (remaining (recording t))

equal : (s t : List ℕ) → Agree s t → Equal s t
unfolding agreement parted
equal s t = by_box (compacted s (recording s)) refl
  where
    by_values : Read s → Read t → (b : Bool) → same_list (settings (recording s)) (settings (recording t)) ≡ b
        → cond b (part_calls (remaining (recording s)) (remaining (recording t))) (answer.PartAtConfig) ≡ answer.Agree → Equal s t
    by_values p q true e h = record {
      first = p;
      second = q;
      configs = same_eq (settings (recording s)) (settings (recording t)) e;
      values = part_values (remaining (recording s)) (remaining (recording t)) h;
    }
    by_values p q false e h = let z : ◌≡◌ {A = ℕ} 0 1 = cc in absurd (omega arith)

    by_display : Read s → (c : Result ℕ BadRecording) → compacted t (recording t) ≡ c → or_refused side.Display c (Ok (parted (recording s) (recording t))) ≡ Ok answer.Agree → Equal s t
    by_display p (Ok n) e h =
        let part : parted (recording s) (recording t) ≡ answer.Agree = cc in
        by_values p (n, e) (same_list (settings (recording s)) (settings (recording t))) refl part
    by_display p (Err why) e h = let z : ◌≡◌ {A = ℕ} 0 1 = cc in absurd (omega arith)

    by_box : (c : Result ℕ BadRecording) → compacted s (recording s) ≡ c
        → or_refused side.Box c (or_refused side.Display (compacted t (recording t)) (Ok (parted (recording s) (recording t)))) ≡ Ok answer.Agree → Equal s t
    by_box (Ok n) e h = by_display (n, e) (compacted t (recording t)) refl h
    by_box (Err why) e h = let z : ◌≡◌ {A = ℕ} 0 1 = cc in absurd (omega arith)

agrees : (s t : List ℕ) → Equal s t → Agree s t
unfolding agreement parted
agrees s t e =
    rw (
      e.first.1,
      e.second.1,
      e.configs,
      same_refl (settings (recording t)),
      values_part (remaining (recording s)) (remaining (recording t)) e.values,
    )

-- ---- a recording that is not refused, opened

record Sound (s : List ℕ) : Type 0 where
  config : PlaneGuidanceConfig
  calls : List Recorded
  valid : validate config ≡ 0
  reads : recording s ≡ recorded config (record { calls = calls; ending = ends })

sound : (s : List ℕ) → Read s → Sound s
unfolding compacted
sound s p = go (recording s) refl p.1
  where
    by_ending : (c : PlaneGuidanceConfig) (ks : List Recorded) (x : Ending) → validate c ≡ 0
        → recording s ≡ recorded c (record { calls = ks; ending = x }) → compacted_calls s c ks x ≡ Ok p.0 → Sound s
    by_ending c ks ends v e h = record { config = c; calls = ks; valid = v; reads = e }
    by_ending c ks (stops r) v e h = let z : ◌≡◌ {A = ℕ} 0 1 = cc in absurd (omega arith)

    by_valid : (c : PlaneGuidanceConfig) (calls : Calls) (b : Bool) → eqb (validate c) 0 ≡ b → recording s ≡ recorded c calls
        → cond b (compacted_calls s c calls.calls calls.ending) (Err (bad.InvalidConfig (record { field = validate c }))) ≡ Ok p.0 → Sound s
    by_valid c calls true q e h = by_ending c calls.calls calls.ending (eqb-true (validate c) 0 q) e h
    by_valid c calls false q e h = let z : ◌≡◌ {A = ℕ} 0 1 = cc in absurd (omega arith)

    go : (r : Recording) → recording s ≡ r → compacted s r ≡ Ok p.0 → Sound s
    go (bad_config r) e h = let z : ◌≡◌ {A = ℕ} 0 1 = cc in absurd (omega arith)
    go (recorded c calls) e h = by_valid c calls (eqb (validate c) 0) refl e h

module _ {s : List ℕ} (o : Sound s) where
  abbrev Marks : List Bool
  Marks = marks (fresh o.config) (calls_of o.calls)

  abbrev Left : List claims.Call
  Left = unmarked Marks (calls_of o.calls)

  start : Opened s o.config (record { calls = o.calls; ending = ends })
  start = opened s o.config (record { calls = o.calls; ending = ends }) o.reads

  settings_are : settings (recording s) ≡ config_values o.config
  settings_are = rw o.reads

  values_are : values_of_numbered (remaining (recording s)) ≡ values_of_calls Left
  values_are = rw o.reads (numbered_values Marks 1 o.calls)

  -- the remaining calls were read
  left_read : AllRead s (unmarked Marks o.calls)
  left_read =
      let w : Whole s most_calls start.next (record { calls = o.calls; ending = ends }) =
      rw start.are at (whole s most_calls start.next (config_within s (record { config = o.config; next = start.next }) start.config).1) in
      all_unmarked Marks w.read

  left_is : calls_of (unmarked Marks o.calls) ≡ Left
  left_is = calls_unmarked Marks o.calls

  -- each of them answers as in the list without the others
  answers_are : replies (fresh o.config) Left ≡ unmarked Marks (replies (fresh o.config) (calls_of o.calls))
  answers_are = (demand3 o.config o.valid (calls_of o.calls)).struck

-- ---- the laws

one_story : (s t : List ℕ) → Agree s t → OneStory s t
one_story s t h =
    let e = equal s t h in
    let p = sound s e.first in
    let q = sound t e.second in
    let config : p.config ≡ q.config =
    config_eq s t p.config q.config (start p).next (start q).next (start p).config (start q).config (sym (settings_are p) ∙ e.configs ∙ settings_are q) in
    let values : values_of_calls (Left p) ≡ values_of_calls (Left q) = sym (values_are p) ∙ e.values ∙ values_are q in
    let left : Left p ≡ Left q =
    sym (left_is p) ∙ calls_eq s t (left_read p) (left_read q) (ap values_of_calls (left_is p) ∙ values ∙ sym (ap values_of_calls (left_is q))) ∙ left_is q in
    let answers : unmarked (Marks p) (replies (fresh p.config) (calls_of p.calls)) ≡ unmarked (Marks q) (replies (fresh q.config) (calls_of q.calls)) =
    sym (answers_are p) ∙ (λ i. replies (fresh (config i)) (left i)) ∙ answers_are q in
    record {
      config = p.config;
      box_calls = p.calls;
      display_calls = q.calls;
      box_reads = p.reads;
      display_reads = rw config q.reads;
      calls = left ∙ sym (ap (λ (c : PlaneGuidanceConfig). unmarked (marks (fresh c) (calls_of q.calls)) (calls_of q.calls)) config);
      answers = answers ∙ sym (ap (λ (c : PlaneGuidanceConfig). unmarked (marks (fresh c) (calls_of q.calls)) (replies (fresh c) (calls_of q.calls))) config);
    }

reflexive : (s : List ℕ) → Read s → Agree s s
reflexive s p = agrees s s (record { first = p; second = p; configs = refl; values = refl })

symmetric : (s t : List ℕ) → Agree s t → Agree t s
symmetric s t h =
    let e = equal s t h in
    agrees t s (record { first = e.second; second = e.first; configs = sym e.configs; values = sym e.values })

transitive : (s t u : List ℕ) → Agree s t → Agree t u → Agree s u
transitive s t u h k =
    let e = equal s t h in
    let f = equal t u k in
    agrees s u (record { first = e.first; second = f.second; configs = e.configs ∙ f.configs; values = e.values ∙ f.values })

-- the compacted self
module _ (s : List ℕ) (n : ℕ) (h : compacted s (recording s) ≡ Ok n) where
  from : Sound s
  from = sound s (n, h)

  abbrev T : List ℕ
  T = compaction.short s from.config from.calls

  shortened : Shortened s from.config from.calls
  shortened = (short-laws s).shortened from.config from.calls from.valid from.reads

  short_sound : Sound T
  short_sound = record { config = from.config; calls = shortened.calls; valid = from.valid; reads = shortened.reads }

  -- nothing more is struck
  left_same : Left short_sound ≡ Left from
  unfolding unmarked claims.strikes calls_of short_sound from
  left_same =
      rw (shortened.remain, marks_again from.config from.valid (calls_of from.calls))
      (unmarked_none (Left from) (Left from) refl)

  short_agrees : Agree s T
  unfolding from short_sound
  short_agrees = agrees s T (record {
    first = (n, h);
    second = (length T, shortened.again);
    configs = settings_are from ∙ sym (settings_are short_sound);
    values = values_are from ∙ ap values_of_calls (sym left_same) ∙ sym (values_are short_sound);
  })

  length_is : length T ≡ n
  unfolding compacted
  length_is = let z : Ok (length T) ≡ Ok n = rw (from.reads, from.valid) at h in cc

  bytes_are : take n (bytes_after s (recording s)) ≡ T
  unfolding bytes_after padded
  bytes_are = rw (from.reads, from.valid) (take_at T (replicate (length s - length T) 0) n length_is)

  compacted_self : Agree s (take n (bytes_after s (recording s)))
  compacted_self = rw bytes_are short_agrees

pub agreement_laws : Laws
agreement_laws = record {
  one_story = one_story;
  both_read = λ s t h. let e = equal s t h in (e.first, e.second);
  reflexive = reflexive;
  symmetric = symmetric;
  transitive = transitive;
  compacted_self = compacted_self;
}
