-- One recording's remaining calls, from one to the next. Assumes nothing.
use mathlib.Core.Path.{◌≡◌, refl, sym, ap, ◌∙◌}
use mathlib.Core.Bool.{Bool, true, false, cond, not}
use mathlib.Core.List.{List, [], ◌∷◌}
use Prim.Native.Nat.{ℕ, suc, ◌+◌, ◌-◌, ◌<◌, ◌≤◌}
use native.Mathlib.Omega.{arith}
use borrow.Author.Tests.{leb-true, leb-false}
use lib.Dec.{leb}
use lib.ListN.{length}
use Rattle.std.specs.Prelude.{Some, Ok, Err}
use Rattle.std.specs.Iterator.{MakesProgress, item_count}
use Rattle.refusals.specs.declared.Refusal.{Refusal}
use Rattle.refusals.specs.declared.Refusal.TheVariants as reason
use Rattle.guidance.specs.declared.plane.PlaneGuidance.{PlaneGuidance}
use Rattle.claims.specs.Calls.{Outcome, perform, refused, replies, refusals, struck, fell_back, strikes, unmarked}
use Rattle.records.specs.Call.{read_call}
use Rattle.records.specs.declared.call.Call.{Call}
use Rattle.calls.specs.Calls.{call_of, as_outcome}
use Rattle.calls.specs.declared.Performed.{Performed}
use Rattle.replay.specs.Recording.{Recorded, Calls, no_calls, Ending, ends, stops, most_calls, read_calls}
use Rattle.compaction.specs.Compaction.{calls_of}
use Rattle.compaction.specs.declared.Judged.{Judged}
use Rattle.compaction.specs.Code.Steps.{judged}
use Rattle.compaction.proofs.Reading.{calls_over, calls_nine, calls_bad, calls_more}
use Rattle.compaction.proofs.Judging.{marked, judged_is}
use Rattle.agreement.specs.Agreement.{Numbered, numbered}
use Rattle.agreement.specs.declared.NumberedCall.{NumberedCall}
use Rattle.agreement.specs.declared.RemainingCalls.{RemainingCalls}
use Rattle.agreement.specs.Code.Steps.{calls_from, calls_left, numbered_as}

-- the calls that stay of a list, the first with number n
abbrev stays : PlaneGuidance → Bool → ℕ → List Recorded → List Numbered
stays g fell n ks = unmarked (strikes fell (calls_of ks) (refusals (replies g (calls_of ks)))) (numbered n ks)

stays_none : (g : PlaneGuidance) (fell : Bool) (n : ℕ) → stays g fell n [] ≡ []
unfolding calls_of replies refusals strikes unmarked numbered
stays_none g fell n = refl

stays_more : (g : PlaneGuidance) (fell : Bool) (n : ℕ) (k : Recorded) (ks : List Recorded)
    → let o = perform g (call_of k.call) in let r = refused o.reply in let rest = stays o.next (fell_back fell (call_of k.call) r) (n + 1) ks in
    stays g fell n (k ∷ ks) ≡ cond (struck fell (call_of k.call) r) rest (record { number = n; call = k.call } ∷ rest)
unfolding calls_of replies refusals strikes unmarked numbered
stays_more g fell n k ks = refl

module _ (s : List ℕ) (g : PlaneGuidance) (at : ℕ) (fell : Bool) (n : ℕ) where
  from_is : (c : Calls) → read_calls (most_calls + 1 - n) s at ≡ c → calls_from s g at fell n ≡ stays g fell n c.calls
  unfolding calls_from
  from_is c e = rw e

  from_none : (e : Ending) → read_calls (most_calls + 1 - n) s at ≡ no_calls e → calls_from s g at fell n ≡ []
  from_none e q = from_is (no_calls e) q ∙ stays_none g fell n

  from_over : length s ≤ at → calls_from s g at fell n ≡ []
  from_over h = from_none ends (calls_over s at (most_calls + 1 - n) h)

  from_bad : (r : Refusal) → n ≤ most_calls → at < length s → read_call s at ≡ Err r → calls_from s g at fell n ≡ []
  from_bad r h l e =
      let k : most_calls + 1 - n ≡ suc (most_calls - n) = omega arith in
      from_none (stops r) (rw k (calls_bad s at (most_calls - n) r l e))

  from_most : most_calls < n → calls_from s g at fell n ≡ []
  from_most h = go (leb (length s) at) refl
    where
      k : most_calls + 1 - n ≡ 0
      k = omega arith

      go : (b : Bool) → leb (length s) at ≡ b → calls_from s g at fell n ≡ []
      go true e = from_over (leb-true (length s) at e)
      go false e = from_none (stops reason.TooManyCalls) (rw k (calls_nine s at (leb-false (length s) at e)))

  from_more : (c : Call) (next : ℕ) → n ≤ most_calls → at < length s → read_call s at ≡ Ok (record { call = c; next = next })
      → let o = perform g (call_of c) in let r = refused o.reply in let rest = calls_from s o.next next (fell_back fell (call_of c) r) (n + 1) in
      calls_from s g at fell n ≡ cond (struck fell (call_of c) r) rest (record { number = n; call = c } ∷ rest)
  unfolding calls_from
  from_more c next h l e =
      let k : most_calls + 1 - n ≡ suc (most_calls + 1 - (n + 1)) = omega arith in
      rw (k, calls_more s at (most_calls + 1 - (n + 1)) (record { call = c; next = next }) l e)
      (stays_more g fell n (record { place = at; call = c }) (read_calls (most_calls + 1 - (n + 1)) s next).calls)

-- ---- the next call that stays

-- what holds in each turn: the calls from here on are those at entry, and the next has the number that is counted
pub record Seeking (first here : RemainingCalls) (n : ℕ) : Type 0 where
  pub is : calls_left first ≡ calls_left here
  pub counts : here.number ≡ n

pub seek_starts : (c : RemainingCalls) → Seeking c c c.number
seek_starts c = record { is = refl; counts = refl }

stays_struck : (b : Bool) → not b ≡ false → b ≡ true
stays_struck true q = refl
stays_struck false q = sym q

not_struck : (b : Bool) → not b ≡ true → b ≡ false
not_struck true q = sym q
not_struck false q = refl

-- no call is left
abbrev pub NoneLeft : RemainingCalls → RemainingCalls → Type 0
NoneLeft first here = (calls_left first ≡ []) × (calls_left here ≡ [])

module _ {first here : RemainingCalls} {n : ℕ} (f : Seeking first here n) where
  seek_none : calls_left here ≡ [] → NoneLeft first here
  seek_none e = (f.is ∙ e, e)

  pub seek_over : length here.recording.now ≤ here.at → NoneLeft first here
  seek_over h = seek_none (from_over here.recording.now here.guidance here.at here.fell here.number h)

  pub seek_bad : (r : Refusal) → n ≤ most_calls → here.at < length here.recording.now → read_call here.recording.now here.at ≡ Err r → NoneLeft first here
  seek_bad r h l e = seek_none (from_bad here.recording.now here.guidance here.at here.fell here.number r (omega (arith, f.counts)) l e)

  pub seek_most : most_calls < n → NoneLeft first here
  seek_most h = seek_none (from_most here.recording.now here.guidance here.at here.fell here.number (omega (arith, f.counts)))

  module _ (c : Call) (next : ℕ) (h : n ≤ most_calls) (l : here.at < length here.recording.now) (e : read_call here.recording.now here.at ≡ Ok (record { call = c; next = next }))
      (done : Performed) (ed : as_outcome done ≡ perform here.guidance (call_of c)) (j : Judged) (ej : j ≡ judged here.fell (as_outcome done).reply) where
    abbrev Then : Outcome
    Then = perform here.guidance (call_of c)

    is_judged : j ≡ marked here.fell (call_of c) (refused Then.reply)
    is_judged = ej ∙ ap (λ (o : Outcome). judged here.fell o.reply) ed ∙ judged_is here.fell here.guidance c

    next_is : done.guidance ≡ Then.next
    next_is = ap (λ (o : Outcome). o.next) ed

    -- the state after the call
    abbrev pub After : RemainingCalls
    After = record { recording = here.recording; guidance = done.guidance; at = next; fell = j.fell; number = n + 1 }

    more : calls_left first ≡ cond j.struck (calls_left After) (record { number = n; call = c } ∷ calls_left After)
    more =
        f.is ∙ rw (is_judged, next_is, f.counts)
        (from_more here.recording.now here.guidance here.at here.fell n c next h l e)

    pub seek_turn : not j.struck ≡ false → Seeking first After (n + 1)
    seek_turn q = record { is = rw (stays_struck j.struck q) at more; counts = refl }

    pub seek_found : not j.struck ≡ true → calls_left first ≡ record { number = n; call = c } ∷ calls_left After
    seek_found q = rw (not_struck j.struck q) at more

-- with each call fewer are left
pub fewer_left : (c d : RemainingCalls) (k : NumberedCall) → calls_left c ≡ numbered_as k ∷ calls_left d → MakesProgress (λ _. Unit {0}) (item_count calls_left) c (Some k) d
fewer_left c d k e = record { on = λ _. (tt, tt, omega (arith, ap length e)); keeps = tt; rests = λ _. tt }
