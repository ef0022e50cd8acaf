-- Closing the gaps: what is written so far, what is not yet read, and the place of writing never past the place of reading.
-- Assumes nothing.
use mathlib.Core.Path.{◌≡◌, refl, sym, ap, ◌∙◌}
use mathlib.Core.Bool.{Bool, true, false, cond}
use mathlib.Core.List.{List, [], ◌∷◌, ◌++◌, append_assoc, append-nil}
use Prim.Native.Nat.{ℕ, zero, suc, ◌+◌, ◌-◌, ◌<◌, ◌≤◌}
use native.Mathlib.Omega.{arith}
use borrow.Author.Tests.{leb-true, leb-false}
use lib.Dec.{leb}
use lib.ListN.{length, take, drop, length-drop}
use lib.Seq.{drop-drop, length-take-le}
use Rattle.std.specs.Prelude.{Ok, Err}
use Rattle.refusals.specs.declared.Refusal.{Refusal}
use Rattle.refusals.specs.declared.Refusal.TheVariants as refusal
use Rattle.guidance.specs.declared.plane.PlaneGuidance.{PlaneGuidance}
use Rattle.claims.specs.Calls.{Outcome, perform, refused, replies, refusals, struck, fell_back, strikes, unmarked, marks}
use Rattle.fields.specs.Bytes.{number_at}
use Rattle.fields.specs.Fields.{size_of}
use Rattle.records.specs.Call.{call_fields, read_call}
use Rattle.records.specs.declared.call.ReadCall.{ReadCall}
use Rattle.calls.specs.Calls.{call_of, as_outcome}
use Rattle.calls.specs.declared.Performed.{Performed}
use Rattle.lines.proofs.PutLaw.{put_long}
use Rattle.replay.specs.Recording.{Recorded, no_calls, with_call, Ending, ends, stops, read_calls, most_calls}
use Rattle.replay.proofs.Window.{moved, call_at_lem, call_within}
use Rattle.compaction.specs.Compaction.{record_at, records_at, calls_of}
use Rattle.compaction.specs.declared.Judged.{Judged}
use Rattle.compaction.specs.Code.Steps.{judged, Moved, Closed}
use Rattle.compaction.proofs.Bytes.{put_rest, put_head}
use Rattle.compaction.proofs.Reading.{calls_over, calls_nine, calls_bad, calls_more}
use Rattle.compaction.proofs.Judging.{marked, judged_is}

-- the calls that stay of a list, from a guidance and what came before on
abbrev pub stay : PlaneGuidance → Bool → List Recorded → List Recorded
stay g before ks = unmarked (strikes before (calls_of ks) (refusals (replies g (calls_of ks)))) ks

-- one call more
stay_cons : (g : PlaneGuidance) (before : Bool) (k : Recorded) (ks : List Recorded)
    → let o = perform g (call_of k.call) in let r = refused o.reply in
    stay g before (k ∷ ks)
    ≡ cond (struck before (call_of k.call) r) (stay o.next (fell_back before (call_of k.call) r) ks)
    (k ∷ stay o.next (fell_back before (call_of k.call) r) ks)
unfolding calls_of replies refusals strikes unmarked
stay_cons g before k ks = refl

stay_none : (g : PlaneGuidance) (before : Bool) → stay g before [] ≡ []
unfolding calls_of replies refusals strikes unmarked
stay_none g before = refl

records_cons : (s : List ℕ) (k : Recorded) (ks : List Recorded) → records_at s (k ∷ ks) ≡ record_at s k.place ++ records_at s ks
unfolding records_at
records_cons s k ks = refl

records_none : (s : List ℕ) → records_at s [] ≡ []
unfolding records_at
records_none s = refl

record_is : (s : List ℕ) (at : ℕ) (r : ReadCall) → read_call s at ≡ Ok r → take (r.next - at) (drop at s) ≡ record_at s at
unfolding record_at
record_is s at r e =
    let z : r.next - at ≡ 4 + size_of call_fields (number_at 4 (drop at s)) = omega (arith, (call_within s at r e).0) in
    ap (λ (k : ℕ). take k (drop at s)) z

-- what holds in each turn; `left` more calls may come
pub record Closing (s₀ : List ℕ) (from : ℕ) (first : PlaneGuidance) (s : List ℕ) (g : PlaneGuidance) (at to : ℕ) (fell : Bool) : Type 0 where
  pub long : length s ≡ length s₀
  pub order : to ≤ at
  pub within : at ≤ length s₀
  pub unread : drop at s ≡ drop at s₀
  pub left : ℕ
  pub ended : (read_calls left s₀ at).ending ≡ ends
  pub is :
      let ks = (read_calls most_calls s₀ from).calls in
      take to s ++ records_at s₀ (stay g fell (read_calls left s₀ at).calls) ≡ take from s₀ ++ records_at s₀ (unmarked (marks first (calls_of ks)) ks)

pub close_starts : (s : List ℕ) (from : ℕ) (first : PlaneGuidance) → from ≤ length s
    → (read_calls most_calls s from).ending ≡ ends → Closing s from first s first from from false
close_starts s from first h e = record { long = refl; order = omega arith; within = h; unread = refl; left = most_calls; ended = e; is = refl }

module _ {s₀ : List ℕ} {from : ℕ} {first : PlaneGuidance} {s : List ℕ} {g : PlaneGuidance} {at to : ℕ} {fell : Bool} (f : Closing s₀ from first s g at to fell) where
  -- a record is read where nothing was written
  same_read : read_call s at ≡ read_call s₀ at
  same_read =
      call_at_lem s at (omega (arith, f.within, f.long)) ∙ ap (λ (l : List ℕ). moved at (read_call l 0)) f.unread ∙ sym (call_at_lem s₀ at f.within)

  -- where no record is read the input is over: the calls were read to their end
  over : (why : Refusal) → read_call s at ≡ Err why → length s₀ ≤ at
  over why e = go (leb (length s₀) at) refl f.left f.ended
    where
      go : (b : Bool) → leb (length s₀) at ≡ b → (k : ℕ) → (read_calls k s₀ at).ending ≡ ends → length s₀ ≤ at
      go true h k q = leb-true (length s₀) at h
      go false h zero q =
          let z : ◌≡◌ {A = Ending} (stops refusal.TooManyCalls) ends = rw (calls_nine s₀ at (leb-false (length s₀) at h)) at q in
          let o : ◌≡◌ {A = ℕ} 0 1 = cc in absurd (omega arith)
      go false h (suc k) q =
          let z : stops why ≡ ends = rw (calls_bad s₀ at k why (leb-false (length s₀) at h) (sym same_read ∙ e)) at q in
          let o : ◌≡◌ {A = ℕ} 0 1 = cc in absurd (omega arith)

  pub close_done : (why : Refusal) → read_call s at ≡ Err why → Closed from first s₀ s to
  close_done why e =
      let none_left : read_calls f.left s₀ at ≡ no_calls ends = calls_over s₀ at f.left (over why e) in
      record {
        long = f.long;
        within = omega (arith, f.order, f.within, f.long);
        is = sym (append-nil (take to s)) ∙ (rw (none_left, stay_none g fell, records_none s₀) at f.is);
      }

  module _ (r : ReadCall) (e : read_call s at ≡ Ok r) where
    size_is : r.next ≡ at + (4 + size_of call_fields (number_at 4 (drop at s)))
    size_is = (call_within s at r e).0

    fits : r.next ≤ length s
    fits = (call_within s at r e).1

    pub close_asks : (to ≤ at) × (at ≤ r.next) × (r.next ≤ length s)
    close_asks = (f.order, omega (arith, size_is), fits)

    pub close_less : length s₀ - r.next < length s₀ - at
    close_less = omega (arith, size_is, fits, f.long)

    -- the calls left are this one and the others
    record More : Type 0 where
      rest : ℕ
      are : read_calls f.left s₀ at ≡ with_call (record { place = at; call = r.call }) (read_calls rest s₀ r.next)

    more : More
    more = go f.left refl
      where
        l : at < length s₀
        l = omega (arith, f.long, size_is, fits)

        go : (k : ℕ) → f.left ≡ k → More
        go zero q =
            let z : ◌≡◌ {A = Ending} (stops refusal.TooManyCalls) ends = rw (calls_nine s₀ at l) at (rw q at f.ended) in
            let o : ◌≡◌ {A = ℕ} 0 1 = cc in absurd (omega arith)
        go (suc k) q = record { rest = k; are = rw q (calls_more s₀ at k r l (sym same_read ∙ e)) }

    later : (l : List ℕ) (n : ℕ) → n ≤ r.next → drop n l ≡ drop n s → drop r.next l ≡ drop r.next s
    later l n o q =
        let z : n + (r.next - n) ≡ r.next = omega arith in
        rw z at (sym (drop-drop (r.next - n) n l) ∙ ap (drop (r.next - n)) q ∙ drop-drop (r.next - n) n s)

    unread_after : drop r.next s ≡ drop r.next s₀
    unread_after =
        let z : at + (r.next - at) ≡ r.next = omega (arith, size_is) in
        rw z at (sym (drop-drop (r.next - at) at s) ∙ ap (drop (r.next - at)) f.unread ∙ drop-drop (r.next - at) at s₀)

    abbrev Bytes : List ℕ
    Bytes = take (r.next - at) (drop at s)

    record_at_lem : Bytes ≡ record_at s₀ at
    record_at_lem = ap (take (r.next - at)) f.unread ∙ record_is s₀ at r (sym same_read ∙ e)

    record_long : length Bytes ≡ r.next - at
    record_long = length-take-le (r.next - at) (drop at s) (simp length-drop (omega (arith, fits)))

    abbrev Then : Outcome
    Then = perform g (call_of r.call)

    abbrev Fell : Bool
    Fell = fell_back fell (call_of r.call) (refused Then.reply)

    abbrev Struck : Bool
    Struck = struck fell (call_of r.call) (refused Then.reply)

    -- what the calls left come to, once this one is struck or stays
    then_is : (b : Bool) → Struck ≡ b
        → let rest = stay Then.next Fell (read_calls more.rest s₀ r.next).calls in
        let all = (read_calls most_calls s₀ from).calls in
        take to s ++ records_at s₀ (cond b rest (record { place = at; call = r.call } ∷ rest))
        ≡ take from s₀ ++ records_at s₀ (unmarked (marks first (calls_of all)) all)
    then_is b q =
        rw q at (rw (stay_cons g fell (record { place = at; call = r.call }) (read_calls more.rest s₀ r.next).calls) at (rw more.are at f.is))

    ended_after : (read_calls more.rest s₀ r.next).ending ≡ ends
    ended_after = rw more.are at f.ended

    strikes_call : Struck ≡ true → Closing s₀ from first s Then.next r.next to Fell
    strikes_call q = record {
      long = f.long;
      order = omega (arith, f.order, size_is);
      within = omega (arith, fits, f.long);
      unread = unread_after;
      left = more.rest;
      ended = ended_after;
      is = then_is true q;
    }

    keeps_call : (after : List ℕ) (next : ℕ) → Struck ≡ false → Moved to Bytes s after next → Closing s₀ from first after Then.next r.next next Fell
    keeps_call after next q m =
        let room : to + length Bytes ≤ length s = omega (arith, record_long, f.order, fits, size_is) in
        let kept : take next after ≡ take to s ++ record_at s₀ at = rw (m.place, m.bytes) (put_head s to Bytes room) ∙ ap (λ (l : List ℕ). take to s ++ l) record_at_lem in
        let behind : drop (to + length Bytes) after ≡ drop (to + length Bytes) s = ap (drop (to + length Bytes)) m.bytes ∙ put_rest s to Bytes room in
        record {
          long = ap length m.bytes ∙ put_long s to Bytes room ∙ f.long;
          order = omega (arith, m.place, record_long, f.order, size_is);
          within = omega (arith, fits, f.long);
          unread = later after (to + length Bytes) (omega (arith, record_long, f.order, size_is)) behind ∙ unread_after;
          left = more.rest;
          ended = ended_after;
          is =
              let tail = records_at s₀ (stay Then.next Fell (read_calls more.rest s₀ r.next).calls) in
              ap (λ (l : List ℕ). l ++ tail) kept ∙ append_assoc (take to s) (record_at s₀ at) tail
              ∙ rw (records_cons s₀ (record { place = at; call = r.call }) (stay Then.next Fell (read_calls more.rest s₀ r.next).calls)) at (then_is false q);
        }

    module _ (done : Performed) (ed : as_outcome done ≡ Then) (j : Judged) (ej : j ≡ judged fell (as_outcome done).reply) where
      is_judged : j ≡ marked fell (call_of r.call) (refused Then.reply)
      is_judged = ej ∙ ap (λ (o : Outcome). judged fell o.reply) ed ∙ judged_is fell g r.call

      next_is : done.guidance ≡ Then.next
      next_is = ap (λ (o : Outcome). o.next) ed

      pub close_strikes : j.struck ≡ true → Closing s₀ from first s done.guidance r.next to j.fell
      close_strikes q = rw (is_judged, next_is) (strikes_call (rw is_judged at q))

      pub close_keeps : (after : List ℕ) (next : ℕ) → j.struck ≡ false → Moved to Bytes s after next
          → Closing s₀ from first after done.guidance r.next next j.fell
      close_keeps after next q m = rw (is_judged, next_is) (keeps_call after next (rw is_judged at q) m)
