-- The text of lines, and its size. Assumes nothing.
use Rattle.std.proofs.Common.{◌≡◌, ℕ, zero, suc, ◌+◌, ◌*◌, ◌≤◌, Bool, true, false, cond, eqb, leb, List, [], ◌∷◌, length, sum_by, Result, Ok, Err, None, refl, sym, ap, zero-add, ◌∙◌, arith, length-append, append-nil}
use Rattle.std.proofs.lemmas.List.Sums.{sum_by-cons}
use borrow.Author.Tests.{le-leb}
use Rattle.refusals.specs.declared.Refusal.{Refusal}
use Rattle.refusals.specs.declared.Refusal.TheVariants as refusal
use Rattle.laws.specs.Config.{validate}
use Rattle.guidance.specs.Plane.{fresh}
use Rattle.guidance.specs.declared.plane.PlaneGuidance.{PlaneGuidance}
use Rattle.records.specs.Call.{read_call}
use Rattle.records.specs.declared.call.ReadCall.{ReadCall}
use Rattle.records.specs.Config.{read_config}
use Rattle.records.specs.declared.config.ReadConfig.{ReadConfig}
use Rattle.fields.specs.Writing.{answer_of, buffer_of}
use Rattle.lines.specs.declared.Line.{Line}
use Rattle.lines.specs.Line.{Puts, text}
use Rattle.lines.proofs.TextLaw.{text_short}
use Rattle.replay.specs.declared.run.CallLines.{CallLines}
use Rattle.replay.specs.Recording.{Recorded, Calls, no_calls, on_read, on_config, Ending, ends, stops, recording, read_calls, most_calls}
use Rattle.replay.specs.Sizes.{text_room}
use Rattle.replay.specs.Text.{call_lines, ending_lines, run_lines, refused_line, recording_lines, lines_text, recording_text}
use Rattle.replay.specs.Code.Run.{lines_left}

-- ---- of one line, and of a recording's calls

pub one_text : (s : List ℕ) (l : Line) → l ∷ [] ≡ recording_lines (recording s) → recording_text s ≡ text l
unfolding recording_text lines_text
one_text s l e = rw (← e) (append-nil (text l))

pub calls_text : (s : List ℕ) (c : CallLines) → lines_left c ≡ recording_lines (recording s) → recording_text s ≡ lines_text (lines_left c)
unfolding recording_text
calls_text s c e = rw e

-- ---- its size

pub sizes_sum : (ls : List Line) → sum_by (λ l. length (text l)) ls ≡ length (lines_text ls)
unfolding lines_text
sizes_sum [] = refl
sizes_sum (l ∷ ls) = sum_by-cons (λ l. length (text l)) l ls ∙ ap (λ n. length (text l) + n) (sizes_sum ls) ∙ sym (length-append (text l) (lines_text ls))

lines_short : (ls : List Line) → length (lines_text ls) ≤ 80 * length ls
unfolding lines_text
lines_short [] = omega arith
lines_short (l ∷ ls) = simp length-append (omega (arith, text_short l, lines_short ls))

calls_few : (k : ℕ) (s : List ℕ) (at : ℕ) → length (read_calls k s at).calls ≤ k
unfolding read_calls
calls_few zero s at = go (leb (length s) at)
  where
    go : (b : Bool) → length (cond b (no_calls ends) (no_calls (stops refusal.TooManyCalls))).calls ≤ 0
    go true = omega arith
    go false = omega arith
calls_few (suc k) s at = go (leb (length s) at) (read_call s at) (λ (next : ℕ). calls_few k s next)
  where
    go : (b : Bool) (r : Result ReadCall Refusal) → ((next : ℕ) → length (read_calls k s next).calls ≤ k)
        → length (cond b (no_calls ends) (on_read at r (λ (next : ℕ). read_calls k s next))).calls ≤ suc k
    go true r f = omega arith
    go false (Err why) f = omega arith
    go false (Ok r) f = omega (arith, f r.next)

calls_long : (n : ℕ) (g : PlaneGuidance) (ks : List Recorded) → length (call_lines n g ks) ≡ length ks
unfolding call_lines
calls_long n g [] = refl
calls_long n g (k ∷ ks) = ap suc (calls_long (n + 1) _ ks)

run_long : (n : ℕ) (g : PlaneGuidance) (c : Calls) → length (run_lines n g c) ≤ length c.calls + 1
unfolding run_lines
run_long n g c = simp length-append (omega (arith, calls_long n g c.calls, one_ending (n + length c.calls) c.ending))
  where
    one_ending : (n : ℕ) (e : Ending) → length (ending_lines n e) ≤ 1
    one_ending n ends = omega arith
    one_ending n (stops why) = omega arith

recording_long : (s : List ℕ) → length (recording_lines (recording s)) ≤ 4097
unfolding recording recording_lines
recording_long s = go (read_config s 0)
  where
    go : (r : Result ReadConfig Refusal) → length (recording_lines (on_config s r)) ≤ 4097
    go (Err why) = omega arith
    go (Ok r) = made (eqb (validate r.config) 0)
      where
        made : (b : Bool) → length (cond b (run_lines 1 (fresh r.config) (read_calls most_calls s r.next)) (refused_line None (validate r.config) ∷ [])) ≤ 4097
        made true = omega (arith, run_long 1 (fresh r.config) (read_calls most_calls s r.next), calls_few most_calls s r.next)
        made false = omega arith

-- no text has more than 4,097 lines of 80 bytes
pub text_fits : (s : List ℕ) → length (recording_text s) ≤ text_room
unfolding recording_text
text_fits s = omega (arith, lines_short (recording_lines (recording s)), recording_long s)

pub room_for_all : (s : List ℕ) (size : ℕ) → text_room ≤ size → leb text_room size ≡ leb (length (recording_text s)) size
room_for_all s size h =
    let fits : length (recording_text s) ≤ size = omega (arith, text_fits s) in
    le-leb text_room size h ∙ sym (le-leb (length (recording_text s)) size fits)

-- ---- the answer

module _ (bs before : List ℕ) where
  pub answer_text : (after : List ℕ) (to : ℕ) → leb (length bs) (length before) ≡ true → Puts bs before after to
      → (Ok to ≡ answer_of before 0 bs) × (after ≡ buffer_of before 0 bs)
  unfolding answer_of buffer_of
  answer_text after to h p = let z : 0 + length bs ≡ length bs = zero-add _ in (rw (z, h, p.size), rw (z, h) (rw z at p.bytes))

  pub answer_refused : leb (length bs) (length before) ≡ false → (Err refusal.TooLittleRoom ≡ answer_of before 0 bs) × (before ≡ buffer_of before 0 bs)
  unfolding answer_of buffer_of
  answer_refused h = let z : 0 + length bs ≡ length bs = zero-add _ in (rw (z, h), rw (z, h))
