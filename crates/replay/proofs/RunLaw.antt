-- The lines that are left, call by call. Assumes nothing.
use Rattle.std.proofs.Common.{◌≡◌, ℕ, zero, suc, ltb, eqb, ◌+◌, ◌-◌, ◌<◌, ◌≤◌, Bool, true, false, cond, List, [], ◌∷◌, length, Result, Ok, Err, None, Some, refl, ap, arith, add-zero}
use borrow.Author.Tests.{le-leb, lt-leb, ltb-true, ltb-false}
use Rattle.std.specs.Iterator.{MakesProgress, item_count}
use Rattle.refusals.specs.Numbers.{number}
use Rattle.refusals.specs.declared.Refusal.{Refusal}
use Rattle.refusals.specs.declared.Refusal.TheVariants as refusal
use Rattle.laws.specs.Config.{validate}
use Rattle.laws.specs.declared.config.InvalidConfig.{InvalidConfig}
use Rattle.guidance.specs.Plane.{fresh, created}
use Rattle.guidance.specs.declared.plane.PlaneGuidance.{PlaneGuidance}
use Rattle.records.specs.Call.{read_call}
use Rattle.records.specs.Config.{read_config}
use Rattle.records.specs.declared.call.ReadCall.{ReadCall}
use Rattle.records.specs.declared.config.ReadConfig.{ReadConfig}
use Rattle.lines.specs.declared.Line.{Line}
use Rattle.replay.specs.declared.run.CallLines.{CallLines}
use Rattle.replay.specs.Recording.{read_calls, recording, most_calls}
use Rattle.replay.specs.Text.{refused_line, stopped_line, call_lines, run_lines, recording_lines}
use Rattle.replay.specs.Code.Performed.{call_line}
use Rattle.replay.specs.Code.Run.{next_read, lines_left, started}

-- the lines of the calls from a place on, of which k may still come, the next with number n
abbrev rest : ℕ → ℕ → PlaneGuidance → List ℕ → ℕ → List Line
rest k n g s at = run_lines n g (read_calls k s at)

module _ (n : ℕ) (g : PlaneGuidance) (s : List ℕ) (at : ℕ) where
  rest_over : (k : ℕ) → length s ≤ at → rest k n g s at ≡ []
  unfolding read_calls run_lines call_lines
  rest_over zero h = rw (le-leb (length s) at h)
  rest_over (suc k) h = rw (le-leb (length s) at h)

  rest_nine : at < length s → rest 0 n g s at ≡ stopped_line (Some n) 9 ∷ []
  unfolding read_calls run_lines call_lines
  rest_nine h = rw (lt-leb (length s) at h, add-zero n)

  rest_bad : (k : ℕ) (why : Refusal) → at < length s → read_call s at ≡ Err why → rest (suc k) n g s at ≡ stopped_line (Some n) (number why) ∷ []
  unfolding read_calls run_lines call_lines
  rest_bad k why h e = rw (lt-leb (length s) at h, e, add-zero n)

  rest_call : (k : ℕ) (r : ReadCall) → at < length s → read_call s at ≡ Ok r
      → rest (suc k) n g s at ≡ (call_line n g r.call).line ∷ rest k (n + 1) (call_line n g r.call).guidance s r.next
  unfolding read_calls run_lines call_lines call_line
  rest_call k r h e =
      let z : n + suc (length (read_calls k s r.next).calls) ≡ n + 1 + length (read_calls k s r.next).calls = omega arith in
      rw (lt-leb (length s) at h, e, z)

-- nothing is left behind the end
pub left_over : (c : CallLines) → length c.recording.now ≤ c.at → lines_left c ≡ []
unfolding lines_left
left_over c h = rest_over c.number c.guidance c.recording.now c.at (4097 - c.number) h

-- a refusal is the last line
only_bad : (c : CallLines) (why : Refusal) → c.at < length c.recording.now → next_read c ≡ Err why
    → lines_left c ≡ stopped_line (Some c.number) (number why) ∷ []
unfolding lines_left next_read
only_bad c why h = go (ltb most_calls c.number) refl
  where
    go : (b : Bool) → ltb most_calls c.number ≡ b → cond b (Err refusal.TooManyCalls) (read_call c.recording.now c.at) ≡ Err why
        → lines_left c ≡ stopped_line (Some c.number) (number why) ∷ []
    go true e q =
        let z : 4097 - c.number ≡ 0 = omega (arith, ltb-true most_calls c.number e) in
        let w : refusal.TooManyCalls ≡ why = cc in
        rw (z, ← w) (rest_nine c.number c.guidance c.recording.now c.at h)
    go false e q =
        let z : 4097 - c.number ≡ suc (4096 - c.number) = omega (arith, ltb-false most_calls c.number e) in
        rw z (rest_bad c.number c.guidance c.recording.now c.at (4096 - c.number) why h q)

pub left_bad : (c d : CallLines) (why : Refusal) → c.at < length c.recording.now → next_read c ≡ Err why → length d.recording.now ≤ d.at
    → lines_left c ≡ stopped_line (Some c.number) (number why) ∷ lines_left d
left_bad c d why h e o = rw (left_over d o) (only_bad c why h e)

-- a call's line, and those after it
pub left_call : (c d : CallLines) (r : ReadCall) → c.at < length c.recording.now → next_read c ≡ Ok r
    → d ≡ record { recording = c.recording; at = r.next; number = c.number + 1; guidance = (call_line c.number c.guidance r.call).guidance }
    → lines_left c ≡ (call_line c.number c.guidance r.call).line ∷ lines_left d
unfolding lines_left next_read
left_call c d r h p q = go (ltb most_calls c.number) refl p
  where
    go : (b : Bool) → ltb most_calls c.number ≡ b → cond b (Err refusal.TooManyCalls) (read_call c.recording.now c.at) ≡ Ok r
        → lines_left c ≡ (call_line c.number c.guidance r.call).line ∷ lines_left d
    go true e p = let z : ◌≡◌ {A = ℕ} 0 1 = cc in absurd (omega arith)
    go false e p =
        let z : 4097 - c.number ≡ suc (4096 - c.number) = omega (arith, ltb-false most_calls c.number e) in
        let w : 4097 - (c.number + 1) ≡ 4096 - c.number = omega arith in
        rw (z, q, w) (rest_call c.number c.guidance c.recording.now c.at (4096 - c.number) r h p)

-- a call that was read is none too many
pub read_few : (c : CallLines) (r : ReadCall) → next_read c ≡ Ok r → c.number ≤ 4096
unfolding next_read
read_few c r = go (ltb most_calls c.number) refl
  where
    go : (b : Bool) → ltb most_calls c.number ≡ b → cond b (Err refusal.TooManyCalls) (read_call c.recording.now c.at) ≡ Ok r → c.number ≤ 4096
    go true e p = let z : ◌≡◌ {A = ℕ} 0 1 = cc in absurd (omega arith)
    go false e p = ltb-false most_calls c.number e

-- with each line fewer are left
pub fewer_left : (c d : CallLines) (l : Line) → lines_left c ≡ l ∷ lines_left d → MakesProgress (λ _. Unit {0}) (item_count lines_left) c (Some l) d
fewer_left c d l e = record { on = λ _. (tt, tt, omega (arith, ap length e)); keeps = tt; rests = λ _. tt }

-- ---- the configuration

-- a configuration that cannot be read
pub start_bad : (s : List ℕ) (x : Result CallLines Line) → (why : Refusal) × (read_config s 0 ≡ Err why) × (x ≡ Err (stopped_line None (number why)))
    → started x ≡ recording_lines (recording s)
unfolding recording recording_lines
start_bad s x (why, e, q) = rw (q, e)

module _ (s : List ℕ) (r : ReadConfig) (e : read_config s 0 ≡ Ok r) where
  -- one that is refused
  pub start_refused : (x : Result CallLines Line) → (f : InvalidConfig) × (created r.config ≡ Err f) × (x ≡ Err (refused_line None f.field))
      → started x ≡ recording_lines (recording s)
  unfolding recording recording_lines created
  start_refused x (f, p, q) = rw (q, e) (go (eqb (validate r.config) 0) p)
    where
      go : (b : Bool) → cond {A = Result PlaneGuidance InvalidConfig} b (Ok (fresh r.config)) (Err (record { field = validate r.config })) ≡ Err f
          → refused_line None f.field ∷ [] ≡ cond b (run_lines 1 (fresh r.config) (read_calls most_calls s r.next)) (refused_line None (validate r.config) ∷ [])
      go true p = let z : ◌≡◌ {A = ℕ} 0 1 = cc in absurd (omega arith)
      go false p = let m : validate r.config ≡ f.field = cc in rw m

  -- one that guides the calls
  pub start_made : (c : CallLines) → created r.config ≡ Ok c.guidance → c.recording.now ≡ s → c.at ≡ r.next → c.number ≡ 1
      → lines_left c ≡ recording_lines (recording s)
  unfolding recording recording_lines created lines_left
  start_made c p here at first = rw (here, at, first, e) (go (eqb (validate r.config) 0) p)
    where
      go : (b : Bool) → cond {A = Result PlaneGuidance InvalidConfig} b (Ok (fresh r.config)) (Err (record { field = validate r.config })) ≡ Ok c.guidance
          → run_lines 1 c.guidance (read_calls most_calls s r.next)
          ≡ cond b (run_lines 1 (fresh r.config) (read_calls most_calls s r.next)) (refused_line None (validate r.config) ∷ [])
      go true p = let m : fresh r.config ≡ c.guidance = cc in rw m
      go false p = let z : ◌≡◌ {A = ℕ} 0 1 = cc in absurd (omega arith)
