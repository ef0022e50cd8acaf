-- `convert_all`, one record at a time: what is written so far, and what is left. Assumes nothing.
use mathlib.Core.Path.{◌≡◌, refl, sym, ap, ◌∙◌}
use mathlib.Core.List.{List, ◌++◌, append_assoc}
use Prim.Native.Nat.{ℕ, suc, ◌+◌, ◌-◌, ◌<◌, ◌≤◌}
use native.Mathlib.Omega.{arith}
use borrow.Author.Tests.{le-leb}
use lib.ListN.{length, length-append}
use Rattle.std.specs.Prelude.{Result, Ok, Err}
use Rattle.refusals.specs.declared.Refusal.{Refusal}
use Rattle.fields.specs.Bytes.{put_at}
use Rattle.fields.specs.Writing.{answer_of}
use Rattle.fields.proofs.FieldLaw.{put_next}
use Rattle.records.specs.declared.call.ReadCall.{ReadCall}
use Rattle.editions.specs.declared.Edition.{Edition}
use Rattle.editions.specs.declared.Converted.{Converted}
use Rattle.editions.specs.Edition.{read_as, record_as, other, answer}
use Rattle.edition_laws.specs.Laws.{converted_to, after}
use Rattle.edition_laws.proofs.ThereAndBack.{there_and_back, kept}
use Rattle.lines.specs.Line.{Puts}
use Rattle.lines.proofs.PutLaw.{long_after}
use Rattle.replay.specs.Recording.{Ending, ends, stops, Calls, no_calls}
use Rattle.replay.proofs.PrintLaw.{Printing, printing_starts, printing_ends}
use Rattle.edition.specs.declared.Refused.{Refused}
use Rattle.edition.specs.declared.Refused.TheVariants.{Record}
use Rattle.edition.specs.Conversion.{read_records, records, records_of, answer_to, converted}
use Rattle.edition.proofs.Reading.{read_over, read_bad, read_call_lem, left, left_short}

-- the calls that are read of an input, and what is written of them
abbrev pub all : Edition → List ℕ → Calls
all wanted s = records (other wanted) s

abbrev pub whole : Edition → List ℕ → List ℕ
whole wanted s = records_of wanted (all wanted s).calls

-- ---- bytes that are put at a place of the whole buffer

module _ {whole before after left : List ℕ} {to : ℕ} (p : Printing whole before after to left) where
  same_size : length after ≡ length before
  same_size = long_after p.put (omega (arith, p.room, ap length p.parts, length-append p.done left))

  module _ (bs more : List ℕ) (e : left ≡ bs ++ more) where
    next_fits : to + length bs ≤ length after
    next_fits = omega (arith, p.room, p.put.size, ap length p.parts, ap length e, length-append p.done left, length-append bs more, same_size)

    next_put : (out : List ℕ) (end : ℕ) → out ≡ put_at after to bs → end ≡ to + length bs → Printing whole before out end more
    next_put out end w q =
        record {
          done = p.done ++ bs;
          parts = p.parts ∙ ap (λ (l : List ℕ). p.done ++ l) e ∙ sym (append_assoc p.done bs more);
          room = p.room;
          put =
              record {
                bytes = put_next before 0 to p.done bs p.put.bytes (omega (arith, p.put.size)) (omega (arith, next_fits, same_size)) w;
                size = omega (arith, q, p.put.size, length-append p.done bs);
              };
        }

-- ---- the records

-- what holds in each turn: n - 1 records are converted, and so many turns may still come
pub record Converting (s : List ℕ) (wanted : Edition) (out₀ out : List ℕ) (at to n : ℕ) : Type 0 where
  pub first : 1 ≤ n
  pub behind : n ≤ at
  pub turns : ℕ
  pub enough : n + turns ≡ length s + 1
  pub count : n + length (read_records turns (other wanted) s at).calls ≡ 1 + length (all wanted s).calls
  pub ending : (read_records turns (other wanted) s at).ending ≡ (all wanted s).ending
  pub printed : Printing (whole wanted s) out₀ out to (left turns wanted s at)

pub converting_starts : (s : List ℕ) (wanted : Edition) (out : List ℕ) → length s ≤ length out → Converting s wanted out out 1 0 1
converting_starts s wanted out h =
    record {
      first = omega arith;
      behind = omega arith;
      turns = length s;
      enough = omega arith;
      count = refl;
      ending = refl;
      printed = printing_starts _ out (omega (arith, left_short (length s) wanted s 1));
    }

module _ {s : List ℕ} {wanted : Edition} {out₀ out : List ℕ} {at to n : ℕ} (f : Converting s wanted out₀ out at to n) where
  abbrev from : Edition
  from = other wanted

  pub same_long : length out ≡ length out₀
  same_long = same_size f.printed

  -- a byte is left, and a turn
  turn_left : at < length s → f.turns ≡ suc (f.turns - 1)
  turn_left h = omega (arith, f.enough, f.behind)

  -- no call is left
  ended : (e : Ending) → read_records f.turns from s at ≡ no_calls e
      → (answer_to (whole wanted s) (length (all wanted s).calls) (all wanted s).ending ≡ answer_to (whole wanted s) (n - 1) e)
      × Puts (whole wanted s) out₀ out to
  unfolding records_of
  ended e q =
      let number : length (all wanted s).calls ≡ n - 1 = omega (arith, rw q at f.count) in
      (rw (← f.ending, q, number), printing_ends f.printed (ap (λ (c : Calls). records_of wanted c.calls) q))

  pub converting_ends : length s ≤ at → (Ok to ≡ (converted wanted s).answer) × (out ≡ put_at out₀ 0 (converted wanted s).bytes)
  unfolding converted
  converting_ends h =
      let e = ended ends (read_over from s at f.turns h) in
      (ap (λ (k : ℕ). Ok k) e.1.size ∙ sym e.0, e.1.bytes)

  -- a record that is read is the next to be written, and has room
  room : (r : ReadCall) → at < length s → read_as from s at ≡ Ok r
      → Printing (whole wanted s) out₀ out to (record_as wanted r.call ++ left (f.turns - 1) wanted s r.next)
  unfolding records_of
  room r h q = rw (turn_left h, read_call_lem from s at (f.turns - 1) r h q) at f.printed

  accepted : (r : ReadCall) → at < length s → read_as from s at ≡ Ok r
      → converted_to wanted s at out to ≡ Ok (record { read = r.next; written = to + length (record_as wanted r.call) })
  unfolding answer answer_of
  accepted r h q =
      let fits = next_fits (room r h q) (record_as wanted r.call) _ refl in
      rw (q, le-leb (to + length (record_as wanted r.call)) (length out) fits)

  not_read : (why : Refusal) → at < length s → converted_to wanted s at out to ≡ Err why → read_as from s at ≡ Err why
  unfolding answer
  not_read why h e = go (read_as from s at) refl e
    where
      go : (a : Result ReadCall Refusal) → read_as from s at ≡ a → answer wanted a out to ≡ Err why → read_as from s at ≡ Err why
      go (Err k) q e = let same : k ≡ why = cc in q ∙ ap (λ (x : Refusal). Err x) same
      go (Ok r) q e =
          let w = sym (accepted r h q) ∙ ap (λ (x : Result ReadCall Refusal). answer wanted x out to) q ∙ e in
          absurd cc

  converting_stops : (why : Refusal) (a : Result Converted Refusal) (out₁ : List ℕ) → at < length s → a ≡ converted_to wanted s at out to
      → out₁ ≡ after wanted s at out to → a ≡ Err why
      → (Err (Record n why) ≡ (converted wanted s).answer) × (out₁ ≡ put_at out₀ 0 (converted wanted s).bytes)
  unfolding converted
  converting_stops why a out₁ h e b q =
      let bad = not_read why h (sym e ∙ q) in
      let over = ended (stops why) (rw (turn_left h) (read_bad from s at (f.turns - 1) why h bad)) in
      let number : 1 + (n - 1) ≡ n = omega (arith, f.first) in
      (rw (over.0, number), b ∙ kept wanted s at out to why (sym e ∙ q) ∙ over.1.bytes)

  -- the same of an error that was made of the refusal
  pub converting_refuses : (x : Result ℕ Refused) (a : Result Converted Refusal) (out₁ : List ℕ) → at < length s → a ≡ converted_to wanted s at out to
      → out₁ ≡ after wanted s at out to → (why : Refusal) × (a ≡ Err why) × (x ≡ Err (Record n why))
      → (x ≡ (converted wanted s).answer) × (out₁ ≡ put_at out₀ 0 (converted wanted s).bytes)
  converting_refuses x a out₁ h e b (why, q, r) =
      let p = converting_stops why a out₁ h e b q in (r ∙ p.0, p.1)

  pub converting_turns : (d : Converted) (a : Result Converted Refusal) (out₁ : List ℕ) → at < length s → a ≡ converted_to wanted s at out to
      → out₁ ≡ after wanted s at out to → a ≡ Ok d → Converting s wanted out₀ out₁ d.read d.written (n + 1) × (at < d.read)
  converting_turns d a out₁ h e b q =
      let done = there_and_back wanted s at out to d.read d.written (sym e ∙ q) in
      let c = done.0 in
      let k = done.1 in
      let r : ReadCall = record { call = c; next = d.read } in
      let step = read_call_lem from s at (f.turns - 1) r h k.holds in (
        record {
          first = omega (arith, f.first);
          behind = omega (arith, f.behind, k.further);
          turns = f.turns - 1;
          enough = omega (arith, f.enough, turn_left h);
          count = omega (arith, rw (turn_left h, step) at f.count);
          ending = rw (turn_left h, step) at f.ending;
          printed = next_put (room r h k.holds) (record_as wanted c) _ refl out₁ d.written (b ∙ k.written) k.ends;
        },
        k.further,
      )
