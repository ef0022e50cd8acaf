-- Going and coming back: the claim about conversions, from the laws of each edition. Assumes nothing.
use mathlib.Core.Path.{◌≡◌, refl, sym, ap, ◌∙◌}
use mathlib.Core.Bool.{Bool, true, false, cond}
use mathlib.Core.List.{List}
use Prim.Native.Nat.{ℕ, ◌+◌}
use native.Mathlib.Omega.{arith}
use borrow.Author.Tests.{leb-true}
use lib.ListN.{length}
use Rattle.std.specs.Prelude.{Result, Ok, Err}
use Rattle.refusals.specs.declared.Refusal.{Refusal}
use Rattle.refusals.specs.declared.Refusal.TheVariants as refusal
use Rattle.fields.specs.Bytes.{has_bytes, put_at}
use Rattle.fields.specs.Writing.{answer_of, buffer_of}
use Rattle.fields.proofs.LawsProof.{untouched}
use Rattle.records.specs.declared.call.Call.{Call}
use Rattle.records.specs.declared.call.ReadCall.{ReadCall}
use Rattle.record_laws.specs.Laws.{CallF32, call_read}
use Rattle.editions.specs.declared.Edition.{Edition}
use Rattle.editions.specs.declared.Edition.TheVariants.{First, Second}
use Rattle.editions.specs.declared.Converted.{Converted}
use Rattle.editions.specs.Edition.{read_as, record_as, other, places, answer, buffer}
use Rattle.edition_laws.specs.Laws.{after, ThereAndBack, Kept}
use Rattle.edition_laws.proofs.EditionBack.{edition_laws, edition_long, edition_held}

pub other_twice : (e : Edition) → other (other e) ≡ e
other_twice First = refl
other_twice Second = refl

-- a conversion of a record that reads as a call
answer_read : (wanted : Edition) (a : Result ReadCall Refusal) (c : Call) (next : ℕ) (out : List ℕ) (place : ℕ) → a ≡ call_read c next
    → (answer wanted a out place ≡ places next (answer_of out place (record_as wanted c))) × (buffer wanted a out place ≡ buffer_of out place (record_as wanted c))
unfolding answer buffer
answer_read wanted a c next out place e = (rw e, rw e)

-- a write with room
room_answer : (out : List ℕ) (place : ℕ) (bs : List ℕ) → has_bytes out place (length bs) ≡ true
    → (answer_of out place bs ≡ Ok (place + length bs)) × (buffer_of out place bs ≡ put_at out place bs)
unfolding answer_of buffer_of
room_answer out place bs h = (rw h, rw h)

-- what an accepted conversion read and wrote
record Accepted (wanted : Edition) (a : Result ReadCall Refusal) (out : List ℕ) (place next end : ℕ) : Type 0 where
  call : Call
  read : a ≡ call_read call next
  room : has_bytes out place (length (record_as wanted call)) ≡ true
  ends : end ≡ place + length (record_as wanted call)

no_places : {A : Type 0} {d : Refusal} {k : Converted} → ◌≡◌ {A = Result Converted Refusal} (Err d) (Ok k) → A
no_places e = absurd cc

accepted : (wanted : Edition) (a : Result ReadCall Refusal) (out : List ℕ) (place next end : ℕ)
    → answer wanted a out place ≡ Ok (record { read = next; written = end }) → Accepted wanted a out place next end
unfolding answer answer_of
accepted wanted (Err d) out place next end e = no_places e
accepted wanted (Ok r) out place next end e = go (has_bytes out place (length (record_as wanted r.call))) refl e
  where
    go : (b : Bool) → has_bytes out place (length (record_as wanted r.call)) ≡ b
        → places r.next (cond b (Ok (place + length (record_as wanted r.call))) (Err refusal.TooLittleRoom)) ≡ Ok (record { read = next; written = end })
        → Accepted wanted (Ok r) out place next end
    go true h e =
        let both : ◌≡◌ {A = Converted} (record { read = r.next; written = place + length (record_as wanted r.call) }) (record { read = next; written = end }) = cc in
        record { call = r.call; read = ap (call_read r.call) (ap (λ (x : Converted). x.read) both); room = h; ends = sym (ap (λ (x : Converted). x.written) both) }
    go false h e = no_places e

pub there_and_back : ThereAndBack
there_and_back wanted s at out place next end e =
    let a = accepted wanted (read_as (other wanted) s at) out place next end e in
    let c = a.call in
    let f : CallF32 c = edition_held (other wanted) s at c next a.read in
    let w = room_answer out place (record_as wanted c) a.room in
    let b : after wanted s at out place ≡ buffer_of out place (record_as wanted c) = (answer_read wanted (read_as (other wanted) s at) c next out place a.read).1 in
    let r : read_as wanted (after wanted s at out place) place ≡ call_read c end =
    ap (λ (o : List ℕ). read_as wanted o place) b ∙ (edition_laws wanted).back out place c f a.room ∙ ap (call_read c) (sym a.ends) in
    let r' : read_as (other (other wanted)) (after wanted s at out place) place ≡ call_read c end =
    ap (λ (x : Edition). read_as x (after wanted s at out place) place) (other_twice wanted) ∙ r in (
      c,
      record {
        holds = a.read;
        written = b ∙ w.1;
        ends = a.ends;
        fits = omega (arith, a.ends, leb-true (place + length (record_as wanted c)) (length out) a.room);
        further =
            omega (arith, ((edition_laws (other wanted)).again s at c next a.read).0, edition_long (other wanted) c);
        untouched = untouched out place (record_as wanted c);
        reads = r;
        back =
            λ again there h.
            let x = answer_read (other wanted) (read_as (other (other wanted)) (after wanted s at out place) place) c end again there r' in
            let y = room_answer again there (record_as (other wanted) c) h in
            (x.0 ∙ ap (places end) y.0, x.1 ∙ y.1, ap (λ (o : List ℕ). read_as (other wanted) o there) x.1 ∙ (edition_laws (other wanted)).back again there c f h);
      },
    )

pub kept : Kept
unfolding answer buffer answer_of buffer_of
kept wanted s at out place r e = go (read_as (other wanted) s at) e
  where
    go : (a : Result ReadCall Refusal) → answer wanted a out place ≡ Err r → buffer wanted a out place ≡ out
    go (Err d) e = refl
    go (Ok k) e = inner (has_bytes out place (length (record_as wanted k.call))) e
      where
        inner : (b : Bool) → places k.next (cond b (Ok (place + length (record_as wanted k.call))) (Err refusal.TooLittleRoom)) ≡ Err r
            → cond b (put_at out place (record_as wanted k.call)) out ≡ out
        inner true e = absurd cc
        inner false e = refl
