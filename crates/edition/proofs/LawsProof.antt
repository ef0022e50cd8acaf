-- Going and coming back, of all records of an input. Assumes nothing.
use mathlib.Core.Path.{◌≡◌, refl, sym, ap, ◌∙◌}
use mathlib.Core.Bool.{Bool, true, false, cond}
use mathlib.Core.List.{List, [], ◌∷◌}
use Prim.Native.Nat.{ℕ, zero, suc, ◌+◌, ◌-◌, ◌<◌, ◌≤◌}
use native.Mathlib.Omega.{arith}
use borrow.Author.Tests.{leb-true, leb-false}
use lib.Dec.{leb}
use lib.ListN.{length, drop, length-append, length-drop}
use lib.Seq.{drop-drop, drop-append_seam}
use Rattle.std.specs.Prelude.{Result, Ok, Err}
use Rattle.refusals.specs.declared.Refusal.{Refusal}
use Rattle.records.specs.declared.call.Call.{Call}
use Rattle.records.specs.declared.call.ReadCall.{ReadCall}
use Rattle.record_laws.specs.Laws.{CallF32}
use Rattle.editions.specs.declared.Edition.{Edition}
use Rattle.editions.specs.Edition.{read_as, record_as, other}
use Rattle.edition_laws.proofs.ThereAndBack.{other_twice}
use Rattle.edition_laws.proofs.EditionBack.{edition_laws, edition_long, edition_held, edition_stands, edition_same}
use Rattle.replay.specs.Recording.{Recorded, ends, no_calls, on_read}
use Rattle.edition.specs.Conversion.{read_records, records, records_of, converted}
use Rattle.edition.specs.Laws.{Enough, calls_of, Back}
use Rattle.edition.proofs.Reading.{read_over, read_bad, read_call_lem}

-- ---- turns

pub enough : Enough
enough e s at zero zero h k = refl
enough e s at zero (suc n) h k = read_over e s at zero (omega arith) ∙ sym (read_over e s at (suc n) (omega arith))
enough e s at (suc m) zero h k = read_over e s at (suc m) (omega arith) ∙ sym (read_over e s at zero (omega arith))
enough e s at (suc m) (suc n) h k = go (leb (length s) at) refl (read_as e s at) refl (λ (next : ℕ). enough e s next m n)
  where
    go : (b : Bool) → leb (length s) at ≡ b → (a : Result ReadCall Refusal) → read_as e s at ≡ a
        → ((next : ℕ) → length s ≤ next + m → length s ≤ next + n → read_records m e s next ≡ read_records n e s next)
        → read_records (suc m) e s at ≡ read_records (suc n) e s at
    go true b a q ih =
        let over : length s ≤ at = leb-true (length s) at b in
        read_over e s at (suc m) over ∙ sym (read_over e s at (suc n) over)
    go false b (Err why) q ih =
        let more : at < length s = leb-false (length s) at b in
        read_bad e s at m why more q ∙ sym (read_bad e s at n why more q)
    go false b (Ok r) q ih =
        let more : at < length s = leb-false (length s) at b in
        let further : at + 4 ≤ r.next = omega (arith, ((edition_laws e).again s at r.call r.next q).0, edition_long e r.call) in
        rw (read_call_lem e s at m r more q, read_call_lem e s at n r more q, ih r.next (omega arith) (omega arith))

-- ---- what was written is read

-- f32s hold the numbers of each call
unfoldable AllF32 : List Recorded → Type 0
AllF32 [] = Unit {0}
AllF32 (k ∷ ks) = CallF32 k.call × AllF32 ks

held : (n : ℕ) (e : Edition) (s : List ℕ) (at : ℕ) → AllF32 (read_records n e s at).calls
unfolding AllF32 read_records
held zero e s at = tt
held (suc n) e s at = go (leb (length s) at) (read_as e s at) refl (held n e s)
  where
    go : (b : Bool) (a : Result ReadCall Refusal) → read_as e s at ≡ a → ((next : ℕ) → AllF32 (read_records n e s next).calls)
        → AllF32 (cond b (no_calls ends) (on_read at a (λ (next : ℕ). read_records n e s next))).calls
    go true a q ih = tt
    go false (Err why) q ih = tt
    go false (Ok r) q ih = (edition_held e s at r.call r.next q, ih r.next)

-- a record has a byte or more
counted : (e : Edition) (ks : List Recorded) → length ks ≤ length (records_of e ks)
unfolding records_of
counted e [] = omega arith
counted e (k ∷ ks) = simp length-append (omega (arith, edition_long e k.call, counted e ks))

-- records that stand from a place on, up to the end
stand : (e : Edition) (ks : List Recorded) → AllF32 ks → (t : List ℕ) (at n : ℕ) → at ≤ length t → drop at t ≡ records_of e ks → length ks ≤ n
    → (calls_of (read_records n e t at).calls ≡ calls_of ks) × ((read_records n e t at).ending ≡ ends)
unfolding AllF32 records_of calls_of
stand e [] f t at n h d l =
    let over : length t ≤ at = omega (arith, length-drop at t, ap length d) in
    (rw (read_over e t at n over), rw (read_over e t at n over))
stand e (k ∷ ks) f t at zero h d l = absurd (omega arith)
stand e (k ∷ ks) f t at (suc n) h d l =
    let r = record_as e k.call in
    let q = edition_stands e t at k.call (records_of e ks) h d f.0 in
    let size : length t - at ≡ length r + length (records_of e ks) = sym (length-drop at t) ∙ ap length d ∙ length-append r (records_of e ks) in
    let more : at < length t = omega (arith, size, edition_long e k.call) in
    let rest : drop (at + length r) t ≡ records_of e ks = sym (drop-drop (length r) at t) ∙ ap (drop (length r)) d ∙ drop-append_seam r (records_of e ks) in
    let ih = stand e ks f.1 t (at + length r) n (omega (arith, size)) rest (omega arith) in
    rw (read_call_lem e t at n (record { call = k.call; next = at + length r }) more q) (ap (λ (cs : List Call). k.call ∷ cs) ih.0, ih.1)

-- ---- and written again

same_records : (e : Edition) (ks ls : List Recorded) → calls_of ks ≡ calls_of ls → records_of e ks ≡ records_of e ls
unfolding calls_of records_of
same_records e [] [] q = refl
same_records e [] (l ∷ ls) q = let z : ◌≡◌ {A = ℕ} 0 1 = cc in absurd (omega arith)
same_records e (k ∷ ks) [] q = let z : ◌≡◌ {A = ℕ} 0 1 = cc in absurd (omega arith)
same_records e (k ∷ ks) (l ∷ ls) q =
    let first : k.call ≡ l.call = cc in
    let others : calls_of ks ≡ calls_of ls = cc in
    rw (first, same_records e ks ls others)

same_length : (e w : Edition) (ks : List Recorded) → length (records_of e ks) ≡ length (records_of w ks)
unfolding records_of
same_length e w [] = refl
same_length e w (k ∷ ks) = simp length-append (omega (arith, edition_same e w k.call, same_length e w ks))

pub back : (wanted : Edition) (s : List ℕ) (x : ℕ) → Back wanted s x
unfolding converted
back wanted s x =
    let ks = (records (other wanted) s).calls in
    let t = x ∷ records_of wanted ks in
    let read = stand wanted ks (held (length s) (other wanted) s 1) t 1 (length t) (omega arith) refl (omega (arith, counted wanted ks)) in
    let again : records_of (other wanted) (records wanted t).calls ≡ records_of (other wanted) ks =
    same_records (other wanted) (records wanted t).calls ks read.0 in
    record {
      same = read.0;
      ending = read.1;
      bytes = rw (other_twice wanted) again;
      answer = rw (other_twice wanted, read.1) (ap (λ (k : ℕ). Ok k) (ap length again ∙ same_length (other wanted) wanted ks));
    }
