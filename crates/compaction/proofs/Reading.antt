-- The calls of a recording, read one after another. Assumes nothing.
use Rattle.std.proofs.Common.{◌≡◌, ℕ, zero, suc, ◌+◌, ◌-◌, ◌<◌, ◌≤◌, List, length, Result, Ok, Err, refl, sym, ap, ◌∙◌, arith, add-zero}
use borrow.Author.Tests.{le-leb, lt-leb}
use Rattle.refusals.specs.declared.Refusal.{Refusal}
use Rattle.refusals.specs.declared.Refusal.TheVariants as refusal
use Rattle.records.specs.Call.{read_call, skipped}
use Rattle.records.specs.declared.call.ReadCall.{ReadCall}
use Rattle.replay.specs.Recording.{Recorded, Calls, no_calls, with_call, ends, stops, read_calls, most_calls}
use Rattle.compaction.specs.declared.BadRecording.{BadRecording}
use Rattle.compaction.specs.declared.BadRecording.TheVariants as bad
use Rattle.compaction.specs.Code.Steps.{scanned}

module _ (s : List ℕ) (at : ℕ) where
  pub calls_over : (k : ℕ) → length s ≤ at → read_calls k s at ≡ no_calls ends
  unfolding read_calls
  calls_over zero h = rw (le-leb (length s) at h)
  calls_over (suc k) h = rw (le-leb (length s) at h)

  pub calls_nine : at < length s → read_calls 0 s at ≡ no_calls (stops refusal.TooManyCalls)
  unfolding read_calls
  calls_nine h = rw (lt-leb (length s) at h)

  pub calls_bad : (k : ℕ) (why : Refusal) → at < length s → read_call s at ≡ Err why → read_calls (suc k) s at ≡ no_calls (stops why)
  unfolding read_calls
  calls_bad k why h e = rw (lt-leb (length s) at h, e)

  pub calls_more : (k : ℕ) (r : ReadCall) → at < length s → read_call s at ≡ Ok r
      → read_calls (suc k) s at ≡ with_call (record { place = at; call = r.call }) (read_calls k s r.next)
  unfolding read_calls
  calls_more k r h e = rw (lt-leb (length s) at h, e)

-- ---- what skipping a call's record tells of reading it

refused_by : (x : Result ReadCall Refusal) (why : Refusal) → skipped x ≡ Err why → x ≡ Err why
refused_by (Err q) why e = cc
refused_by (Ok r) why e = let z : ◌≡◌ {A = ℕ} 0 1 = cc in absurd (omega arith)

record ReadTo (x : Result ReadCall Refusal) (next : ℕ) : Type 0 where
  read : ReadCall
  is : x ≡ Ok read
  place : read.next ≡ next

read_to : (x : Result ReadCall Refusal) (next : ℕ) → skipped x ≡ Ok next → ReadTo x next
read_to (Ok r) next e = record { read = r; is = refl; place = cc }
read_to (Err q) next e = let z : ◌≡◌ {A = ℕ} 0 1 = cc in absurd (omega arith)

-- ---- `scan`

-- the calls before number n are read, and the next begins at a place
pub record Scanning (s : List ℕ) (from at n : ℕ) : Type 0 where
  pub high : n ≤ 4097
  pub is : scanned n (read_calls (4097 - n) s at) ≡ scanned 1 (read_calls most_calls s from)

scanned_none : (n : ℕ) → scanned n (no_calls ends) ≡ Ok tt
unfolding scanned
scanned_none n = refl

scanned_stop : (n : ℕ) (why : Refusal) → scanned n (no_calls (stops why)) ≡ Err (bad.Call n why)
unfolding scanned
scanned_stop n why = rw (add-zero n)

scanned_more : (n : ℕ) (k : Recorded) (c : Calls) → scanned n (with_call k c) ≡ scanned (n + 1) c
unfolding scanned
scanned_more n k c =
    let z : n + suc (length c.calls) ≡ n + 1 + length c.calls = omega arith in
    rw z

module _ {s : List ℕ} {from at n : ℕ} (f : Scanning s from at n) where
  pub scan_over : length s ≤ at → Ok tt ≡ scanned 1 (read_calls most_calls s from)
  scan_over h = sym (scanned_none n) ∙ ap (scanned n) (sym (calls_over s at (4097 - n) h)) ∙ f.is

  pub scan_nine : 4096 < n → at < length s → Err (bad.Call 4097 refusal.TooManyCalls) ≡ scanned 1 (read_calls most_calls s from)
  scan_nine h l =
      let k : 4097 - n ≡ 0 = omega (arith, f.high) in
      let last : n ≡ 4097 = omega (arith, f.high) in
      rw last at (sym (scanned_stop n refusal.TooManyCalls) ∙ ap (scanned n) (sym (rw k (calls_nine s at l))) ∙ f.is)

  pub scan_bad : (x : Result (Unit {0}) BadRecording) → n ≤ 4096 → at < length s
      → (why : Refusal) × (skipped (read_call s at) ≡ Err why) × (x ≡ Err (bad.Call n why)) → x ≡ scanned 1 (read_calls most_calls s from)
  scan_bad x h l (why, e, q) =
      let k : 4097 - n ≡ suc (4096 - n) = omega arith in
      q ∙ sym (scanned_stop n why) ∙ ap (scanned n) (sym (rw k (calls_bad s at (4096 - n) why l (refused_by (read_call s at) why e)))) ∙ f.is

  pub scan_turn : (next : ℕ) → n ≤ 4096 → at < length s → skipped (read_call s at) ≡ Ok next → Scanning s from next (n + 1)
  scan_turn next h l e =
      let to = read_to (read_call s at) next e in
      let k : 4097 - n ≡ suc (4096 - n) = omega arith in
      let j : 4097 - (n + 1) ≡ 4096 - n = omega arith in
      record {
        high = omega arith;
        is =
            rw (j, ← to.place) (sym (scanned_more n (record { place = at; call = to.read.call }) (read_calls (4096 - n) s to.read.next))
            ∙ ap (scanned n) (sym (rw k (calls_more s at (4096 - n) to.read l to.is))) ∙ f.is);
      }
