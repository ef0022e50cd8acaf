-- Reading the short recording. Assumes nothing.
use mathlib.Core.Path.{◌≡◌, refl, sym, ap, ◌∙◌}
use mathlib.Core.Bool.{Bool, true, false}
use mathlib.Core.List.{List, [], ◌∷◌, ◌++◌}
use Prim.Native.Nat.{ℕ, zero, suc, ◌+◌, ◌<◌, ◌≤◌}
use native.Mathlib.Omega.{arith}
use borrow.Author.Tests.{leb-true, leb-false}
use lib.Dec.{leb}
use lib.ListN.{length, take, drop, length-append, length-drop, take-append-drop, drop_of_length-le}
use lib.Seq.{drop-drop, length-take-le, take_at, drop_at}
use Rattle.std.specs.Prelude.{Result, Ok, Err}
use Rattle.refusals.specs.declared.Refusal.{Refusal}
use Rattle.refusals.specs.declared.Refusal.TheVariants as refusal
use Rattle.claims.specs.Calls.{Call, unmarked}
use Rattle.fields.specs.Bytes.{number_at}
use Rattle.fields.specs.Fields.{size_of}
use Rattle.records.specs.Call.{call_fields, read_call}
use Rattle.records.specs.declared.call.ReadCall.{ReadCall}
use Rattle.calls.specs.Calls.{call_of}
use Rattle.replay.specs.Recording.{Recorded, Calls, no_calls, with_call, ends, stops, read_calls}
use Rattle.replay.proofs.Window.{moved, call_at_lem, call_same, call_within}
use Rattle.compaction.specs.Compaction.{record_at, records_at, calls_of}
use Rattle.compaction.proofs.Reading.{calls_over, calls_nine, calls_bad, calls_more}

-- a recorded call is what the reader gives at its place
pub record ReadAt (s : List ℕ) (k : Recorded) : Type 0 where
  pub next : ℕ
  pub is : read_call s k.place ≡ Ok (record { call = k.call; next = next })
  pub within : k.place ≤ length s

pub data AllRead (s : List ℕ) : List Recorded → Type 0 where
  none : AllRead s []
  one : {k : Recorded} {ks : List Recorded} → ReadAt s k → AllRead s ks → AllRead s (k ∷ ks)

pub all_unmarked : {s : List ℕ} (ms : List Bool) {ks : List Recorded} → AllRead s ks → AllRead s (unmarked ms ks)
unfolding unmarked
all_unmarked [] a = a
all_unmarked (m ∷ ms) none = none
all_unmarked (true ∷ ms) (one k a) = all_unmarked ms a
all_unmarked (false ∷ ms) (one k a) = one k (all_unmarked ms a)

pub fewer : {A : Type 0} (ms : List Bool) (xs : List A) → length (unmarked ms xs) ≤ length xs
unfolding unmarked
fewer [] xs = omega arith
fewer (m ∷ ms) [] = omega arith
fewer (true ∷ ms) (x ∷ xs) = omega (arith, fewer ms xs)
fewer (false ∷ ms) (x ∷ xs) = omega (arith, fewer ms xs)

pub calls_unmarked : (ms : List Bool) (ks : List Recorded) → calls_of (unmarked ms ks) ≡ unmarked ms (calls_of ks)
unfolding unmarked calls_of
calls_unmarked [] ks = refl
calls_unmarked (m ∷ ms) [] = refl
calls_unmarked (true ∷ ms) (k ∷ ks) = calls_unmarked ms ks
calls_unmarked (false ∷ ms) (k ∷ ks) = ap (λ (l : List Call). call_of k.call ∷ l) (calls_unmarked ms ks)

pub calls_long : (ks : List Recorded) → length (calls_of ks) ≡ length ks
unfolding calls_of
calls_long [] = refl
calls_long (k ∷ ks) = ap suc (calls_long ks)

-- ---- what `read_calls` gives

records_cons : (s : List ℕ) (k : Recorded) (ks : List Recorded) → records_at s (k ∷ ks) ≡ record_at s k.place ++ records_at s ks
unfolding records_at
records_cons s k ks = refl

records_none : (s : List ℕ) → records_at s [] ≡ []
unfolding records_at
records_none s = refl

-- the calls that were read, few enough, whose records fill the string to its end
pub record Whole (s : List ℕ) (n at : ℕ) (c : Calls) : Type 0 where
  pub read : AllRead s c.calls
  pub few : length c.calls ≤ n
  pub fills : c.ending ≡ ends → records_at s c.calls ≡ drop at s

whole_over : (s : List ℕ) (n at : ℕ) → length s ≤ at → Whole s n at (no_calls ends)
whole_over s n at l = record { read = none; few = omega arith; fills = λ q. records_none s ∙ sym (drop_of_length-le s l) }

whole_stops : (s : List ℕ) (n at : ℕ) (why : Refusal) → Whole s n at (no_calls (stops why))
whole_stops s n at why = record {
  read = none;
  few = omega arith;
  fills = λ (q : stops why ≡ ends). let z : ◌≡◌ {A = ℕ} 0 1 = cc in absurd (omega arith);
}

whole_more : (s : List ℕ) (n at : ℕ) (r : ReadCall) (c : Calls) → at ≤ length s → read_call s at ≡ Ok r → Whole s n r.next c
    → Whole s (suc n) at (with_call (record { place = at; call = r.call }) c)
unfolding record_at
whole_more s n at r c h e w =
    let size = 4 + size_of call_fields (number_at 4 (drop at s)) in
    let place : r.next ≡ at + size = (call_within s at r e).0 in
    record {
      read = one (record { next = r.next; is = e; within = h }) w.read;
      few = omega (arith, w.few);
      fills = λ q.
          records_cons s (record { place = at; call = r.call }) c.calls
          ∙ ap (λ (l : List ℕ). record_at s at ++ l) (w.fills q ∙ ap (λ (j : ℕ). drop j s) place ∙ sym (drop-drop size at s))
          ∙ take-append-drop size (drop at s);
    }

pub whole : (s : List ℕ) (n at : ℕ) → at ≤ length s → Whole s n at (read_calls n s at)
whole s zero at h = go (leb (length s) at) refl
  where
    go : (b : Bool) → leb (length s) at ≡ b → Whole s 0 at (read_calls 0 s at)
    go true e = let l : length s ≤ at = leb-true (length s) at e in rw (calls_over s at 0 l) (whole_over s 0 at l)
    go false e = rw (calls_nine s at (leb-false (length s) at e)) (whole_stops s 0 at refusal.TooManyCalls)
whole s (suc n) at h = go (leb (length s) at) refl (λ (next : ℕ). whole s n next)
  where
    onward : at < length s → (r : Result ReadCall Refusal) → read_call s at ≡ r
        → ((next : ℕ) → next ≤ length s → Whole s n next (read_calls n s next)) → Whole s (suc n) at (read_calls (suc n) s at)
    onward l (Err why) e ih = rw (calls_bad s at n why l e) (whole_stops s (suc n) at why)
    onward l (Ok r) e ih = rw (calls_more s at n r l e) (whole_more s n at r (read_calls n s r.next) h e (ih r.next (call_within s at r e).1))

    go : (b : Bool) → leb (length s) at ≡ b → ((next : ℕ) → next ≤ length s → Whole s n next (read_calls n s next)) → Whole s (suc n) at (read_calls (suc n) s at)
    go true e ih = let l : length s ≤ at = leb-true (length s) at e in rw (calls_over s at (suc n) l) (whole_over s (suc n) at l)
    go false e ih = onward (leb-false (length s) at e) (read_call s at) refl ih

-- ---- records read again where they stand one after another

-- the calls with their new places
unfoldable pub placed : List ℕ → ℕ → List Recorded → List Recorded
placed s at [] = []
placed s at (k ∷ ks) = record { place = at; call = k.call } ∷ placed s (at + length (record_at s k.place)) ks

pub calls_placed : (s : List ℕ) (at : ℕ) (ks : List Recorded) → calls_of (placed s at ks) ≡ calls_of ks
unfolding placed calls_of
calls_placed s at [] = refl
calls_placed s at (k ∷ ks) = ap (λ (l : List Call). call_of k.call ∷ l) (calls_placed s (at + length (record_at s k.place)) ks)

-- a reader's answer at a place, from the one at 0
back : (p : ℕ) (x : Result ReadCall Refusal) (r : ReadCall) → moved p x ≡ Ok r → (m : ℕ) → r.next ≡ p + m → x ≡ Ok (record { call = r.call; next = m })
back p (Err why) r e m q = let z : ◌≡◌ {A = ℕ} 0 1 = cc in absurd (omega arith)
back p (Ok j) r e m q =
    let a : j.call ≡ r.call = cc in
    let b : p + j.next ≡ r.next = cc in
    let d : j.next ≡ m = omega arith in
    rw (← a, ← d)

module _ (s : List ℕ) (k : Recorded) (r : ReadAt s k) where
  abbrev Size : ℕ
  Size = 4 + size_of call_fields (number_at 4 (drop k.place s))

  place_after : (r.next ≡ k.place + Size) × (r.next ≤ length s)
  place_after = call_within s k.place (record { call = k.call; next = r.next }) r.is

  read_rest : read_call (drop k.place s) 0 ≡ Ok (record { call = k.call; next = Size })
  read_rest = back k.place (read_call (drop k.place s) 0) (record { call = k.call; next = r.next }) (sym (call_at_lem s k.place r.within) ∙ r.is) Size place_after.0

  record_long : length (record_at s k.place) ≡ Size
  unfolding record_at
  record_long = length-take-le Size (drop k.place s) (simp length-drop (omega (arith, place_after.0, place_after.1)))

  record_front : take Size (drop k.place s) ≡ record_at s k.place
  unfolding record_at
  record_front = refl

  -- the same record at another place
  read_moved : (t : List ℕ) (at : ℕ) (rest : List ℕ) → at ≤ length t → drop at t ≡ record_at s k.place ++ rest → read_call t at ≡ Ok (record { call = k.call; next = at + Size })
  read_moved t at rest h e =
      let alike : take Size (drop k.place s) ≡ take Size (drop at t) = record_front ∙ sym (ap (take Size) e ∙ take_at (record_at s k.place) rest Size record_long) in
      let same : read_call (drop at t) 0 ≡ Ok (record { call = k.call; next = Size }) = sym (call_same Size (drop k.place s) (drop at t) alike (omega arith)) ∙ read_rest in
      call_at_lem t at h ∙ ap (moved at) same

  rest_moved : (t : List ℕ) (at : ℕ) (rest : List ℕ) → drop at t ≡ record_at s k.place ++ rest → drop (at + Size) t ≡ rest
  rest_moved t at rest e = sym (drop-drop Size at t) ∙ ap (drop Size) e ∙ drop_at (record_at s k.place) rest Size record_long

  room_moved : (t : List ℕ) (at : ℕ) (rest : List ℕ) → at ≤ length t → drop at t ≡ record_at s k.place ++ rest → at + Size ≤ length t
  room_moved t at rest h e = omega (arith, ap length e, length-drop at t, length-append (record_at s k.place) rest, record_long)

pub read_placed : (s t : List ℕ) (n at : ℕ) {ks : List Recorded} → AllRead s ks → length ks ≤ n → at ≤ length t → drop at t ≡ records_at s ks
    → read_calls n t at ≡ record { calls = placed s at ks; ending = ends }
unfolding placed
read_placed s t n at none l h e = calls_over t at n (omega (arith, ap length (e ∙ records_none s), length-drop at t))
read_placed s t zero at (one {k} {ks} r a) l h e = absurd (omega arith)
read_placed s t (suc n) at (one {k} {ks} r a) l h e =
    let e' : drop at t ≡ record_at s k.place ++ records_at s ks = e ∙ records_cons s k ks in
    let room : at + Size s k r ≤ length t = room_moved s k r t at (records_at s ks) h e' in
    let long : length (record_at s k.place) ≡ Size s k r = record_long s k r in
    let ih : read_calls n t (at + Size s k r) ≡ record { calls = placed s (at + Size s k r) ks; ending = ends } =
    read_placed s t n (at + Size s k r) a (omega arith) room (rest_moved s k r t at (records_at s ks) e') in
    rw (calls_more t at n (record { call = k.call; next = at + Size s k r }) (omega arith) (read_moved s k r t at (records_at s ks) h e'), ih, long)
