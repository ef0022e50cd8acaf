-- The laws of the two editions, from those of the call record: a record of the second is one of the first with its fields turned.
-- Assumes nothing.
use mathlib.Core.Path.{◌≡◌, refl, sym, ap, ◌∙◌}
use mathlib.Core.Bool.{Bool, true, false, cond, not, ◌||◌}
use mathlib.Core.List.{List, [], ◌∷◌, ◌++◌, append_assoc}
use Prim.Native.Nat.{ℕ, suc, ◌+◌, ◌-◌, ◌/◌, ◌%◌, ◌<◌, ◌≤◌, ◌^◌}
use native.Mathlib.Omega.{arith}
use borrow.Author.Tests.{le-leb, le-ltb, eqb-true, leb-true}
use lib.Dec.{T, eqb}
use lib.ListN.{length, drop, get_or, replicate, length-append, length-drop}
use Rattle.fields.specs.Bytes.{number_at, bytes_of, has_bytes}
use Rattle.fields.specs.Fields.{Field, bit, size_of, values_at, body_of, Held, number_fields}
use Rattle.fields.specs.Numbers.{floats_of}
use Rattle.fields.proofs.NumberLaw.{number_back, drop_bytes}
use Rattle.fields.proofs.LawsProof.{laws}
use Rattle.records.specs.declared.call.Call.{Call}
use Rattle.records.specs.declared.call.Call.TheVariants.{Prime}
use Rattle.records.specs.declared.call.ReadCall.{ReadCall}
use Rattle.std.specs.Prelude.{Result, Ok, Err}
use Rattle.refusals.specs.declared.Refusal.{Refusal}
use Rattle.refusals.specs.declared.Refusal.TheVariants as refusal
use Rattle.records.specs.Call.{call_fields, complete, unknown, regime_of, call_at, read_call, call_record}
use Rattle.records.proofs.CallLaw.{fields_long, Map, Values, call_values_long, map_below, call_is}
use Rattle.replay.proofs.Window.{call_most, call_within}
use Rattle.record_laws.specs.Laws.{CallF32, call_read}
use Rattle.record_laws.proofs.CallBack.{same_read, complete_is, values_held, held, stands_at, call_laws, call_longest}
use Rattle.editions.specs.declared.Edition.{Edition}
use Rattle.editions.specs.declared.Edition.TheVariants.{First, Second}
use Rattle.editions.specs.Edition.{is_down, flip, flips, flips_standing, mark, fields_of, read_as, record_as}
use Rattle.editions.specs.Code.Steps.{turned}
use Rattle.editions.proofs.FlipLaw.{Wide, call_wide, flip_twice, turned_body, flips_long, four}
use Rattle.editions.proofs.Reading.{placed, below_mark, second_is}
use Rattle.editions.proofs.Writing.{second_long, same_long}
use Rattle.editions.proofs.Writing as writing
use Rattle.edition_laws.specs.Laws.{EditionLaws, EditionLongest, Unnamed}

-- ---- bit 22

-- a map in which bit 22 stands is no map of fields
above : (map : ℕ) → bit 22 map ≡ true → 2 ^ 22 ≤ map
above map e = omega (arith, eqb-true (map / 2 ^ 22 % 2) 1 e)

incomplete : (map : ℕ) → bit 22 map ≡ true → complete map ≡ false
unfolding complete
incomplete map e = rw (fields_long, le-ltb map (2 ^ 22) (above map e))

pub unnamed : Unnamed
unfolding read_call
unnamed s at h e = rw (h, incomplete (number_at 4 (drop at s)) e)

-- ---- the first edition is the call record

no_read : {A : Type 0} {r : Refusal} {c : Call} {n : ℕ} → Err r ≡ call_read c n → A
no_read e = absurd cc

plain_is : (s : List ℕ) (at : ℕ) → bit 22 (number_at 4 (drop at s)) ≡ false → read_as First s at ≡ read_call s at
unfolding read_as read_call
plain_is s at e = rw e

not_first : (s : List ℕ) (at : ℕ) (c : Call) (n : ℕ) → bit 22 (number_at 4 (drop at s)) ≡ true → read_as First s at ≡ call_read c n → ⊥
unfolding read_as
not_first s at c n e q = go (has_bytes s at 4) (complete (number_at 4 (drop at s) - mark)) (rw e at q)
  where
    go : (a b : Bool) → cond (not a) (Err refusal.TooFewBytes) (cond (not b) (Err refusal.UnknownMap) (Err refusal.OtherEdition)) ≡ call_read c n → ⊥
    go false b q = no_read q
    go true false q = no_read q
    go true true q = no_read q

not_call : (s : List ℕ) (at : ℕ) (c : Call) (n : ℕ) → bit 22 (number_at 4 (drop at s)) ≡ true → read_call s at ≡ call_read c n → ⊥
unfolding read_call
not_call s at c n e q = go (has_bytes s at 4) (rw (incomplete (number_at 4 (drop at s)) e) at q)
  where
    go : (a : Bool) → cond (not a) (Err refusal.TooFewBytes) (Err refusal.UnknownMap) ≡ call_read c n → ⊥
    go false q = no_read q
    go true q = no_read q

module _ (s : List ℕ) (at : ℕ) (c : Call) (n : ℕ) where
  pub as_call : read_as First s at ≡ call_read c n → read_call s at ≡ call_read c n
  as_call q = go (bit 22 (number_at 4 (drop at s))) refl
    where
      go : (b : Bool) → bit 22 (number_at 4 (drop at s)) ≡ b → read_call s at ≡ call_read c n
      go true e = absurd (not_first s at c n e q)
      go false e = sym (plain_is s at e) ∙ q

  pub as_first : read_call s at ≡ call_read c n → read_as First s at ≡ call_read c n
  as_first q = go (bit 22 (number_at 4 (drop at s))) refl
    where
      go : (b : Bool) → bit 22 (number_at 4 (drop at s)) ≡ b → read_as First s at ≡ call_read c n
      go true e = absurd (not_call s at c n e q)
      go false e = plain_is s at e ∙ q

first_is : (c : Call) → record_as First c ≡ call_record c
unfolding record_as
first_is c = refl

one : (v w : Call) (a b : ℕ) → call_read v a ≡ call_read w b → v ≡ w
one v w a b e = (same_read v w a b e).0

first_stands : (s : List ℕ) (at : ℕ) (c : Call) (rest : List ℕ) → at ≤ length s → drop at s ≡ record_as First c ++ rest → CallF32 c
    → read_as First s at ≡ call_read c (at + length (record_as First c))
first_stands s at c rest h e f = rw (first_is c) (as_first s at c _ (stands_at s at c rest h (e ∙ rw (first_is c)) f))

first_laws : EditionLaws First
first_laws =
    laws CallF32 (record_as First) (read_as First) call_read first_stands
    (λ s at c next e. held s at c next (as_call s at c next e))
    (λ s at c next e. rw (first_is c) (call_laws.again s at c next (as_call s at c next e)).0)
    one

first_longest : EditionLongest First
first_longest =
    record {
      written = λ c. rw (first_is c) (call_longest.written c);
      stepped = λ s at c next e. call_longest.stepped s at c next (as_call s at c next e);
      reached =
          let r = call_longest.reached in
          (r.0, r.1, as_first r.0 0 r.1 86 r.2);
    }

-- ---- what the second edition's reader reads, the call reader reads of the bytes turned

module _ (s : List ℕ) (at : ℕ) where
  abbrev map_number : ℕ
  map_number = number_at 4 (drop at s)

  abbrev fields_at : ℕ
  fields_at = fields_of map_number

  abbrev size_at : ℕ
  size_at = 4 + size_of call_fields fields_at

  abbrev plain_at : List ℕ
  plain_at = bytes_of 4 fields_at ++ turned call_fields 0 fields_at (drop 4 (drop at s))

  inverted : (a b m d u : Bool) (v c : Call) (n next : ℕ)
      → cond (not a) (Err refusal.TooFewBytes) (cond (not b) (Err refusal.UnknownMap) (cond (not m) (Err refusal.OtherEdition) (cond (not d) (Err refusal.TooFewBytes) (cond u (Err refusal.UnknownKind) (call_read v n))))) ≡ call_read c next
      → (a ≡ true) × (b ≡ true) × (m ≡ true) × (d ≡ true) × (n ≡ next)
  inverted false b m d u v c n next q = no_read q
  inverted true false m d u v c n next q = no_read q
  inverted true true false d u v c n next q = no_read q
  inverted true true true false u v c n next q = no_read q
  inverted true true true true true v c n next q = no_read q
  inverted true true true true false v c n next q = (refl, refl, refl, refl, (same_read v c n next q).1)

  module _ (c : Call) (next : ℕ) (q : read_as Second s at ≡ call_read c next) where
    read_is : (has_bytes s at 4 ≡ true) × (complete fields_at ≡ true) × (bit 22 map_number ≡ true) × (has_bytes s at size_at ≡ true) × (at + size_at ≡ next)
    unfolding read_as
    read_is =
        let vs = flips_standing 0 fields_at (values_at call_fields fields_at (drop (at + 4) s)) in
        inverted (has_bytes s at 4) (complete fields_at) (bit 22 map_number) (has_bytes s at size_at) (unknown (get_or vs 0 0) (get_or vs 1 0))
        (call_at (get_or vs 0 0) (regime_of (get_or vs 1 0)) fields_at (floats_of (drop 2 vs))) c (at + size_at) next q

    room : at + size_at ≤ length s
    room = leb-true (at + size_at) (length s) read_is.3

    map_is : map_number ≡ mark + fields_at
    map_is = rw read_is.2 (omega (arith, above map_number read_is.2))

    turned_is : placed (at + size_at) (read_call plain_at 0) ≡ call_read c next
    turned_is =
        second_is s at fields_at read_is.0 map_is read_is.1 read_is.3 (drop at s) refl (simp length-drop (omega (arith, room)))
        ∙ q

    found : (k : ℕ) × (read_call plain_at 0 ≡ call_read c k)
    found = go (read_call plain_at 0) turned_is
      where
        go : (a : Result ReadCall Refusal) → placed (at + size_at) a ≡ call_read c next → (k : ℕ) × (a ≡ call_read c k)
        go (Err r) e = no_read e
        go (Ok r) e = (r.next, ap (λ (x : Call). call_read x r.next) (same_read r.call c (at + size_at) next e).0)

    plain_map : number_at 4 plain_at ≡ fields_at
    plain_map = number_back 4 fields_at (turned call_fields 0 fields_at (drop 4 (drop at s))) (omega (arith, small))
      where
        small : fields_at < 2 ^ 32
        small = omega (arith, below_mark fields_at read_is.1)

    place_is : found.0 ≡ size_at
    place_is = rw plain_map at (call_within plain_at 0 (record { call = c; next = found.0 }) found.1).0 ∙ omega arith

    second_held : CallF32 c
    second_held = held plain_at 0 c found.0 found.1

    second_no_longer : at + length (record_as Second c) ≤ next
    second_no_longer =
        let short : 0 + length (call_record c) ≤ found.0 = (call_laws.again plain_at 0 c found.0 found.1).0 in
        omega (arith, short, place_is, same_long c, read_is.4)

    second_step : next ≤ at + 86
    second_step = omega (arith, read_is.4, call_most fields_at)

-- ---- the second edition's record, wherever it stands

flips_twice : (fs : List Field) (n : ℕ) (vs : List ℕ) → Wide n fs → Held fs vs → flips n (flips n vs) ≡ vs
unfolding flips Wide Held
flips_twice [] n [] w h = refl
flips_twice [] n (v ∷ vs) w h = absurd h
flips_twice (f ∷ fs) n [] w h = absurd h
flips_twice (f ∷ fs) n (v ∷ vs) w h = go (is_down n) w.0 (flips_twice fs (suc n) vs w.1 h.1)
  where
    go : (d : Bool) → T (not d || eqb f.bytes 4) → flips (suc n) (flips (suc n) vs) ≡ vs
        → cond d (flip (cond d (flip v) v)) (cond d (flip v) v) ∷ flips (suc n) (flips (suc n) vs) ≡ v ∷ vs
    go true t ih =
        let e : f.bytes ≡ 4 = four f.bytes t in
        let small : v < 256 ^ 4 = rw e at h.0 in
        rw (flip_twice v (omega (arith, small)), ih)
    go false t ih = rw ih

second_stands : (s : List ℕ) (at : ℕ) (c : Call) (rest : List ℕ) → at ≤ length s → drop at s ≡ record_as Second c ++ rest → CallF32 c
    → read_as Second s at ≡ call_read c (at + length (record_as Second c))
second_stands s at c rest h e f =
    let m = Map c in
    let body = body_of call_fields m (flips 0 (Values c)) in
    let whole : drop at s ≡ bytes_of 4 (mark + m) ++ (body ++ rest) = e ∙ rw (writing.second_is c) (append_assoc (bytes_of 4 (mark + m)) body rest) in
    let map_at : number_at 4 (drop at s) ≡ mark + m = rw whole (number_back 4 (mark + m) (body ++ rest) (omega (arith, map_below c))) in
    let size : length s - at ≡ length (record_as Second c) + length rest = sym (length-drop at s) ∙ ap length e ∙ length-append (record_as Second c) rest in
    let room : at + (4 + size_of call_fields m) ≤ length s = omega (arith, size, second_long c, h) in
    let twice : flips 0 (flips 0 (Values c)) ≡ Values c = flips_twice call_fields 0 (Values c) call_wide (values_held c f) in
    let turned_back : turned call_fields 0 m (drop 4 (drop at s)) ≡ body_of call_fields m (Values c) ++ rest =
    rw (whole, drop_bytes 4 (mark + m) (body ++ rest), turned_body call_fields 0 m (flips 0 (Values c)) rest call_wide (flips_long 0 (Values c) ∙ call_values_long c), twice) in
    let plain : bytes_of 4 m ++ turned call_fields 0 m (drop 4 (drop at s)) ≡ call_record c ++ rest =
    rw (turned_back, call_is c) (sym (append_assoc (bytes_of 4 m) (body_of call_fields m (Values c)) rest)) in
    let read : read_call (call_record c ++ rest) 0 ≡ call_read c (0 + length (call_record c)) = stands_at (call_record c ++ rest) 0 c rest (omega arith) refl f in
    let by-second = second_is s at m (le-leb _ _ (omega (arith, room))) map_at (complete_is c) (le-leb _ _ room) (drop at s) refl (simp length-drop (omega (arith, room))) in
    sym by-second ∙ rw (plain, read, second_long c)

second_laws : EditionLaws Second
second_laws = laws CallF32 (record_as Second) (read_as Second) call_read second_stands second_held second_no_longer one

-- a prime in whose map every named bit stands
longest : List ℕ
longest = 255 ∷ 255 ∷ 127 ∷ replicate 83 0

longest_read : read_as Second longest 0 ≡ call_read Prime 86
unfolding longest read_as complete unknown call_fields number_fields size_of values_at flips_standing number_at regime_of call_at floats_of
longest_read = refl

second_longest : EditionLongest Second
second_longest =
    record {
      written = λ c. rw (same_long c) (call_longest.written c);
      stepped = second_step;
      reached = (longest, Prime, longest_read);
    }

-- ---- of each edition

-- a record has at least its map
pub edition_long : (e : Edition) (c : Call) → 4 ≤ length (record_as e c)
edition_long First c = rw (first_is c) (omega (arith, same_long c, second_long c))
edition_long Second c = omega (arith, second_long c)

pub edition_laws : (e : Edition) → EditionLaws e
edition_laws First = first_laws
edition_laws Second = second_laws

pub edition_longest : (e : Edition) → EditionLongest e
edition_longest First = first_longest
edition_longest Second = second_longest

-- f32s hold the numbers of a call that was read
pub edition_held : (e : Edition) (s : List ℕ) (at : ℕ) (c : Call) (next : ℕ) → read_as e s at ≡ call_read c next → CallF32 c
edition_held First s at c next e = held s at c next (as_call s at c next e)
edition_held Second s at c next e = second_held s at c next e

-- a record of the edition at the front of what stands from a place on
pub edition_stands : (e : Edition) (s : List ℕ) (at : ℕ) (c : Call) (rest : List ℕ) → at ≤ length s → drop at s ≡ record_as e c ++ rest → CallF32 c
    → read_as e s at ≡ call_read c (at + length (record_as e c))
edition_stands First = first_stands
edition_stands Second = second_stands

-- what was read lies in the string
pub edition_within : (e : Edition) (s : List ℕ) (at : ℕ) (c : Call) (next : ℕ) → read_as e s at ≡ call_read c next → next ≤ length s
edition_within First s at c next q = (call_within s at (record { call = c; next = next }) (as_call s at c next q)).1
edition_within Second s at c next q = omega (arith, room s at c next q, (read_is s at c next q).4)

-- a call's record has one length in both editions
pub edition_same : (e w : Edition) (c : Call) → length (record_as e c) ≡ length (record_as w c)
edition_same First First c = refl
edition_same First Second c = rw (first_is c) (sym (same_long c))
edition_same Second First c = rw (first_is c) (same_long c)
edition_same Second Second c = refl
