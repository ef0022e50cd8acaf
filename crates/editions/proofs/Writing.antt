-- Writing a record of the second edition: the first edition's, turned in its place. Assumes nothing.
use mathlib.Core.Path.{◌≡◌, refl, sym, ap, ◌∙◌}
use mathlib.Core.Bool.{Bool, true, false, cond}
use mathlib.Core.List.{List, ◌++◌, append_assoc}
use Prim.Native.Nat.{ℕ, ◌+◌, ◌-◌, ◌≤◌}
use native.Mathlib.Omega.{arith}
use borrow.Author.Tests.{leb-true}
use borrow.Rule.Slice.PartMut.{put_mid}
use lib.ListN.{length, take, drop, length-append}
use lib.Seq.{take_at, drop_at, length-take-le}
use Rattle.std.specs.Prelude.{Result, Ok, Err}
use Rattle.refusals.specs.declared.Refusal.{Refusal}
use Rattle.refusals.specs.declared.Refusal.TheVariants as refusal
use Rattle.fields.specs.Bytes.{number_at, bytes_of, has_bytes, put_at}
use Rattle.fields.specs.Fields.{size_of, body_of}
use Rattle.fields.specs.Writing.{answer_of, buffer_of}
use Rattle.fields.proofs.NumberLaw.{bytes_long, number_back, drop_bytes}
use Rattle.fields.proofs.FieldLaw.{body_long, rest_is, rest_back}
use Rattle.records.specs.declared.call.Call.{Call}
use Rattle.records.specs.declared.call.ReadCall.{ReadCall}
use Rattle.records.specs.Call.{call_fields, call_record}
use Rattle.records.proofs.CallLaw.{Map, Values, call_values_long, map_below, call_is, call_long}
use Rattle.editions.specs.declared.Edition.{Edition}
use Rattle.editions.specs.declared.Edition.TheVariants.{Second}
use Rattle.editions.specs.Edition.{mark, flips, record_as, places, answer, buffer}
use Rattle.editions.specs.Code.Steps.{turned, turned_record}
use Rattle.editions.proofs.FlipLaw.{call_wide, turned_body, flips_long}

-- `turn_record`: p₁ and p₂ are what turning and writing the map make of p
pub record_turned : (p p₁ p₂ : List ℕ) (m : ℕ) → 4 ≤ length p → m ≡ number_at 4 p
    → p₁ ≡ take 4 p ++ turned call_fields 0 m (drop 4 p) → p₂ ≡ bytes_of 4 (mark + m) ++ drop 4 p₁
    → p₂ ≡ turned_record p
record_turned p p₁ p₂ m h em e₁ e₂ =
    let front : length (take 4 p) ≡ 4 = length-take-le 4 p h in
    e₂ ∙ rw (e₁, drop_at (take 4 p) (turned call_fields 0 m (drop 4 p)) 4 front, em)

-- `convert`: the reader's refusal, or the writer's answer
module _ (wanted : Edition) (a : Result ReadCall Refusal) (out : List ℕ) (place : ℕ) where
  pub refusal_is : (d : Refusal) → a ≡ Err d → (Err d ≡ answer wanted a out place) × (out ≡ buffer wanted a out place)
  unfolding answer buffer
  refusal_is d e = (rw e, rw e)

  pub places_are : (r : ReadCall) → a ≡ Ok r → (w : Result ℕ Refusal) (out₁ : List ℕ) → w ≡ answer_of out place (record_as wanted r.call)
      → out₁ ≡ buffer_of out place (record_as wanted r.call) → (places r.next w ≡ answer wanted a out place) × (out₁ ≡ buffer wanted a out place)
  unfolding answer buffer
  places_are r e w out₁ ew eo = (rw e (ap (places r.next) ew), rw e eo)

module _ (c : Call) where
  pub second_is : record_as Second c ≡ bytes_of 4 (mark + Map c) ++ body_of call_fields (Map c) (flips 0 (Values c))
  unfolding record_as
  second_is = refl

  pub second_long : length (record_as Second c) ≡ 4 + size_of call_fields (Map c)
  second_long =
      rw second_is
      (length-append (bytes_of 4 (mark + Map c)) (body_of call_fields (Map c) (flips 0 (Values c)))
      ∙ omega (arith, bytes_long 4 (mark + Map c), body_long call_fields (flips 0 (Values c)) (Map c) (flips_long 0 (Values c) ∙ call_values_long c)))

  pub same_long : length (record_as Second c) ≡ length (call_record c)
  same_long = second_long ∙ sym (call_long c)

  -- a record of the first edition at the front of bytes
  module _ (rest : List ℕ) where
    whole : call_record c ++ rest ≡ bytes_of 4 (Map c) ++ (body_of call_fields (Map c) (Values c) ++ rest)
    whole = rw (call_is c) (append_assoc (bytes_of 4 (Map c)) (body_of call_fields (Map c) (Values c)) rest)

    pub front_map : number_at 4 (call_record c ++ rest) ≡ Map c
    front_map = rw whole (number_back 4 (Map c) (body_of call_fields (Map c) (Values c) ++ rest) (omega (arith, map_below c)))

    pub front_room : 4 + size_of call_fields (number_at 4 (call_record c ++ rest)) ≤ length (call_record c ++ rest)
    front_room = rw front_map (omega (arith, call_long c, length-append (call_record c) rest))

    pub turned_is : turned_record (call_record c ++ rest) ≡ record_as Second c ++ rest
    turned_is =
        rw
        (front_map, whole, drop_bytes 4 (Map c) (body_of call_fields (Map c) (Values c) ++ rest), turned_body call_fields 0 (Map c) (Values c) rest call_wide (call_values_long c), second_is)
        (sym (append_assoc (bytes_of 4 (mark + Map c)) (body_of call_fields (Map c) (flips 0 (Values c))) rest))

  -- the writer's answer goes by the length alone
  module _ (out : List ℕ) (at : ℕ) where
    pub same_answer : answer_of out at (call_record c) ≡ answer_of out at (record_as Second c)
    unfolding answer_of
    same_answer = rw same_long

    pub kept : (r : Refusal) (out₁ : List ℕ) → Err r ≡ answer_of out at (call_record c) → out₁ ≡ buffer_of out at (call_record c)
        → (Err r ≡ answer_of out at (record_as Second c)) × (out₁ ≡ buffer_of out at (record_as Second c))
    unfolding answer_of buffer_of
    kept r out₁ ea eb = rw same_long (go (has_bytes out at (length (call_record c))) ea eb)
      where
        go : (b : Bool) → Err r ≡ cond b (Ok (at + length (call_record c))) (Err refusal.TooLittleRoom) → out₁ ≡ cond b (put_at out at (call_record c)) out
            → (Err r ≡ cond b (Ok (at + length (call_record c))) (Err refusal.TooLittleRoom))
            × (out₁ ≡ cond b (take at out ++ (record_as Second c ++ drop (at + length (call_record c)) out)) out)
        go true ea eb = absurd cc
        go false ea eb = (ea, eb)

    -- the buffer after the writer has a record of the first edition at the place
    module _ (n : ℕ) (out₁ : List ℕ) (ea : Ok n ≡ answer_of out at (call_record c)) (eb : out₁ ≡ buffer_of out at (call_record c)) where
      room_is : has_bytes out at (length (call_record c)) ≡ true
      unfolding answer_of
      room_is = go (has_bytes out at (length (call_record c))) ea
        where
          go : (b : Bool) → Ok n ≡ cond b (Ok (at + length (call_record c))) (Err refusal.TooLittleRoom) → b ≡ true
          go true e = refl
          go false e = absurd cc

      has_room : at + length (call_record c) ≤ length out
      has_room = leb-true (at + length (call_record c)) (length out) room_is

      abbrev Rest : List ℕ
      Rest = drop (at + length (call_record c)) out

      written : out₁ ≡ take at out ++ (call_record c ++ Rest)
      unfolding buffer_of
      written = eb ∙ rw room_is

      front_long : length (take at out) ≡ at
      front_long = length-take-le at out (omega (arith, has_room))

      pub place_in : at ≤ length out₁
      place_in = rw written (omega (arith, length-append (take at out) (call_record c ++ Rest), front_long))

      part_is : take (length out₁ - at) (drop at out₁) ≡ call_record c ++ Rest
      part_is = rest_is out₁ at ∙ rw written (drop_at (take at out) (call_record c ++ Rest) at front_long)

      pub part_room : 4 + size_of call_fields (number_at 4 (take (length out₁ - at) (drop at out₁))) ≤ length (take (length out₁ - at) (drop at out₁))
      part_room = rw part_is (front_room Rest)

      pub turned_in : (p : List ℕ) → p ≡ turned_record (take (length out₁ - at) (drop at out₁))
          → (Ok n ≡ answer_of out at (record_as Second c)) × (put_mid at (length out₁ - at) out₁ p ≡ buffer_of out at (record_as Second c))
      unfolding buffer_of
      turned_in p ep =
          let there : p ≡ record_as Second c ++ Rest = ep ∙ ap turned_record part_is ∙ turned_is Rest in
          let front : take at out₁ ≡ take at out = rw written (take_at (take at out) (call_record c ++ Rest) at front_long) in
          (ea ∙ same_answer, rest_back out₁ p at place_in ∙ rw (front, there, same_long, room_is))
