-- Document 02, K14: "a second edition of the call record has bit 22 standing with no field; in it altitude (bit 11), position z
-- (bit 15) and velocity z (bit 18) have their sign bit flipped; a missing one still means a call value of +0". Definitions only.
use Rattle.std.specs.Prelude.{Bool, cond, not, ◌&&◌, ◌||◌, List, [], ◌∷◌, ◌++◌, ℕ, suc, ◌+◌, ◌-◌, ◌/◌, ◌%◌, ◌^◌, eqb, drop, get_or, Result, Ok, Err}
use Rattle.std.specs.Result.{result_map_both}
use Rattle.refusals.specs.declared.Refusal.{Refusal}
use Rattle.refusals.specs.declared.Refusal.TheVariants as refusal
use Rattle.fields.specs.Bytes.{number_at, bytes_of, has_bytes}
use Rattle.fields.specs.Fields.{stands, bit, size_of, values_at, body_of}
use Rattle.fields.specs.Numbers.{floats_of}
use Rattle.fields.specs.Writing.{answer_of, buffer_of}
use Rattle.records.specs.declared.call.Call.{Call}
use Rattle.records.specs.declared.call.ReadCall.{ReadCall}
use Rattle.records.specs.Call.{call_fields, complete, unknown, regime_of, call_at, parts_of, values_of, map_of_parts, call_record}
use Rattle.editions.specs.declared.Edition.{Edition}
use Rattle.editions.specs.declared.Edition.TheVariants.{First, Second}
use Rattle.editions.specs.declared.Converted.{Converted}

-- the edition of a number: another is no request
abbrev pub edition_of : ℕ → Result Edition Refusal
edition_of n = cond (eqb n 1) (Ok First) (cond (eqb n 2) (Ok Second) (Err refusal.UnknownRequest))

-- ---- what is flipped

-- altitude (bit 11), position z (bit 15) and velocity z (bit 18)
abbrev pub is_down : ℕ → Bool
is_down n = eqb n 11 || eqb n 15 || eqb n 18

-- the bits of a number with the sign bit flipped
abbrev pub flip : ℕ → ℕ
flip v = (v + 2 ^ 31) % 2 ^ 32

-- the values of fields, the first of them bit n: as a call has them, and as the second edition stores them
unfoldable pub flips : ℕ → List ℕ → List ℕ
flips n [] = []
flips n (v ∷ vs) = cond (is_down n) (flip v) v ∷ flips (suc n) vs

-- values that were read with the map m: only a field that stands is flipped, so that "a missing one still means a call value of +0"
unfoldable pub flips_standing : ℕ → ℕ → List ℕ → List ℕ
flips_standing n m [] = []
flips_standing n m (v ∷ vs) = cond (stands m && is_down n) (flip v) v ∷ flips_standing (suc n) (m / 2) vs

-- ---- the map

-- "bit 22 standing with no field"
abbrev pub mark : ℕ
mark = 2 ^ 22

-- whether a map is one of an edition
abbrev pub is_of : Edition → ℕ → Bool
is_of First map = not (bit 22 map)
is_of Second map = bit 22 map

-- a map without bit 22
abbrev pub fields_of : ℕ → ℕ
fields_of map = cond (bit 22 map) (map - mark) map

-- ---- reading

-- the call's values, of those that a record of an edition holds with the map m
abbrev pub call_values : Edition → ℕ → List ℕ → List ℕ
call_values First m vs = vs
call_values Second m vs = flips_standing 0 m vs

-- A record read as one of an edition: 5 for a place past the end or a map cut short, 6, where only bits 23 to 31 are unnamed,
-- 15 for a record of the other edition, 5 for fewer bytes than the map demands, 7.
unfoldable pub read_as : Edition → List ℕ → ℕ → Result ReadCall Refusal
read_as e s at =
    let map = number_at 4 (drop at s) in
    let m = fields_of map in
    let size = 4 + size_of call_fields m in
    let values = call_values e m (values_at call_fields m (drop (at + 4) s)) in
    let kind = get_or values 0 0 in
    let regime = get_or values 1 0 in
    cond (not (has_bytes s at 4)) (Err refusal.TooFewBytes)
    (cond (not (complete m)) (Err refusal.UnknownMap)
    (cond (not (is_of e map)) (Err refusal.OtherEdition)
    (cond (not (has_bytes s at size)) (Err refusal.TooFewBytes)
    (cond (unknown kind regime) (Err refusal.UnknownKind)
    (Ok (record { call = call_at kind (regime_of regime) m (floats_of (drop 2 values)); next = at + size }))))))

-- ---- writing

-- A call's record by the writer's rules: what missing would give, a call value of +0, is left out in both.
unfoldable pub record_as : Edition → Call → List ℕ
record_as First c = call_record c
record_as Second c =
    let p = parts_of c in
    bytes_of 4 (mark + map_of_parts p) ++ body_of call_fields (map_of_parts p) (flips 0 (values_of p))

-- ---- converting

-- a record that is not yet of the wanted edition is one of the other
abbrev pub other : Edition → Edition
other First = Second
other Second = First

-- the place after the record that was read goes with the writer's answer
abbrev pub places : ℕ → Result ℕ Refusal → Result Converted Refusal
places next w = result_map_both (λ n. record { read = next; written = n }) (λ e. e) w

-- the answer: the reader's refusal (15: the record is already of the wanted edition), or 8, or both places
unfoldable pub answer : Edition → Result ReadCall Refusal → List ℕ → ℕ → Result Converted Refusal
answer wanted (Err e) out place = Err e
answer wanted (Ok r) out place = places r.next (answer_of out place (record_as wanted r.call))

-- the second buffer afterwards: a refusal keeps every byte
unfoldable pub buffer : Edition → Result ReadCall Refusal → List ℕ → ℕ → List ℕ
buffer wanted (Err e) out place = out
buffer wanted (Ok r) out place = buffer_of out place (record_as wanted r.call)
