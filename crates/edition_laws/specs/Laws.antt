-- The laws of the two editions, for every call, byte string, place and buffer. Statements only; proofs/EditionBack.antt and
-- proofs/ThereAndBack.antt prove them.
use Rattle.std.specs.Prelude.{◌≡◌, true, List, ℕ, ◌+◌, ◌<◌, ◌≤◌, length, drop, Result, Ok, Err}
use Rattle.refusals.specs.declared.Refusal.{Refusal}
use Rattle.refusals.specs.declared.Refusal.TheVariants as refusal
use Rattle.fields.specs.Bytes.{number_at, has_bytes, put_at}
use Rattle.fields.specs.Fields.{bit}
use Rattle.fields.specs.Laws.{Laws, Longest, Untouched}
use Rattle.records.specs.declared.call.Call.{Call}
use Rattle.records.specs.Call.{read_call}
use Rattle.record_laws.specs.Laws.{CallF32, call_read}
use Rattle.editions.specs.declared.Edition.{Edition}
use Rattle.editions.specs.declared.Converted.{Converted}
use Rattle.editions.specs.Edition.{read_as, record_as, other, answer, buffer}

-- Of each edition: reading what was written gives the call again, writing what was read is no longer and reads the same, and two
-- calls are written to the same bytes exactly when they are equal.
abbrev pub EditionLaws : Edition → Type 0
EditionLaws e = Laws CallF32 (record_as e) (read_as e) call_read

-- the length that a host sets aside, 4 + 2 + 4 · 20 bytes in both
abbrev pub EditionLongest : Edition → Type 0
EditionLongest e = Longest 86 (record_as e) (read_as e) call_read

-- "Bit 22 stays unnamed to every other reader": the call reader, which all of them use, refuses it with 6.
abbrev pub Unnamed : Type 0
Unnamed = (s : List ℕ) (at : ℕ) → has_bytes s at 4 ≡ true → bit 22 (number_at 4 (drop at s)) ≡ true → read_call s at ≡ Err refusal.UnknownMap

-- the answer of a conversion, and the second buffer after it
abbrev pub converted_to : Edition → List ℕ → ℕ → List ℕ → ℕ → Result Converted Refusal
converted_to wanted s at out place = answer wanted (read_as (other wanted) s at) out place

abbrev pub after : Edition → List ℕ → ℕ → List ℕ → ℕ → List ℕ
after wanted s at out place = buffer wanted (read_as (other wanted) s at) out place

-- An accepted conversion of a record that holds the call c.
pub record Converts (wanted : Edition) (s : List ℕ) (at : ℕ) (out : List ℕ) (place next end : ℕ) (c : Call) : Type 0 where
  -- by its own edition the first record reads as the call
  pub holds : read_as (other wanted) s at ≡ call_read c next
  -- the bytes are those of the writer's rules, and no other byte is touched
  pub written : after wanted s at out place ≡ put_at out place (record_as wanted c)
  pub ends : end ≡ place + length (record_as wanted c)
  pub fits : end ≤ length out
  -- the reader moves on
  pub further : at < next
  pub untouched : Untouched out place (record_as wanted c)
  -- by its own edition the converted record reads as the same call
  pub reads : read_as wanted (after wanted s at out place) place ≡ call_read c end
  -- coming back, into any buffer with room: the same call, in the bytes of the writer's rules
  pub back :
      (again : List ℕ) (there : ℕ) → has_bytes again there (length (record_as (other wanted) c)) ≡ true
      → (converted_to (other wanted) (after wanted s at out place) place again there ≡ Ok (record { read = end; written = there + length (record_as (other wanted) c) }))
      × (after (other wanted) (after wanted s at out place) place again there ≡ put_at again there (record_as (other wanted) c))
      × (read_as (other wanted) (after (other wanted) (after wanted s at out place) place again there) there ≡ call_read c (there + length (record_as (other wanted) c)))

-- "Going and coming back gives the same call, bit for bit, in the bytes of the writer's rules."
abbrev pub ThereAndBack : Type 0
ThereAndBack =
    (wanted : Edition) (s : List ℕ) (at : ℕ) (out : List ℕ) (place next end : ℕ) → converted_to wanted s at out place ≡ Ok (record { read = next; written = end })
    → (c : Call) × Converts wanted s at out place next end c

-- a refusal keeps every byte
abbrev pub Kept : Type 0
Kept =
    (wanted : Edition) (s : List ℕ) (at : ℕ) (out : List ℕ) (place : ℕ) (r : Refusal)
    → converted_to wanted s at out place ≡ Err r → after wanted s at out place ≡ out
