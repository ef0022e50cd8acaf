-- Document 02, K14, of call records one behind the other: "convert either edition to the other, written by the writer's rules".
-- Definitions only.
use Rattle.std.specs.Prelude.{◌≡◌, cond, List, [], ◌∷◌, ◌++◌, ℕ, zero, suc, ◌+◌, ◌<◌, ◌≤◌, eqb, leb, length, take, get_or, codes, Some, Result, Ok, Err}
use Rattle.refusals.specs.Numbers.{number}
use Rattle.fields.specs.Bytes.{put_at}
use Rattle.editions.specs.declared.Edition.{Edition}
use Rattle.editions.specs.declared.Edition.TheVariants.{First, Second}
use Rattle.editions.specs.Edition.{read_as, record_as, other}
use Rattle.lines.specs.Line.{text}
use Rattle.replay.specs.Recording.{Recorded, Ending, ends, stops, Calls, no_calls, on_read}
use Rattle.replay.specs.Sizes.{decisive}
use Rattle.replay.specs.Text.{stopped_line}
use Rattle.edition.specs.declared.Refused.{Refused}
use Rattle.edition.specs.declared.Refused.TheVariants.{NoEdition, Record, TooLong}

-- The calls of an edition's records from a place on, in their order. A record has a byte or more: as many turns as s has bytes
-- reach the end.
unfoldable pub read_records : ℕ → Edition → List ℕ → ℕ → Calls
read_records zero e s at = no_calls ends
read_records (suc n) e s at = cond (leb (length s) at) (no_calls ends) (on_read at (read_as e s at) (λ (next : ℕ). read_records n e s next))

-- those of the records behind the first byte
abbrev pub records : Edition → List ℕ → Calls
records e s = read_records (length s) e s 1

-- each call's record in an edition
unfoldable pub records_of : Edition → List Recorded → List ℕ
records_of e [] = []
records_of e (k ∷ ks) = record_as e k.call ++ records_of e ks

-- the bytes that are written to the front of a buffer, and the answer
pub record Conversion : Type 0 where
  pub bytes : List ℕ
  pub answer : Result ℕ Refused

-- a refused record's number counts from 1
abbrev pub answer_to : List ℕ → ℕ → Ending → Result ℕ Refused
answer_to bytes count ends = Ok (length bytes)
answer_to bytes count (stops why) = Err (Record (1 + count) why)

-- each call that was read is written, up to the first record that is refused
unfoldable pub converted : Edition → List ℕ → Conversion
converted wanted s =
    let read = records (other wanted) s in
    let bytes = records_of wanted read.calls in
    record { bytes = bytes; answer = answer_to bytes (length read.calls) read.ending }

abbrev pub nothing : Refused → Conversion
nothing why = record { bytes = []; answer = Err why }

-- An input: its first byte is the wanted edition, 1 or 2, else it is no edition. One that fills the program's buffer is refused.
unfoldable pub conversion : List ℕ → Conversion
conversion s =
    cond (leb decisive (length s)) (nothing TooLong)
    (cond (eqb (get_or s 0 0) 1) (converted First s)
    (cond (eqb (get_or s 0 0) 2) (converted Second s)
    (nothing NoEdition)))

pub record Answers (input before after : List ℕ) (r : Result ℕ Refused) : Type 0 where
  pub answer : r ≡ (conversion input).answer
  pub buffer : after ≡ put_at before 0 (conversion input).bytes
  -- what goes to standard output
  pub output : (n : ℕ) → r ≡ Ok n → take n after ≡ (conversion input).bytes
  pub within : (n : ℕ) → r ≡ Ok n → n ≤ length after

-- Bytes were read until the input ended or the buffer was full; `rest` is whatever follows them: the whole input is answered.
pub record AnswersWhole (read before after : List ℕ) (r : Result ℕ Refused) : Type 0 where
  pub whole : (rest : List ℕ) → (length read < decisive → rest ≡ []) → Answers (read ++ rest) before after r

-- What goes to standard output: the records, or nothing where one of them is refused or the input is too long.
abbrev pub written : Result ℕ Refused → List ℕ → List ℕ
written (Ok n) bytes = bytes
written (Err why) bytes = []

abbrev pub output_of : List ℕ → List ℕ
output_of input = written (conversion input).answer (conversion input).bytes

-- What goes to standard error: a line where something is refused. A record's is `n stopped R`, with its number and the refusal's.
abbrev pub told : Result ℕ Refused → List ℕ
told (Ok n) = []
told (Err NoEdition) = codes "config stopped 255\n"
told (Err (Record n why)) = text (stopped_line (Some n) (number why))
told (Err TooLong) = codes "edition: standard input has more than 352393 bytes\n"
