-- "The record is written from a place in the buffer that the host names; other bytes are kept". Definitions only.
use Rattle.std.specs.Prelude.{cond, List, ℕ, ◌+◌, length, Result, Ok, Err}
use Rattle.refusals.specs.declared.Refusal.{Refusal}
use Rattle.refusals.specs.declared.Refusal.TheVariants as refusal
use Rattle.fields.specs.Bytes.{has_bytes, put_at}

-- the answer: the place after the record; too little room for too few bytes from the place on, or a place past the end
unfoldable pub answer_of : List ℕ → ℕ → List ℕ → Result ℕ Refusal
answer_of out at bs = cond (has_bytes out at (length bs)) (Ok (at + length bs)) (Err refusal.TooLittleRoom)

-- the buffer afterwards; a refused write changes no byte
unfoldable pub buffer_of : List ℕ → ℕ → List ℕ → List ℕ
buffer_of out at bs = cond (has_bytes out at (length bs)) (put_at out at bs) out
