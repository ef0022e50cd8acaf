-- What is wanted of a record's reader and writer, for every value. Statements only: a record's crate proves them of its own.
use Rattle.std.specs.Prelude.{◌≡◌, true, ◌↔◌, List, ℕ, ◌+◌, ◌≤◌, length, take, drop}
use Rattle.fields.specs.Bytes.{has_bytes}
use Rattle.fields.specs.Writing.{buffer_of}

-- `bytes v` is the record of a value, `read s at` the reader's answer and `got v next` the one that gives v and the place
-- after it; `F32 v` says that f32s hold the value's numbers. One nan stands for every NaN.
pub record Laws {Value Answer : Type 0} (F32 : Value → Type 0) (bytes : Value → List ℕ) (read : List ℕ → ℕ → Answer) (got : Value → ℕ → Answer) : Type 0 where
  -- reading what was written gives the same value, and the place after the record
  pub back :
      (out : List ℕ) (at : ℕ) (v : Value) → F32 v → has_bytes out at (length (bytes v)) ≡ true
      → read (buffer_of out at (bytes v)) at ≡ got v (at + length (bytes v))
  -- writing what was read gives a record that is no longer, and reads the same
  pub again :
      (s : List ℕ) (at : ℕ) (v : Value) (next : ℕ) → read s at ≡ got v next
      → (at + length (bytes v) ≤ next) × (read (bytes v) 0 ≡ got v (length (bytes v)))
  -- two values are written to the same bytes exactly when they are equal
  pub same : (v w : Value) → F32 v → F32 w → bytes v ≡ bytes w ↔ v ≡ w

-- The greatest length of a record: none is longer, written or read, and one that is read has it.
pub record Longest {Value Answer : Type 0} (most : ℕ) (bytes : Value → List ℕ) (read : List ℕ → ℕ → Answer) (got : Value → ℕ → Answer) : Type 0 where
  pub written : (v : Value) → length (bytes v) ≤ most
  pub stepped : (s : List ℕ) (at : ℕ) (v : Value) (next : ℕ) → read s at ≡ got v next → next ≤ at + most
  pub reached : (s : List ℕ) × (v : Value) × (read s 0 ≡ got v most)

-- Whatever is written: an accepted write changes only the record's bytes, a refused one none, and the length stays.
pub record Untouched (out : List ℕ) (at : ℕ) (bs : List ℕ) : Type 0 where
  pub before : take at (buffer_of out at bs) ≡ take at out
  pub after : drop (at + length bs) (buffer_of out at bs) ≡ drop (at + length bs) out
  pub long : length (buffer_of out at bs) ≡ length out
