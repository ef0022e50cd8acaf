-- What is wanted of converting records one behind the other, for every input. Statements only; proofs/LawsProof.antt proves them.
use Rattle.std.specs.Prelude.{◌≡◌, List, [], ◌∷◌, ℕ, ◌+◌, ◌≤◌, length, Ok}
use Rattle.records.specs.declared.call.Call.{Call}
use Rattle.editions.specs.declared.Edition.{Edition}
use Rattle.editions.specs.Edition.{other}
use Rattle.replay.specs.Recording.{Recorded, ends}
use Rattle.edition.specs.Conversion.{read_records, records, records_of, converted}

-- more turns than bytes from the place on read no more
abbrev pub Enough : Type 0
Enough = (e : Edition) (s : List ℕ) (at m n : ℕ) → length s ≤ at + m → length s ≤ at + n → read_records m e s at ≡ read_records n e s at

-- the calls, without the places of their records
unfoldable pub calls_of : List Recorded → List Call
calls_of [] = []
calls_of (k ∷ ks) = k.call ∷ calls_of ks

-- "Going and coming back gives the same call, bit for bit, in the bytes of the writer's rules": of all records that were
-- converted, in their order. What was written stands behind a byte x.
pub record Back (wanted : Edition) (s : List ℕ) (x : ℕ) : Type 0 where
  pub same : calls_of (records wanted (x ∷ (converted wanted s).bytes)).calls ≡ calls_of (records (other wanted) s).calls
  pub ending : (records wanted (x ∷ (converted wanted s).bytes)).ending ≡ ends
  pub bytes : (converted (other wanted) (x ∷ (converted wanted s).bytes)).bytes ≡ records_of (other wanted) (records (other wanted) s).calls
  pub answer : (converted (other wanted) (x ∷ (converted wanted s).bytes)).answer ≡ Ok (length (converted wanted s).bytes)
