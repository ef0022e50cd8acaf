-- `bytes::read_word` meets its contract. Assumes nothing.
use native.Mathlib.Omega.{arith}
use lib.Seq.{drop-drop, get_or-drop}
use Rattle.fields.specs.Bytes.{number_at}
use Rattle.fields.proofs.bytes.read_word.Goals as goal

pub returns : goal.returns
unfolding number_at
returns c = simp (drop-drop, get_or-drop) (omega (arith, c.from_le_bytes.ensures))
