-- The pieces of a line. Assumes nothing.
use mathlib.Core.Path.{◌≡◌, refl, sym, ◌∙◌}
use mathlib.Core.List.{List, [], ◌∷◌, ◌++◌}
use Prim.Native.Nat.{ℕ, ◌+◌, ◌*◌, ◌<◌, ◌≤◌}
use native.Mathlib.Omega.{arith}
use native.Mathlib.Numerals.{add-one}
use lib.ListN.{length, take, get_or, length-append, length-take}
use lib.Seq.{take-suc}
use Rattle.std.specs.Prelude.{Option, Some, None}
use Rattle.std.proofs.lemmas.List.{flat_map_more}
use Rattle.std.proofs.lemmas.List.Folds.{length-flat_map-take}
use Rattle.lines.specs.declared.Word.{Word}
use Rattle.lines.specs.declared.Word.TheVariants.{Plane, Rate, Prime, Track, Loiter, Idle, Energy, Hold, Fallback, Refused, Stopped}
use Rattle.lines.specs.declared.Values.{Values}
use Rattle.lines.specs.declared.Values.TheVariants as count
use Rattle.lines.specs.declared.Line.{Line}
use Rattle.lines.specs.Line.{value, word, any_word, words, subject, refusal, values, listed, numbers, text, line_room}
use Rattle.lines.proofs.DigitLaw.{digits_long, decimal_short}

-- ---- the values

pub value_long : (v : ℕ) → length (value v) ≡ 9
value_long v = omega (arith, digits_long 16 8 v)

pub values_long : (vs : List ℕ) → length (values vs) ≡ 9 * length vs
values_long [] = refl
values_long (v ∷ vs) = length-append (value v) (values vs) ∙ omega (arith, value_long v, values_long vs)

-- one more
module _ (vs : List ℕ) (i : ℕ) (h : i < length vs) where
  pub values_room : length (values (take i vs)) + 9 ≤ length (values vs)
  values_room = omega (arith, length-flat_map-take value vs i 0 h, value_long (get_or vs i 0))

  pub values_next : values (take (i + 1) vs) ≡ values (take i vs) ++ value (get_or vs i 0)
  values_next = rw (add-one i, take-suc vs i 0 h) (sym (flat_map_more value [] (take i vs) (get_or vs i 0)))

-- ---- a line

pub text_long : (l : Line)
    → length (text l) ≡ length (subject l.call) + length (words l.first l.second) + length (numbers l.refusal (listed l.values)) + 1
unfolding text
text_long l = simp length-append

-- no word has more than 9 bytes
word_short : (w : Word) → length (word w) ≤ 9
unfolding word
word_short Plane = omega arith
word_short Rate = omega arith
word_short Prime = omega arith
word_short Track = omega arith
word_short Loiter = omega arith
word_short Idle = omega arith
word_short Energy = omega arith
word_short Hold = omega arith
word_short Fallback = omega arith
word_short Refused = omega arith
word_short Stopped = omega arith

any_short : (w : Option Word) → length (any_word w) ≤ 9
unfolding any_word
any_short None = omega arith
any_short (Some w) = word_short w

words_short : (first second : Option Word) → length (words first second) ≤ 18
unfolding words
words_short first second = simp length-append (omega (arith, any_short first, any_short second))

subject_short : (call : Option ℕ) → length (subject call) ≤ 10
unfolding subject
subject_short None = omega arith
subject_short (Some n) = decimal_short 10 n

refusal_short : (refused : Option ℕ) → length (refusal refused) ≤ 11
unfolding refusal
refusal_short None = omega arith
refusal_short (Some n) = omega (arith, decimal_short 10 n)

listed_short : (v : Values) → length (listed v) ≤ 4
listed_short count.None = omega arith
listed_short (count.One v) = simp length-take (omega arith)
listed_short (count.Two v) = simp length-take (omega arith)
listed_short (count.Three v) = simp length-take (omega arith)
listed_short (count.Four v) = simp length-take (omega arith)

-- no line has more than 80 bytes
pub text_short : (l : Line) → length (text l) ≤ line_room
unfolding text numbers
text_short l =
    simp length-append
    (omega (
      arith,
      subject_short l.call,
      words_short l.first l.second,
      refusal_short l.refusal,
      values_long (listed l.values),
      listed_short l.values,
    ))
