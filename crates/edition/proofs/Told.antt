-- The line of an unknown edition, letter by letter. Assumes nothing.
use mathlib.Core.Path.{◌≡◌, refl}
use Rattle.std.specs.Prelude.{None, codes}
use Rattle.lines.specs.Line.{text, subject, words, any_word, word, numbers, refusal, decimal_in}
use Rattle.replay.specs.Text.{stopped_line}

pub no_edition : text (stopped_line None 255) ≡ codes "config stopped 255\n"
unfolding text subject words any_word word numbers refusal decimal_in
no_edition = refl
