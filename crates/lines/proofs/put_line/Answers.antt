-- `put_line` meets its contract: the subject, the words, the numbers and the end stand. Assumes nothing.
use native.Mathlib.Omega.{arith}
use lib.ListN.{length-append}
use Rattle.lines.specs.Line.{text}
use Rattle.lines.proofs.PutLaw.{puts_more, puts_byte}
use Rattle.lines.proofs.TextLaw.{text_long}
use Rattle.lines.proofs.put_line.Goals as goal

pub returns : goal.returns
unfolding text
returns c =
    let l = c.args.l in
    let r = text_long l in
    let a = puts_more c.put_subject-a.ensures _ _ _ (omega (arith, r, c.requires)) c.put_words.ensures in
    let b = puts_more a _ _ _ (simp length-append (omega (arith, r, c.requires))) c.put_numbers.ensures in
    puts_byte b 10 (simp length-append (omega (arith, r, c.requires)))
