-- What is written is the output of all that came in. Assumes nothing.
use Rattle.std.proofs.Common.{rules, OnOk}
use Rattle.std.specs.Io.KnownBytes.{Appends}
use Rattle.agree.specs.Text.{text_of}
use Rattle.agree.proofs.Law.{of_inputs}
use Rattle.agree.proofs.compare.Goals as goal

pub returns-clause-text : goal.returns-clause-text
returns-clause-text g c =
    let before = g.W.Write.contents c.args.writer.now in
    let after = g.W.Write.contents c.write_agreement.new.writer in
    let put : OnOk c.map_err.result (Appends before after (text_of c.agree-answer.result)) = search rules in
    of_inputs c.map_err.result c.args.theirs g.D.Read.remaining _ _ _ _ _ (search rules) c.in_ok-n.ensures.front (rw c.agree-answer.ensures at put)
