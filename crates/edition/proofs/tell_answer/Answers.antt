-- `tell_answer` meets its contract. Assumes nothing.
use Rattle.std.proofs.Common.{rules, ◌≡◌, Err}
use Rattle.edition.specs.declared.Refused.TheVariants.{TooLong}
use Rattle.edition.proofs.Told.{no_edition}
use Rattle.edition.proofs.tell_answer.Goals as goal

pub returns-in-Err-NoEdition : goal.returns-in-Err-NoEdition
returns-in-Err-NoEdition g c = search (rules, no_edition)

pub returns-in-Err-TooLong : goal.returns-in-Err-TooLong
returns-in-Err-TooLong g c =
    let long : c.args.answer ≡ Err TooLong = search rules in
    rw long c.writeln.ensures.bytes
