-- `show` meets its contract. Assumes nothing.
use Rattle.desk.proofs.Law.{shown}
use Rattle.desk.proofs.show.Goals as goal

pub returns : goal.returns
returns c = shown _ _ _ _ c.requires c.print_text.ensures.0 c.print_text.ensures.1
