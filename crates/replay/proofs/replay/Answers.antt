use Rattle.std.proofs.Common.{sym, ◌∙◌}
use Rattle.replay.proofs.TextLaw.{answer_text, answer_refused}
use Rattle.replay.proofs.replay.Goals as goal

pub returns-then-not-has_room : goal.returns-then-not-has_room
returns-then-not-has_room c = answer_refused _ _ (sym c.has_room.ensures ∙ c.if-not-has_room.true)

pub returns : goal.returns
returns c = answer_text _ _ _ _ (sym c.has_room.ensures ∙ c.if-not-has_room.false) c.print.ensures
