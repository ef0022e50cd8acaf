use Rattle.std.proofs.Common.{sym, ◌∙◌}
use Rattle.records.proofs.ConfigLaw.{exit_is}
use Rattle.editions.proofs.Reading.{cut, incomplete, other_edition, first_is, second_map}
use Rattle.editions.proofs.read_as.Goals as goal

pub returns-in_err-start : goal.returns-in_err-start
returns-in_err-start c = exit_is _ c.from_residual.ensures.1 c.in_err-start.ensures.1 ∙ cut _ _ _ c.in_err-start.ensures.0

pub returns-then-not-is_complete : goal.returns-then-not-is_complete
returns-then-not-is_complete c =
    incomplete _ _ c.in_ok-start.ensures.0 _ c.in_ok-start.ensures.1 _ (c.from-map.ensures ∙ c.read_word.ensures) _ c.fields_of-fields.ensures _
    (sym c.is_complete.ensures ∙ c.if-not-is_complete.true)

pub returns-then-not-is_of : goal.returns-then-not-is_of
returns-then-not-is_of c =
    other_edition _ _ c.in_ok-start.ensures.0 _ c.in_ok-start.ensures.1 _ (c.from-map.ensures ∙ c.read_word.ensures) _ c.fields_of-fields.ensures
    (sym c.is_complete.ensures ∙ c.if-not-is_complete.false) _ (sym c.is_of.ensures ∙ c.if-not-is_of.true)

pub returns-in-First : goal.returns-in-First
returns-in-First c =
    let o = sym c.is_of.ensures ∙ c.if-not-is_of.false in
    rw c.in-First.is
    (c.read_call.ensures
    ∙ first_is _ _ c.in_ok-start.ensures.0 _ c.in_ok-start.ensures.1 _ (c.from-map.ensures ∙ c.read_word.ensures) _ c.fields_of-fields.ensures
    (sym c.is_complete.ensures ∙ c.if-not-is_complete.false) (rw c.in-First.is at o))

pub read_second-requires : goal.read_second-requires
read_second-requires c =
    let o = sym c.is_of.ensures ∙ c.if-not-is_of.false in
    let q = sym c.is_complete.ensures ∙ c.if-not-is_complete.false in (
      c.in_ok-start.ensures.0,
      second_map _ _ c.in_ok-start.ensures.0 _ c.in_ok-start.ensures.1 _ (c.from-map.ensures ∙ c.read_word.ensures) _ c.fields_of-fields.ensures q (rw c.in-Second.is at o),
      q,
    )
