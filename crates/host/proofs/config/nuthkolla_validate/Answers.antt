use Rattle.std.proofs.Common.{ap, sym, ◌∙◌}
use Rattle.host.proofs.Kept.{field_of, judged_field}
use Rattle.host.proofs.config.nuthkolla_validate.Goals as goal

pub returns-in-Ok : goal.returns-in-Ok
returns-in-Ok c = sym (judged_field c.args.config ∙ ap field_of (sym c.validate.ensures ∙ c.in-Ok.is))

pub returns-in-Err : goal.returns-in-Err
returns-in-Err c = sym (judged_field c.args.config ∙ ap field_of (sym c.validate.ensures ∙ c.in-Err.is))
