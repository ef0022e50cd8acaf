use Rattle.host.specs.Run.{run_config}
use Rattle.host.proofs.Kept.{set_is}
use Rattle.host.proofs.run.run_config.Goals as goal

pub returns-in-Ok : goal.returns-in-Ok
unfolding run_config
returns-in-Ok c =
    rw (c.judged.ensures, c.set_config.ensures, ← c.read_config.ensures, c.in-Ok.is)
    (set_is c.args.g c.in-Ok.read.config c.in-Ok.read.next)
