use Rattle.std.proofs.Common.{◌≡◌, Ok, rules, refl}
use Rattle.records.specs.Config.{read_config}
use Rattle.guidance.specs.Plane.{created}
use Rattle.replay.proofs.RunLaw.{start_bad, start_refused, start_made}
use Rattle.replay.proofs.start.Goals as goal

pub returns-in_err-read : goal.returns-in_err-read
returns-in_err-read c = start_bad c.args.s.now c.from_residual.result (search rules)

pub returns-in_err-guidance : goal.returns-in_err-guidance
returns-in_err-guidance c =
    let read : read_config c.args.s.now 0 ≡ Ok c.in_ok-read.read = search rules in
    start_refused c.args.s.now c.in_ok-read.read read c.from_residual-in_err-guidance.result (search rules)

pub returns : goal.returns
returns c =
    let read : read_config c.args.s.now 0 ≡ Ok c.in_ok-read.read = search rules in
    let made : created c.in_ok-read.read.config ≡ Ok c.in_ok-guidance.guidance = search rules in
    start_made c.args.s.now c.in_ok-read.read read _ made refl refl refl
