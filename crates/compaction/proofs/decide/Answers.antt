use Rattle.std.proofs.Common.{◌≡◌, Ok, rules, refl}
use Rattle.guidance.specs.Plane.{created}
use Rattle.records.specs.Config.{read_config}
use Rattle.replay.specs.Recording.{most_calls, read_calls}
use Rattle.compaction.specs.Code.Steps.{scanned}
use Rattle.compaction.proofs.Deciding.{decides_config, decides_invalid, decides_call, decides_sound}
use Rattle.compaction.proofs.decide.Goals as goal

pub returns-in_err-read : goal.returns-in_err-read
returns-in_err-read c = decides_config c.args.s.now c.from_residual.result (search rules)

pub returns-in_err-guidance : goal.returns-in_err-guidance
returns-in_err-guidance c =
    let read : read_config c.args.s.now 0 ≡ Ok c.in_ok-read.read = search rules in
    decides_invalid c.args.s.now c.from_residual-in_err-guidance.result _ read (search rules)

pub returns-in_err-scan : goal.returns-in_err-scan
returns-in_err-scan c =
    let read : read_config c.args.s.now 0 ≡ Ok c.in_ok-read.read = search rules in
    let made : created c.in_ok-read.read.config ≡ Ok c.in_ok-guidance.guidance = search rules in
    decides_call c.args.s.now c.from_residual-in_err-scan.result _ read _ made (search rules)

pub returns : goal.returns
returns c =
    let read : read_config c.args.s.now 0 ≡ Ok c.in_ok-read.read = search rules in
    let made : created c.in_ok-read.read.config ≡ Ok c.in_ok-guidance.guidance = search rules in
    let end : scanned 1 (read_calls most_calls c.args.s.now c.in_ok-read.read.next) ≡ Ok tt = search rules in
    decides_sound c.args.s.now _ _ read _ made end refl
