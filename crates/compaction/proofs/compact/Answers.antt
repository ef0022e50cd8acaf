use Rattle.std.proofs.Common.{◌≡◌, Ok, rules}
use Rattle.compaction.specs.Code.Steps.{decided}
use Rattle.compaction.proofs.Bytes.{filled}
use Rattle.compaction.proofs.Deciding.{refuses, opens, asks, finished}
use Rattle.compaction.proofs.compact.Goals as goal

pub returns-in_err-sound : goal.returns-in_err-sound
returns-in_err-sound c = refuses c.args.s.now c.from_residual.result (search rules)

pub close_gaps-n-requires : goal.close_gaps-n-requires
close_gaps-n-requires c =
    let sound : decided c.args.s.now ≡ Ok c.in_ok-sound.sound = search rules in
    asks (opens c.args.s.now c.in_ok-sound.sound sound)

pub returns : goal.returns
returns c =
    let sound : decided c.args.s.now ≡ Ok c.in_ok-sound.sound = search rules in
    finished (opens c.args.s.now c.in_ok-sound.sound sound) _ _ _ c.close_gaps-n.ensures (filled _ _ _ c.close_gaps-n.ensures.within (c.fill.ensures.after (λ y e. search rules)))
