use Rattle.std.proofs.Common.{◌≡◌, ap, rules}
use Rattle.replay.specs.Text.{lines_text}
use Rattle.replay.proofs.PrintLaw.{printing_starts, printing_room, printing_more, printing_ends}
use Rattle.replay.proofs.print_lines.Goals as goal

pub loop-line-init : goal.loop-line-init
loop-line-init c = let e : c.into_iter-line-iterator.result ≡ c.args.lines = search rules in rw e (printing_starts _ _ c.requires)

pub put_line-to-requires : goal.put_line-to-requires
unfolding lines_text
put_line-to-requires c = printing_room c.loop-line.invariant _ _ (ap lines_text c.in-Some.ensures.steps)

pub loop-line-preserved : goal.loop-line-preserved
unfolding lines_text
loop-line-preserved c = printing_more c.loop-line.invariant _ _ _ _ (ap lines_text c.in-Some.ensures.steps) c.put_line-to.ensures

pub returns : goal.returns
unfolding lines_text
returns c = printing_ends c.loop-line.invariant (ap lines_text c.in-None.ensures.steps.0)
