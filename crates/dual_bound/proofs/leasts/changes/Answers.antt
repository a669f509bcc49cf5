use Rattle.std.proofs.Common.{arith}
use Rattle.dual_bound.proofs.LeastFacts.{agree-apart}
use Rattle.dual_bound.proofs.leasts.changes.Goals as goal

pub returns : goal.returns
returns c =
    λ span start apart.
    agree-apart span c.span_together.result c.args.old.now c.args.new.now c.args.dates.now (grind (arith, c.if-old-new.false)) c.if-old-new-2.false c.requires.long c.requires.dates c.span_together.ensures apart
