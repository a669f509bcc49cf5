use Rattle.std.proofs.Common.{arith}
use Rattle.node_ranges.proofs.RangeFacts.{tight-length}
use Rattle.halving_tree.proofs.Middle.{halved-proper, middle-is}
use Rattle.halving_tree.proofs.rule.middle.Goals as goal

pub returns-clause-halved : goal.returns-clause-halved
returns-clause-halved c =
    record { widest = c.widest-line.ensures; middle = middle-is c.args.book.now.lines c.args.ranges.now.lines c.intervals.result.now c.widest-line.result c.from.result c.requires.tight.lines c.widest-line.ensures.there c.intervals.ensures.value c.from.ensures }

pub returns-clause-proper : goal.returns-clause-proper
returns-clause-proper c =
    halved-proper c.args.book.now c.args.ranges.now.lines c.widest-line.result _ c.line_count-count.ensures.limits c.requires.tight.lines c.requires.several
    (record { widest = c.widest-line.ensures; middle = middle-is c.args.book.now.lines c.args.ranges.now.lines c.intervals.result.now c.widest-line.result c.from.result c.requires.tight.lines c.widest-line.ensures.there c.intervals.ensures.value c.from.ensures })

pub returns-clause-there : goal.returns-clause-there
returns-clause-there c = omega (arith, c.widest-line.ensures.there, tight-length c.args.book.now.lines c.args.ranges.now.lines c.requires.tight.lines)
