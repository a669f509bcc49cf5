use Rattle.std.proofs.Common.{◌∙◌, refl, sym, arith}
use Rattle.node_ranges.proofs.RangeFacts.{proper-both, proper-first, proper-from, proper-past}
use Rattle.node_ranges.proofs.ranges.splits.Goals as goal

pub returns-then-interval-at : goal.returns-then-interval-at
returns-then-interval-at c =
    let found = c.in-Some.ensures.lookup in
    proper-both c.in-Some.interval.now.low c.in-Some.interval.now.high c.args.at c.if-interval-at.true
    ∙ sym (proper-from c.args.intervals.now c.args.intervals.now c.args.place c.from.result c.args.at c.in-Some.interval.now refl c.from.ensures found.3.0 found.1)

pub returns-else-interval-at : goal.returns-else-interval-at
returns-else-interval-at c =
    let found = c.in-Some.ensures.lookup in
    proper-first c.in-Some.interval.now.low c.in-Some.interval.now.high c.args.at c.if-interval-at.false
    ∙ sym (proper-from c.args.intervals.now c.args.intervals.now c.args.place c.from.result c.args.at c.in-Some.interval.now refl c.from.ensures found.3.0 found.1)

pub returns-in-None : goal.returns-in-None
returns-in-None c =
    let found = c.in-None.ensures.lookup in
    sym (proper-past c.args.intervals.now c.args.place c.args.at (omega (arith, found.3, c.from.ensures)))
