use Rattle.std.proofs.Common.{arith}
use Rattle.node_ranges.proofs.RangeFacts.{tight-length}
use Rattle.halving_tree.proofs.Middle.{lines-some}
use Rattle.halving_tree.proofs.rule.widest.Goals as goal

pub width-greatest-requires-clause-lines : goal.width-greatest-requires-clause-lines
width-greatest-requires-clause-lines c = lines-some c.args.book.now.days c.args.book.now.lines c.line_count-count.ensures.limits.lines

pub width-greatest-requires-clause-ranges : goal.width-greatest-requires-clause-ranges
width-greatest-requires-clause-ranges c =
    omega (arith, lines-some c.args.book.now.days c.args.book.now.lines c.line_count-count.ensures.limits.lines, tight-length c.args.book.now.lines c.args.ranges.now.lines c.requires.lines)

pub width-own-requires-clause-ranges : goal.width-own-requires-clause-ranges
width-own-requires-clause-ranges c = omega (arith, c.loop-other-test.true, c.line_count-count.ensures.value, tight-length c.args.book.now.lines c.args.ranges.now.lines c.requires.lines)

pub returns : goal.returns
returns c =
    let same = tight-length c.args.book.now.lines c.args.ranges.now.lines c.requires.lines in
    let all = c.loop-other.auto.other-end in
    record {
      there = omega (arith, same, c.loop-other.invariant.0, c.loop-other-test.false, c.line_count-count.ensures.value, all, lines-some c.args.book.now.days c.args.book.now.lines c.line_count-count.ensures.limits.lines);
      greatest = λ other few. omega (arith, c.loop-other.invariant.1, c.loop-other.invariant.2 other (omega (arith, few, same, c.loop-other-test.false, c.line_count-count.ensures.value)));
      first = λ other few. omega (arith, c.loop-other.invariant.1, c.loop-other.invariant.3 other few);
    }
