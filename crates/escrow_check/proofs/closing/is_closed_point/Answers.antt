use Rattle.std.proofs.Common.{◌∙◌, length, ap, subst, sym}
use Rattle.node_ranges.proofs.RangeFacts.{tight-length}
use Rattle.offer_book.specs.Portfolio.{IsPermitted}
use Rattle.escrow_check.proofs.CloseFacts.{lows-permitted}
use Rattle.escrow_check.proofs.closing.is_closed_point.Goals as goal

pub put_low_ends-requires-clause-ranges : goal.put_low_ends-requires-clause-ranges
put_low_ends-requires-clause-ranges c = sym (tight-length c.args.case.now.book.lines c.args.ranges.now.lines c.requires.ranges.lines)

pub point_excluded-requires-clause-permitted : goal.point_excluded-requires-clause-permitted
point_excluded-requires-clause-permitted c =
    subst (IsPermitted c.args.case.now.book) (sym c.put_low_ends.ensures) (lows-permitted c.args.case.now.book c.args.ranges.now c.requires.ranges)

pub costs_enough-requires : goal.costs_enough-requires
costs_enough-requires c =
    subst (IsPermitted c.args.case.now.book) (sym c.put_low_ends.ensures) (lows-permitted c.args.case.now.book c.args.ranges.now c.requires.ranges)

pub returns-then-point_excluded-clause-plan : goal.returns-then-point_excluded-clause-plan
returns-then-point_excluded-clause-plan c =
    ap length c.put_low_ends.ensures ∙ (lows-permitted c.args.case.now.book c.args.ranges.now c.requires.ranges).same_length

pub returns-else-point_excluded-clause-plan : goal.returns-else-point_excluded-clause-plan
returns-else-point_excluded-clause-plan c =
    ap length c.put_low_ends.ensures ∙ (lows-permitted c.args.case.now.book c.args.ranges.now c.requires.ranges).same_length
