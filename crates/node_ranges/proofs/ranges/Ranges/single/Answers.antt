use Rattle.std.proofs.Common.{◌∙◌, List, sym, ap, arith}
use Rattle.node_ranges.specs.Ranges.{RangesContents, are_single}
use Rattle.proof_tree.specs.declared.interval.Interval.{Interval}
use Rattle.node_ranges.proofs.RangeFacts.{not-single, single-all}
use Rattle.node_ranges.proofs.ranges.Ranges.single.Goals as goal

abbrev lines_of : RangesContents → List Interval
lines_of ranges = ranges.lines

pub returns-then-interval : goal.returns-then-interval
returns-then-interval c =
    sym (ap are_single (sym (ap lines_of c.self.view_is) ∙ sym c.as_slice-interval-items.ensures.value)
    ∙ not-single c.as_slice-interval-items.result.now c.loop-interval.interval-index (record { low = 0; high = 0 }) c.loop-interval-test.true c.if-interval.true)

pub returns : goal.returns
returns c =
    sym (ap are_single (sym (ap lines_of c.self.view_is) ∙ sym c.as_slice-interval-items.ensures.value) ∙ single-all c.as_slice-interval-items.result.now (λ k d few. c.loop-interval.invariant k d (omega arith)))
