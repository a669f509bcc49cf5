use Rattle.std.proofs.Common.{◌∙◌, List, sym, ap, subst, arith}
use Rattle.std.proofs.lemmas.List.{with_items_is}
use Rattle.std.proofs.lemmas.List.Elements.{All-same}
use Rattle.std.specs.List.{AllZip}
use Rattle.node_ranges.specs.Ranges.{IsOrdered, IsTight, IsUpTo, RangesContents, most_sums}
use Rattle.proof_tree.specs.declared.interval.Interval.{Interval}
use Rattle.node_ranges.proofs.ranges.Ranges.narrow.Goals as goal

pub returns-in-Line-clause-tight : goal.returns-in-Line-clause-tight
returns-in-Line-clause-tight c =
    let items = with_items_is c.self.inside.lines c.narrow_line.new.intervals (omega (arith, c.narrow_line.auto.intervals, c.as_mut_slice.ensures.len)) in
    record {
      lines = subst (λ (lines : List Interval). AllZip IsTight c.args.book.now.lines lines) (sym items) c.narrow_line.ensures.tight;
      ordered = c.self.invariant.1;
      sums = subst (λ (ranges : RangesContents). AllZip IsUpTo (most_sums c.args.book.now) ranges.sums) (sym c.self.view_is) c.requires.tight.sums;
    }

pub returns-in-Sum-clause-tight : goal.returns-in-Sum-clause-tight
returns-in-Sum-clause-tight c =
    let items = with_items_is c.self.inside.sums c.narrow_sum.new.intervals (omega (arith, c.narrow_sum.auto.intervals, c.as_mut_slice-in-Sum.ensures.len)) in
    let room = subst (λ (intervals : List Interval). AllZip IsUpTo (most_sums c.args.book.now) intervals) (sym (c.as_mut_slice-in-Sum.ensures.value ∙ ap (λ (ranges : RangesContents). ranges.sums) c.self.view_is)) c.requires.tight.sums in
    record {
      lines = subst (λ (ranges : RangesContents). AllZip IsTight c.args.book.now.lines ranges.lines) (sym c.self.view_is) c.requires.tight.lines;
      ordered = All-same IsOrdered _ c.narrow_sum.new.intervals items c.narrow_sum.ensures.ordered;
      sums = subst (λ (intervals : List Interval). AllZip IsUpTo (most_sums c.args.book.now) intervals) (sym items) (c.narrow_sum.ensures.room (most_sums c.args.book.now) room);
    }
