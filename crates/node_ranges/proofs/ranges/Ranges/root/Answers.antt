use Rattle.std.proofs.Common.{◌∙◌, ap, map}
use Rattle.std.proofs.lemmas.List.Elements.{All-same}
use Rattle.offer_book.specs.Sums.{sums_of}
use Rattle.offer_book.specs.declared.line.Line.{Line}
use Rattle.node_ranges.specs.Ranges.{IsOrdered, root_of, whole_interval}
use Rattle.node_ranges.proofs.RangeFacts.{root-ordered, up-ordered}
use Rattle.node_ranges.proofs.ranges.Ranges.root.Goals as goal

pub invariant_of-result : goal.invariant_of-result
invariant_of-result c = (
  All-same IsOrdered c.in_ok-whole_lines.field-0.items (root_of c.args.book.now).lines (c.in_ok-whole_lines.ensures ∙ ap (map whole_interval) c.lines.ensures.value) (root-ordered c.args.book.now.lines),
  All-same IsOrdered c.in_ok-whole_sums.field-0.items (root_of c.args.book.now).sums c.in_ok-whole_sums.ensures (up-ordered (sums_of c.args.book.now (map (λ (line : Line). line.most) c.args.book.now.lines))),
)
