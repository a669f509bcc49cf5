use Rattle.std.proofs.Common.{◌∙◌, sym, subst}
use Rattle.node_ranges.proofs.RangeLaws.{root_is_tight}
use Rattle.node_ranges.specs.Ranges.{AreTight}
use Rattle.branch_search.proofs.PartFacts.{as-many_lines, as-many_sums}
use Rattle.branch_search.proofs.parts.Search.start_again.Goals as goal

pub copy-requires-clause-lines : goal.copy-requires-clause-lines
copy-requires-clause-lines c = as-many_lines c.self.inside.book.now c.self.inside.root c.self.inside.ranges c.self.invariant.rooted c.self.invariant.tight

pub copy-requires-clause-sums : goal.copy-requires-clause-sums
copy-requires-clause-sums c = as-many_sums c.self.inside.book.now c.self.inside.root c.self.inside.ranges c.self.invariant.rooted c.self.invariant.tight

pub invariant_of-self : goal.invariant_of-self
invariant_of-self c = record {
  limits = c.self.invariant.limits;
  tuned = c.self.invariant.tuned;
  based = c.self.invariant.based;
  base_is = c.self.invariant.base_is;
  reaches = c.self.invariant.reaches;
  lined = c.self.invariant.lined;
  rooted = c.self.invariant.rooted;
  tight = subst (AreTight c.self.inside.book.now) (sym (c.copy.ensures ∙ c.self.invariant.rooted)) (root_is_tight c.self.inside.book.now c.line_count.ensures.limits);
  bought = c.self.invariant.bought;
  finds = c.self.invariant.finds;
}
