use Rattle.search_tree.specs.Tree.{IsLeastGap}
use Rattle.branch_search.proofs.gaps.tree_gap.Given as goal

abbrev pub invariant-loop-number : goal.invariant-loop-number
invariant-loop-number l = IsLeastGap l.tree.nodes l.number l.cost.0 l.gap
