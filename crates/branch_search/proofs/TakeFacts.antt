-- The node that is taken, before and after it is tried.
use Rattle.std.proofs.Common.{◌≡◌, ℕ, List, sym, subst}
use Rattle.case_file.specs.Case.{CaseContents}
use Rattle.node_ranges.specs.Ranges.{RangesContents}
use Rattle.halving_tree.specs.declared.rule.SplitRule.{SplitRule}
use Rattle.node_pool.specs.Way.{AreProper, IsWay, Step, ranges_at}
use Rattle.node_pool.specs.declared.node.State.{State}
use Rattle.search_tree.specs.Best.{IsNoDearer}
use Rattle.search_tree.specs.Growing.{IsHeld, IsPopped, obeys}
use Rattle.search_tree.specs.declared.node.SearchNode.{SearchNode}
use Rattle.branch_search.proofs.GrowthFacts.{held-at, held-cheaper}
use Rattle.branch_search.specs.Parts.{AreSameBut, SearchContents, best_cents}

-- before it is tried: the ranges at hand are those of the node
pub held-before : (now : SearchContents) (rule : SplitRule) (states : List State) (nodes : List SearchNode) (number : ℕ) (ranges : RangesContents) → IsPopped now.case (obeys now.case rule) (best_cents now.best) states nodes number
    → ((way : List Step) → IsWay states number way → AreProper now.case.book way → ranges ≡ ranges_at now.case.book way)
    → IsHeld now.case (obeys now.case rule) (best_cents now.best) states nodes number ranges
held-before now rule states nodes number ranges popped value = held-at now.case (obeys now.case rule) (best_cents now.best) states nodes number ranges popped value

-- after it is tried, the best plan may be cheaper
pub held-after : (now after : SearchContents) (rule : SplitRule) (states : List State) (nodes : List SearchNode) (number : ℕ) (ranges : RangesContents) → IsHeld now.case (obeys now.case rule) (best_cents now.best) states nodes number ranges
    → AreSameBut (record now { ranges = ranges }) after → IsNoDearer (best_cents now.best) (best_cents after.best) → IsHeld after.case (obeys after.case rule) (best_cents after.best) states nodes number after.ranges
held-after now after rule states nodes number ranges held kept no_dearer =
    subst (λ (k : CaseContents). IsHeld k (obeys k rule) (best_cents after.best) states nodes number after.ranges) (sym kept.case)
    (subst (λ (r : RangesContents). IsHeld now.case (obeys now.case rule) (best_cents after.best) states nodes number r) (sym kept.ranges)
    (held-cheaper now.case (obeys now.case rule) (best_cents now.best) (best_cents after.best) states nodes number ranges no_dearer held))
