use Rattle.std.proofs.Common.{◌≡◌}
use Rattle.search_tree.specs.Best.{CoversBackward, IsNoDearer}
use Rattle.search_tree.specs.Growing.{HasGrown, obeys}
use Rattle.branch_search.specs.Growth.{left_to_do}
use Rattle.branch_search.specs.Parts.{best_cents}
use Rattle.branch_search.proofs.parts.Search.grow.Given as goal

abbrev pub invariant-loop-node : goal.invariant-loop-node
invariant-loop-node g l =
    (l.self.case ≡ l.fn.self.case)
    × HasGrown l.fn.self.case (obeys l.fn.self.case l.rule) (best_cents l.self.best) l.tree.pool.states l.tree.nodes
    × CoversBackward l.fn.self.case (best_cents l.self.best)
    × IsNoDearer (best_cents l.fn.self.best) (best_cents l.self.best)
    × (l.tree.pool.capacity ≡ l.fn.self.case.budget)

abbrev pub decreases-loop-node : goal.decreases-loop-node
decreases-loop-node g l = left_to_do l.tree.pool
