use Rattle.std.specs.List.{count_by}
use Rattle.node_pool.specs.Pool.{is_waiting}
use Rattle.search_tree.proofs.DrainFacts.{IsDraining}
use Rattle.search_tree.proofs.tree.SearchTree.close_waiting.Given as goal

abbrev pub invariant-loop-node : goal.invariant-loop-node
invariant-loop-node l = IsDraining l.fn.self l.self

abbrev pub decreases-loop-node : goal.decreases-loop-node
decreases-loop-node l = count_by is_waiting l.self.pool.states
