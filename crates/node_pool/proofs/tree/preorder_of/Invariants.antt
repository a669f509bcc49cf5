use Rattle.std.proofs.Common.{length}
use Rattle.node_pool.specs.Queue.{states_of}
use Rattle.node_pool.specs.Tree.{IsTreeOf, Tree}
use Rattle.node_pool.proofs.TreeFacts.{IsWalk, weight_of}
use Rattle.node_pool.proofs.tree.preorder_of.Given as goal

abbrev pub invariant-loop-node : goal.invariant-loop-node
invariant-loop-node l = record {
  whole : Tree;
  is : IsTreeOf (states_of l.nodes) 0 whole;
  walk : IsWalk (states_of l.nodes) l.«open».items l.links.items whole;
}

abbrev pub decreases-loop-node : goal.decreases-loop-node
decreases-loop-node l = weight_of (length l.nodes) l.«open».items
