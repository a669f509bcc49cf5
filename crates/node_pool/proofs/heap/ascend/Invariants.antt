use Rattle.node_pool.specs.Heap.{Heap, IsLeft, KeepsNodes}
use Rattle.node_pool.proofs.heap.ascend.Given as goal

abbrev pub invariant-loop : goal.invariant-loop
invariant-loop l = record {
  left : (whole : Heap) → IsLeft l.fn.nodes 0 l.fn.spine l.fn.rest whole → IsLeft l.nodes l.counter l.above l.link whole;
  kept : KeepsNodes l.fn.nodes l.nodes;
}
