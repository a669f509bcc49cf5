use Rattle.node_pool.specs.Heap.{AreApart, AreLeft, KeepsNodes, merged}
use Rattle.node_pool.proofs.heap.descend.Given as goal

abbrev pub invariant-loop : goal.invariant-loop
invariant-loop l = record {
  left : (apart : AreApart l.fn.nodes l.fn.first l.fn.second) → AreLeft l.nodes l.counter l.down (merged apart.one apart.other);
  kept : KeepsNodes l.fn.nodes l.nodes;
}
