use Rattle.std.proofs.Common.{List}
use Rattle.node_ranges.specs.Ranges.{AreTight}
use Rattle.node_pool.specs.Queue.{states_of}
use Rattle.node_pool.specs.Way.{AreProper, IsWay, Step, ranges_at}
use Rattle.node_pool.proofs.WayFacts.{Left}
use Rattle.node_pool.proofs.way.narrow_up.Given as goal

abbrev pub invariant-loop-child : goal.invariant-loop-child
invariant-loop-child l = record {
  left : (way : List Step) → IsWay (states_of l.nodes) l.fn.node.0 way → AreProper l.book way → Left l.book (states_of l.nodes) l.child.0 l.into (ranges_at l.book way);
  tight : AreTight l.book l.into;
}

abbrev pub decreases-loop-child : goal.decreases-loop-child
decreases-loop-child l = l.child.0
