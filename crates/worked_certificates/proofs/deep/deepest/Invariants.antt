use Rattle.std.proofs.Common.{IfSome}
use Rattle.node_ranges.specs.Ranges.{AreTight}
use Rattle.node_pool.specs.declared.node.NodeId.{NodeId}
use Rattle.node_pool.specs.Pool.{IsInHand}
use Rattle.worked_certificates.proofs.DownFacts.{HasWay}
use Rattle.worked_certificates.proofs.deep.deepest.Given as goal

abbrev pub invariant-loop : goal.invariant-loop
invariant-loop l = record {
  hand : IfSome l.node (λ (node : NodeId). IsInHand l.pool.states node.0);
  way : IfSome l.node (λ (node : NodeId). HasWay l.book l.pool.states node.0 l.ranges);
  tight : IfSome l.node (λ (_ : NodeId). AreTight l.book l.ranges);
}
