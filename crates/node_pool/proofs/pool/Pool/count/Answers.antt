use Rattle.std.proofs.Common.{List, ap, arith, subst}
use Rattle.node_pool.specs.declared.node.State.{State}
use Rattle.node_pool.specs.Pool.{IsOneTree, PoolContents}
use Rattle.node_pool.proofs.PoolFacts.{one-tree}
use Rattle.node_pool.proofs.pool.Pool.count.Goals as goal

pub overflow_cast-result : goal.overflow_cast-result
overflow_cast-result c = let k = c.self.invariant.0 in let few = k.few in let bounded = k.bounded in omega (arith, c.len.ensures, few, bounded)

pub returns-clause-tree : goal.returns-clause-tree
returns-clause-tree c =
    let P : List State → Type 0 = λ ss. IsOneTree ss in
    subst P (ap (λ (p : PoolContents). p.states) c.self.view_is)
    (one-tree c.self.inside.nodes.items c.self.inside.first c.self.inside.waiting c.self.inside.capacity c.self.invariant.0)
