use Rattle.std.proofs.Common.{◌∙◌, List, ap, subst, sym}
use Rattle.node_pool.specs.declared.node.State.{State}
use Rattle.node_pool.specs.Pool.{PoolContents}
use Rattle.node_pool.specs.Queue.{states_of}
use Rattle.node_pool.specs.Tree.{AreEnded}
use Rattle.node_pool.proofs.pool.Pool.tree.Goals as goal

pub preorder_of-requires-clause-ended : goal.preorder_of-requires-clause-ended
preorder_of-requires-clause-ended c =
    let P : List State → Type 0 = λ ss. AreEnded ss in
    subst P (sym (ap states_of c.as_slice.ensures.value ∙ ap (λ (p : PoolContents). p.states) c.self.view_is)) c.requires
