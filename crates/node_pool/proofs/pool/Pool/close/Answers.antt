use Rattle.std.proofs.Common.{◌≡◌, ◌∙◌, List, ap, drop, length, refl}
use Rattle.node_pool.specs.declared.node.Node.{Node}
use Rattle.node_pool.specs.declared.node.State.{State}
use Rattle.node_pool.specs.declared.node.State.TheVariants as state
use Rattle.node_pool.specs.Heap.{node_at}
use Rattle.node_pool.specs.Pool.{IsInHand, PoolContents, with_state}
use Rattle.node_pool.specs.Queue.{IsPool, states_of}
use Rattle.node_pool.proofs.PoolFacts.{in-hand-at, parents-set, pool-at, pool-closed, queue-closed, written-pool, written-states}
use Rattle.node_pool.proofs.QueueFacts.{states-set}
use Rattle.node_pool.proofs.pool.Pool.close.Goals as goal

pub invariant_of-self : goal.invariant_of-self
invariant_of-self c =
    let slice : List Node = c.as_mut_slice.result.now in
    let views : states_of c.self.inside.nodes.items ≡ c.args.self.now.states = ap (λ (p : PoolContents). p.states) c.self.view_is in
    let pool : IsPool slice c.self.inside.first c.self.inside.waiting c.self.inside.capacity =
    pool-at c.self.inside.nodes.items slice c.self.inside.first c.self.inside.first c.self.inside.waiting c.self.inside.capacity c.as_mut_slice.ensures.value refl c.self.invariant.0 in
    let hand : IsInHand (states_of slice) c.args.node.0 = in-hand-at c.self.inside.nodes.items slice c.args.self.now.states c.args.node.0 c.as_mut_slice.ensures.value views c.requires in
    let states : states_of c.set_state.new.nodes ≡ with_state (states_of slice) c.args.node.0 (state.Closed c.args.leaf) =
    ap states_of c.set_state.ensures ∙ states-set slice c.args.node.0 (record (node_at slice c.args.node.0) { state = state.Closed c.args.leaf }) in (
      written-pool c.self.inside.nodes.len slice c.set_state.new.nodes (drop (length c.set_state.new.nodes) c.self.inside.nodes.items) c.args.node.0 (state.Closed c.args.leaf)
          c.self.inside.first c.self.inside.waiting c.self.inside.capacity c.as_mut_slice.ensures.len states
          (pool-closed slice c.set_state.new.nodes c.self.inside.first c.self.inside.waiting c.self.inside.capacity c.args.node.0 c.args.leaf pool states hand
          (queue-closed slice c.set_state.new.nodes c.self.inside.first c.self.inside.waiting c.args.node.0 (state.Closed c.args.leaf) hand c.set_state.ensures refl pool.queue)
          (λ child. parents-set slice c.set_state.new.nodes c.args.node.0 child (state.Closed c.args.leaf) c.set_state.ensures hand)),
      c.self.invariant.1,
    )

pub returns : goal.returns
returns c =
    let slice : List Node = c.as_mut_slice.result.now in
    let states : states_of c.set_state.new.nodes ≡ with_state (states_of slice) c.args.node.0 (state.Closed c.args.leaf) =
    ap states_of c.set_state.ensures ∙ states-set slice c.args.node.0 (record (node_at slice c.args.node.0) { state = state.Closed c.args.leaf }) in
    ap (λ (ss : List State). record { capacity = c.self.inside.capacity; states = ss })
    (written-states c.self.inside.nodes.len slice c.set_state.new.nodes (drop (length c.set_state.new.nodes) c.self.inside.nodes.items) c.args.node.0 (state.Closed c.args.leaf) c.as_mut_slice.ensures.len states
    ∙ ap (λ (ns : List Node). with_state (states_of ns) c.args.node.0 (state.Closed c.args.leaf)) c.as_mut_slice.ensures.value)
    ∙ ap (λ (p : PoolContents). record p { states = with_state p.states c.args.node.0 (state.Closed c.args.leaf) }) c.self.view_is
