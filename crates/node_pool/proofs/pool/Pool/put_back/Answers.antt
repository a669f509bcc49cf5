use mir.Syntax.{w128}
use mir.Val.{of_z, to_z}
use Rattle.std.proofs.Common.{◌≡◌, ◌+◌, ◌≤◌, ℤ, List, ap, arith, drop, length, refl}
use Rattle.node_pool.specs.declared.node.Node.{Node}
use Rattle.node_pool.specs.declared.node.State.TheVariants as state
use Rattle.node_pool.specs.Pool.{IsInHand, PoolContents}
use Rattle.node_pool.specs.Queue.{IsPool, states_of}
use Rattle.node_pool.proofs.PoolFacts.{in-hand-at, not-all-wait, pool-at, pool-put, written-pool}
use Rattle.node_pool.proofs.pool.Pool.put_back.Goals as goal

pub insert-self-inside-requires-clause-queue : goal.insert-self-inside-requires-clause-queue
insert-self-inside-requires-clause-queue c =
    let slice : List Node = c.as_mut_slice.result.now in
    let views : states_of c.self.inside.nodes.items ≡ c.args.self.now.states = ap (λ (p : PoolContents). p.states) c.self.view_is in
    let pool : IsPool slice c.self.inside.first c.self.inside.waiting c.self.inside.capacity =
    pool-at c.self.inside.nodes.items slice c.self.inside.first c.self.inside.first c.self.inside.waiting c.self.inside.capacity c.as_mut_slice.ensures.value refl c.self.invariant.0 in
    let hand : IsInHand (states_of slice) c.args.node.0 = in-hand-at c.self.inside.nodes.items slice c.args.self.now.states c.args.node.0 c.as_mut_slice.ensures.value views c.requires in
    let room : c.self.inside.waiting + 1 ≤ c.self.inside.capacity = not-all-wait slice c.self.inside.first c.self.inside.waiting c.self.inside.capacity c.args.node.0 pool hand in
    (c.self.inside.waiting, (let bounded = pool.bounded in omega (arith, room, bounded)), pool.queue)

pub overflow_add-self : goal.overflow_add-self
overflow_add-self c =
    let views : states_of c.self.inside.nodes.items ≡ c.args.self.now.states = ap (λ (p : PoolContents). p.states) c.self.view_is in
    let hand : IsInHand (states_of c.self.inside.nodes.items) c.args.node.0 =
    in-hand-at c.self.inside.nodes.items c.self.inside.nodes.items c.args.self.now.states c.args.node.0 refl views c.requires in
    let room : c.self.inside.waiting + 1 ≤ c.self.inside.capacity =
    not-all-wait c.self.inside.nodes.items c.self.inside.first c.self.inside.waiting c.self.inside.capacity c.args.node.0 c.self.invariant.0 hand in
    let bounded = c.self.invariant.0.bounded in omega (arith, room, bounded)

pub invariant_of-self : goal.invariant_of-self
invariant_of-self c =
    let slice : List Node = c.as_mut_slice.result.now in
    let new : List Node = c.insert-self-inside.new.nodes in
    let views : states_of c.self.inside.nodes.items ≡ c.args.self.now.states = ap (λ (p : PoolContents). p.states) c.self.view_is in
    let pool : IsPool slice c.self.inside.first c.self.inside.waiting c.self.inside.capacity =
    pool-at c.self.inside.nodes.items slice c.self.inside.first c.self.inside.first c.self.inside.waiting c.self.inside.capacity c.as_mut_slice.ensures.value refl c.self.invariant.0 in
    let hand : IsInHand (states_of slice) c.args.node.0 = in-hand-at c.self.inside.nodes.items slice c.args.self.now.states c.args.node.0 c.as_mut_slice.ensures.value views c.requires in
    let room : c.self.inside.waiting + 1 ≤ c.self.inside.capacity = not-all-wait slice c.self.inside.first c.self.inside.waiting c.self.inside.capacity c.args.node.0 pool hand in
    let bounded = pool.bounded in
    let key : ℤ = to_z w128 (of_z w128 c.args.key) in (
      written-pool c.self.inside.nodes.len slice new (drop (length new) c.self.inside.nodes.items) c.args.node.0 (state.Waiting key) c.insert-self-inside.result
          (c.self.inside.waiting + 1) c.self.inside.capacity c.as_mut_slice.ensures.len c.insert-self-inside.ensures.states
          (pool-put slice new c.self.inside.first c.insert-self-inside.result c.self.inside.waiting c.self.inside.capacity c.args.node.0 key pool c.insert-self-inside.ensures.states hand
          (c.insert-self-inside.ensures.queue c.self.inside.waiting (omega (arith, room, bounded)) pool.queue) c.insert-self-inside.ensures.parents),
      c.self.invariant.1,
    )
