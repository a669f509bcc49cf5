use Rattle.std.proofs.Common.{List, drop, length, Some}
use Rattle.node_pool.specs.declared.node.Node.{Node}
use Rattle.node_pool.specs.declared.node.State.TheVariants as state
use Rattle.node_pool.specs.Queue.{IsPool, states_of}
use Rattle.node_pool.proofs.PoolFacts.{count-small, hand-at, pool-at, pool-taken, written-pool, written-states}
use Rattle.node_pool.proofs.pool.Pool.pop_least.Goals as goal

pub invariant_of-self : goal.invariant_of-self
invariant_of-self c =
    let slice : List Node = c.as_mut_slice.result.now in
    let first = c.in_ok-first.first in
    let new : List Node = c.take_first-self-inside.new.nodes in
    let waiting = c.self.inside.waiting in
    let pool : IsPool slice (Some first) waiting c.self.inside.capacity =
    pool-at c.self.inside.nodes.items slice c.self.inside.first (Some first) waiting c.self.inside.capacity c.as_mut_slice.ensures.value c.in_ok-first.was c.self.invariant.0 in
    let small = count-small slice (Some first) waiting c.self.inside.capacity pool in (
      written-pool c.self.inside.nodes.len slice new (drop (length new) c.self.inside.nodes.items) first.0 state.InHand c.take_first-self-inside.result _ c.self.inside.capacity
          c.as_mut_slice.ensures.len c.take_first-self-inside.ensures.states
          (pool-taken slice new first c.take_first-self-inside.result waiting c.self.inside.capacity pool c.take_first-self-inside.ensures.states c.take_first-self-inside.ensures.least
          (c.take_first-self-inside.ensures.queue waiting small pool.queue) (c.take_first-self-inside.ensures.some waiting small pool.queue) c.take_first-self-inside.ensures.parents),
      c.self.invariant.1,
    )

pub returns-clause-in_hand : goal.returns-clause-in_hand
returns-clause-in_hand c =
    let slice : List Node = c.as_mut_slice.result.now in
    let new : List Node = c.take_first-self-inside.new.nodes in
    hand-at (states_of slice) _ c.in_ok-first.first.0
    (written-states c.self.inside.nodes.len slice new (drop (length new) c.self.inside.nodes.items) c.in_ok-first.first.0 state.InHand c.as_mut_slice.ensures.len
    c.take_first-self-inside.ensures.states)
    c.take_first-self-inside.ensures.least
