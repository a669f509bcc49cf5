use mir.Syntax.{w128}
use mir.Val.{of_z, to_z}
use Rattle.std.proofs.Common.{◌≡◌, ◌≤◌, ◌<◌, ◌∙◌, ◌+◌, ℤ, List, ap, arith, drop, length, refl, rules}
use Rattle.std.proofs.lemmas.Int.{to_z-of_z}
use Rattle.node_pool.specs.declared.node.Node.{Node}
use Rattle.node_pool.specs.declared.node.State.{State}
use Rattle.node_pool.specs.Pool.{IsInHand, PoolContents, split_pool}
use Rattle.node_pool.specs.Queue.{IsPool, IsQueue, states_of}
use Rattle.node_pool.proofs.PoolFacts.{HaveParents, IsSplit, few-wait, have-parents, in-hand-at, is-split, queue-at, split-pool-kept, written}
use Rattle.node_pool.proofs.pool.Pool.split.Goals as goal

pub add_waiting-self-inside-requires-2-clause-queue : goal.add_waiting-self-inside-requires-2-clause-queue
add_waiting-self-inside-requires-2-clause-queue c =
    let pool : IsPool c.self.inside.nodes.items c.self.inside.first c.self.inside.waiting c.self.inside.capacity = c.self.invariant.0 in
    let most : c.self.inside.waiting ≤ length c.self.inside.nodes.items = few-wait c.self.inside.nodes.items c.self.inside.first c.self.inside.waiting c.self.inside.capacity pool in
    let bounded = pool.bounded in
    let few : c.self.inside.waiting + 1 < 4_294_967_295 = omega (arith, c.if-self-count-lt2.false, c.len-count.ensures, c.self.inside.nodes.ok.0, most, bounded) in
    (c.self.inside.waiting + 1, few, c.add_waiting-self-inside.ensures.queue c.self.inside.waiting (omega (arith, few)) pool.queue)

pub invariant_of-self : goal.invariant_of-self
invariant_of-self c =
    let old : List Node = c.self.inside.nodes.items in
    let mid : List Node = c.add_waiting-self-inside.new.nodes.items in
    let later : List Node = c.add_waiting-self-inside-2.new.nodes.items in
    let slice : List Node = c.as_mut_slice.result.now in
    let new : List Node = c.set_state.new.nodes in
    let waiting = c.self.inside.waiting in
    let capacity = c.self.inside.capacity in
    let pool : IsPool old c.self.inside.first waiting capacity = c.self.invariant.0 in
    let views : states_of old ≡ c.args.self.now.states = ap (λ (p : PoolContents). p.states) c.self.view_is in
    let hand : IsInHand (states_of old) c.args.node.0 = in-hand-at old old c.args.self.now.states c.args.node.0 refl views c.requires in
    let most : waiting ≤ length old = few-wait old c.self.inside.first waiting capacity pool in
    let bounded = pool.bounded in
    let few : waiting + 1 < 4_294_967_295 = omega (arith, c.if-self-count-lt2.false, c.len-count.ensures, c.self.inside.nodes.ok.0, most, bounded) in
    let count_is : c.len-count.result ≡ length old = omega (arith, c.len-count.ensures, c.self.inside.nodes.ok.0) in
    let is : IsSplit old slice new c.len-count.result c.args.node.0 c.args.line c.args.at _ _ =
    is-split old mid later slice new c.len-count.result c.args.node.0 c.args.line c.args.at _ _ c.add_waiting-self-inside.ensures.states c.add_waiting-self-inside-2.ensures.states
    c.as_mut_slice.ensures.value count_is c.set_state.ensures hand in
    let queue : IsQueue slice c.add_waiting-self-inside-2.result (waiting + 1 + 1) =
    queue-at later slice c.add_waiting-self-inside-2.result (waiting + 1 + 1) c.as_mut_slice.ensures.value
    (c.add_waiting-self-inside-2.ensures.queue (waiting + 1) few (c.add_waiting-self-inside.ensures.queue waiting (omega (arith, few)) pool.queue)) in
    let have : HaveParents old slice c.args.node.0 =
    have-parents old mid later slice c.args.node _ c.as_mut_slice.ensures.value c.add_waiting-self-inside.ensures.states c.add_waiting-self-inside.ensures.others c.add_waiting-self-inside.ensures.own
    c.add_waiting-self-inside-2.ensures.others c.add_waiting-self-inside-2.ensures.own in (
      split-pool-kept old slice new (drop (length new) later) c.add_waiting-self-inside-2.new.nodes.len c.self.inside.first c.add_waiting-self-inside-2.result waiting capacity
          c.len-count.result c.args.node.0 c.args.line c.args.at _ _ pool is hand c.as_mut_slice.ensures.len c.set_state.ensures queue
          (omega (arith, c.if-self-count-lt2.false, c.len-count.ensures, c.self.inside.nodes.ok.0)) have.others have.first have.second,
      (let first = c.add_waiting-self-inside.ensures.capacity in let second = c.add_waiting-self-inside-2.ensures.capacity in let room = c.self.invariant.1 in omega (arith, first, second, room)),
    )

pub returns-clause-split : goal.returns-clause-split
returns-clause-split c =
    let old : List Node = c.self.inside.nodes.items in
    let mid : List Node = c.add_waiting-self-inside.new.nodes.items in
    let later : List Node = c.add_waiting-self-inside-2.new.nodes.items in
    let slice : List Node = c.as_mut_slice.result.now in
    let new : List Node = c.set_state.new.nodes in
    let views : states_of old ≡ c.args.self.now.states = ap (λ (p : PoolContents). p.states) c.self.view_is in
    let hand : IsInHand (states_of old) c.args.node.0 = in-hand-at old old c.args.self.now.states c.args.node.0 refl views c.requires in
    let count_is : c.len-count.result ≡ length old = omega (arith, c.len-count.ensures, c.self.inside.nodes.ok.0) in
    let left : ℤ = to_z w128 (of_z w128 c.args.left) in
    let right : ℤ = to_z w128 (of_z w128 c.args.right) in
    let left_is : left ≡ c.args.left = to_z-of_z w128 c.args.left (search rules) in
    let right_is : right ≡ c.args.right = to_z-of_z w128 c.args.right (search rules) in
    let is : IsSplit old slice new c.len-count.result c.args.node.0 c.args.line c.args.at left right =
    is-split old mid later slice new c.len-count.result c.args.node.0 c.args.line c.args.at left right c.add_waiting-self-inside.ensures.states c.add_waiting-self-inside-2.ensures.states
    c.as_mut_slice.ensures.value count_is c.set_state.ensures hand in
    ap (λ (ss : List State). record { capacity = c.self.inside.capacity; states = ss })
    (ap states_of (written c.add_waiting-self-inside-2.new.nodes.len new (drop (length new) later) (is.same_length ∙ c.as_mut_slice.ensures.len)) ∙ is.states)
    ∙ ap (λ (p : PoolContents). split_pool p c.args.node.0 c.args.line c.args.at left right) c.self.view_is
    ∙ ap (λ (z : ℤ). split_pool c.args.self.now c.args.node.0 c.args.line c.args.at z right) left_is
    ∙ ap (λ (z : ℤ). split_pool c.args.self.now c.args.node.0 c.args.line c.args.at c.args.left z) right_is
