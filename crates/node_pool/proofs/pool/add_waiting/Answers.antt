use mir.Syntax.{w128}
use mir.Val.{of_z, to_z}
use Rattle.std.proofs.Common.{◌≡◌, ◌∙◌, ◌+◌, ◌++◌, ◌∷◌, [], ℤ, List, Some, ap, arith, drop, length, refl, rules, subst, sym}
use Rattle.std.proofs.lemmas.Int.{to_z-of_z}
use Rattle.node_pool.specs.declared.node.Node.{Node}
use Rattle.node_pool.specs.declared.node.State.TheVariants as state
use Rattle.node_pool.specs.Heap.{lone_links}
use Rattle.node_pool.specs.Queue.{IsQueue, states_of}
use Rattle.node_pool.proofs.PoolFacts.{added-queue, added-states, added-written, pushed}
use Rattle.node_pool.proofs.pool.add_waiting.Goals as goal

pub insert-requires-clause-queue : goal.insert-requires-clause-queue
insert-requires-clause-queue c =
    let old : List Node = c.args.nodes.now.items in
    let plain : Node = record { parent = Some c.args.parent; state = state.InHand; links = lone_links } in
    let slice : c.as_mut_slice.result.now ≡ old ++ plain ∷ [] =
    pushed c.push-pushed.result old c.push-pushed.new.self.items c.as_mut_slice.result.now c.node_in_hand.result plain c.push-pushed.ensures.items
    (c.push-pushed.ensures.succeeds (omega (arith, c.requires.room, c.args.nodes.now.ok.0))) c.as_mut_slice.ensures.value c.node_in_hand.ensures in
    (c.requires.queue.0, c.requires.queue.1, added-queue old c.as_mut_slice.result.now plain c.args.link c.requires.queue.0 slice refl c.requires.queue.2)

pub returns-clause-states : goal.returns-clause-states
returns-clause-states c =
    let old : List Node = c.args.nodes.now.items in
    let plain : Node = record { parent = Some c.args.parent; state = state.InHand; links = lone_links } in
    let slice : c.as_mut_slice.result.now ≡ old ++ plain ∷ [] =
    pushed c.push-pushed.result old c.push-pushed.new.self.items c.as_mut_slice.result.now c.node_in_hand.result plain c.push-pushed.ensures.items
    (c.push-pushed.ensures.succeeds (omega (arith, c.requires.room, c.args.nodes.now.ok.0))) c.as_mut_slice.ensures.value c.node_in_hand.ensures in
    let key : ℤ = to_z w128 (of_z w128 c.args.key) in
    let same : key ≡ c.args.key = to_z-of_z w128 c.args.key (search rules) in
    let place : c.len.result ≡ length old = omega (arith, c.len.ensures, c.args.nodes.now.ok.0) in
    ap states_of (added-written c.push-pushed.new.self.len c.as_mut_slice.result.now c.insert.new.nodes (drop (length c.insert.new.nodes) c.push-pushed.new.self.items) c.len.result (state.Waiting key)
    c.as_mut_slice.ensures.len c.insert.ensures.states)
    ∙ added-states old c.as_mut_slice.result.now c.insert.new.nodes plain c.len.result (state.Waiting key) slice place c.insert.ensures.states
    ∙ ap (λ (z : ℤ). states_of old ++ state.Waiting z ∷ []) same

pub returns-clause-queue : goal.returns-clause-queue
returns-clause-queue c = λ count few queue.
    (let old : List Node = c.args.nodes.now.items in
    let plain : Node = record { parent = Some c.args.parent; state = state.InHand; links = lone_links } in
    let key : ℤ = to_z w128 (of_z w128 c.args.key) in
    let slice : c.as_mut_slice.result.now ≡ old ++ plain ∷ [] =
    pushed c.push-pushed.result old c.push-pushed.new.self.items c.as_mut_slice.result.now c.node_in_hand.result plain c.push-pushed.ensures.items
    (c.push-pushed.ensures.succeeds (omega (arith, c.requires.room, c.args.nodes.now.ok.0))) c.as_mut_slice.ensures.value c.node_in_hand.ensures in
    let P : List Node → Type 0 = λ ns. IsQueue ns c.insert.result (count + 1) in
    subst P (sym (added-written c.push-pushed.new.self.len c.as_mut_slice.result.now c.insert.new.nodes (drop (length c.insert.new.nodes) c.push-pushed.new.self.items) c.len.result (state.Waiting key)
    c.as_mut_slice.ensures.len c.insert.ensures.states))
    (c.insert.ensures.queue count few (added-queue old c.as_mut_slice.result.now plain c.args.link count slice refl queue)))
