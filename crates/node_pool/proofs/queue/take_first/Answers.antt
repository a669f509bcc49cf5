use Rattle.std.proofs.Common.{◌∙◌}
use Rattle.node_pool.specs.declared.node.State.TheVariants as state
use Rattle.node_pool.specs.Heap.{node_at}
use Rattle.node_pool.proofs.QueueFacts.{Taken, states-kept, states-set, take-first}
use Rattle.node_pool.proofs.queue.take_first.Goals as goal

pub merge-requires : goal.merge-requires
merge-requires c =
    (take-first c.args.nodes.now c.set_state.new.nodes c.args.first c.links_at-links.result c.requires.0 c.set_state.ensures c.links_at-links.ensures c.requires.1 c.requires.2).apart

pub returns-clause-states : goal.returns-clause-states
returns-clause-states c =
    states-kept c.set_state.new.nodes c.merge.new.nodes c.merge.ensures.kept
    ∙ rw c.set_state.ensures (states-set c.args.nodes.now c.args.first.0 (record (node_at c.args.nodes.now c.args.first.0) { state = state.InHand }))

pub returns-clause-least : goal.returns-clause-least
returns-clause-least c =
    (take-first c.args.nodes.now c.set_state.new.nodes c.args.first c.links_at-links.result c.requires.0 c.set_state.ensures c.links_at-links.ensures c.requires.1 c.requires.2).least

pub returns-clause-queue : goal.returns-clause-queue
returns-clause-queue c = λ count few queue.
    (let taken : Taken c.args.nodes.now c.set_state.new.nodes c.args.first c.links_at-links.result count =
    take-first c.args.nodes.now c.set_state.new.nodes c.args.first c.links_at-links.result count c.set_state.ensures c.links_at-links.ensures few queue in
    taken.rest c.merge.new.nodes c.merge.result c.merge.ensures.kept (c.merge.ensures.value taken.apart))

pub returns-clause-some : goal.returns-clause-some
returns-clause-some c = λ count few queue.
    (take-first c.args.nodes.now c.set_state.new.nodes c.args.first c.links_at-links.result count c.set_state.ensures c.links_at-links.ensures few queue).some
