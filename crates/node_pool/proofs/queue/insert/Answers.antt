use Rattle.std.proofs.Common.{◌≡◌, ◌∙◌, ℤ, ap, rules, slice_set}
use Rattle.std.proofs.lemmas.Int.{to_z-of_z}
use mir.Syntax.{w128}
use mir.Val.{of_z, to_z}
use Rattle.node_pool.proofs.QueueFacts.{Inserts, insert-one, lone_node, states-kept, states-set}
use Rattle.node_pool.proofs.queue.insert.Goals as goal

pub merge-requires : goal.merge-requires
merge-requires c =
    let q = c.requires.queue in
    let same : to_z w128 (of_z w128 c.args.key) ≡ c.args.key = to_z-of_z w128 c.args.key (search rules) in
    (insert-one c.args.nodes.now c.set_waiting.new.nodes c.args.link c.args.node.0 c.args.key q.0
    (c.set_waiting.ensures ∙ ap (λ (z : ℤ). slice_set c.args.nodes.now c.args.node.0 (lone_node c.args.nodes.now c.args.node.0 z)) same) q.1 c.requires.there c.requires.out q.2).apart

pub returns-clause-states : goal.returns-clause-states
returns-clause-states c =
    let same : to_z w128 (of_z w128 c.args.key) ≡ c.args.key = to_z-of_z w128 c.args.key (search rules) in
    states-kept c.set_waiting.new.nodes c.merge.new.nodes c.merge.ensures.kept
    ∙ rw (c.set_waiting.ensures ∙ ap (λ (z : ℤ). slice_set c.args.nodes.now c.args.node.0 (lone_node c.args.nodes.now c.args.node.0 z)) same)
    (states-set c.args.nodes.now c.args.node.0 (lone_node c.args.nodes.now c.args.node.0 c.args.key))

pub returns-clause-queue : goal.returns-clause-queue
returns-clause-queue c = λ count few queue.
    (let same : to_z w128 (of_z w128 c.args.key) ≡ c.args.key = to_z-of_z w128 c.args.key (search rules) in
    let inserts : Inserts c.set_waiting.new.nodes c.args.link c.args.node.0 count =
    insert-one c.args.nodes.now c.set_waiting.new.nodes c.args.link c.args.node.0 c.args.key count
    (c.set_waiting.ensures ∙ ap (λ (z : ℤ). slice_set c.args.nodes.now c.args.node.0 (lone_node c.args.nodes.now c.args.node.0 z)) same) few c.requires.there c.requires.out queue in
    inserts.all c.merge.new.nodes c.merge.result c.merge.ensures.kept (c.merge.ensures.value inserts.apart))
