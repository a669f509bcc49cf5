use Rattle.std.proofs.Common.{◌∙◌, sym}
use Rattle.node_pool.proofs.HeapFacts.{keeps-links}
use Rattle.node_pool.proofs.MergeFacts.{first-down, first-there, second-down, second-there}
use Rattle.node_pool.proofs.heap.go_down.Goals as goal

pub precedes-requires-clause-other : goal.precedes-requires-clause-other
precedes-requires-clause-other c = let l = c.requires.left in second-there c.args.nodes.now l.1.0 c.args.down l.0 c.args.other l.1.1 c.requires.second

pub returns-then-precedes-clause-value : goal.returns-then-precedes-clause-value
returns-then-precedes-clause-value c = λ steps whole at.
    (rw (c.hang-right.ensures.value, c.hang-right.ensures.taken)
    (first-down c.args.nodes.now steps c.args.down whole c.args.node c.args.other c.requires.first c.requires.second at (sym c.precedes.ensures ∙ c.if-precedes.true)))

pub returns-then-precedes-clause-kept : goal.returns-then-precedes-clause-kept
returns-then-precedes-clause-kept c =
    let l = c.requires.left in
    rw c.hang-right.ensures.value (keeps-links c.args.nodes.now c.args.node.0 _ (first-there c.args.nodes.now l.1.0 c.args.down l.0 c.args.node l.1.1 c.requires.first))

pub hang-right-requires-2 : goal.hang-right-requires-2
hang-right-requires-2 c = let l = c.requires.left in second-there c.args.nodes.now l.1.0 c.args.down l.0 c.args.other l.1.1 c.requires.second

pub returns-clause-value : goal.returns-clause-value
returns-clause-value c = λ steps whole at.
    (rw (c.hang-right-2.ensures.value, c.hang-right-2.ensures.taken)
    (second-down c.args.nodes.now steps c.args.down whole c.args.node c.args.other c.requires.first c.requires.second at (sym c.precedes.ensures ∙ c.if-precedes.false)))

pub returns-clause-kept : goal.returns-clause-kept
returns-clause-kept c =
    let l = c.requires.left in
    rw c.hang-right-2.ensures.value (keeps-links c.args.nodes.now c.args.other.0 _ (second-there c.args.nodes.now l.1.0 c.args.down l.0 c.args.other l.1.1 c.requires.second))
