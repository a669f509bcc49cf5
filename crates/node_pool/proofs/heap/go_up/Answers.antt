use Rattle.node_pool.proofs.UpFacts.{is-at, up-once}
use Rattle.node_pool.proofs.heap.go_up.Goals as goal

pub attach-requires-clause-left : goal.attach-requires-clause-left
attach-requires-clause-left c = (is-at c.args.nodes.now c.requires.0 c.args.node c.args.link c.requires.1 c.requires.2).left

pub attach-requires-clause-other : goal.attach-requires-clause-other
attach-requires-clause-other c = (is-at c.args.nodes.now c.requires.0 c.args.node c.args.link c.requires.1 c.requires.2).other

pub attach-requires-clause-left_rank : goal.attach-requires-clause-left_rank
attach-requires-clause-left_rank c = (is-at c.args.nodes.now c.requires.0 c.args.node c.args.link c.requires.1 c.requires.2).left_rank

pub attach-requires-clause-other_rank : goal.attach-requires-clause-other_rank
attach-requires-clause-other_rank c = (is-at c.args.nodes.now c.requires.0 c.args.node c.args.link c.requires.1 c.requires.2).other_rank

pub returns-clause-value : goal.returns-clause-value
returns-clause-value c = λ steps whole at.
    (rw (c.attach.ensures, c.right_of-above.ensures) (up-once c.args.nodes.now steps c.args.node c.args.link whole at))
