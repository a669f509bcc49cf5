use Rattle.node_pool.specs.Heap.{Heap, merged}
use Rattle.node_pool.proofs.UpFacts.{turn}
use Rattle.node_pool.proofs.heap.merge.Goals as goal

pub ascend-requires : goal.ascend-requires
ascend-requires c =
    let whole : Heap = merged c.requires.one c.requires.other in
    (whole, rw c.or.ensures (turn c.descend-down.new.nodes c.descend-down.result whole c.descend-down.ensures.done (c.descend-down.ensures.value c.requires)))

pub returns-clause-value : goal.returns-clause-value
returns-clause-value c = λ apart.
    (let whole : Heap = merged apart.one apart.other in
    c.ascend.ensures.value whole (rw c.or.ensures (turn c.descend-down.new.nodes c.descend-down.result whole c.descend-down.ensures.done (c.descend-down.ensures.value apart))))
