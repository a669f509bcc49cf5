use Rattle.std.proofs.Common.{arith}
use Rattle.node_pool.proofs.UpFacts.{too-far-up, up-end}
use Rattle.node_pool.proofs.heap.ascend.Goals as goal

pub returns-in_default-clause-value : goal.returns-in_default-clause-value
returns-in_default-clause-value c = λ whole at. up-end c.loop.nodes c.loop.counter c.loop.above c.loop.link whole c.in_default.is (c.loop.invariant.left whole at)

pub returns-clause-value : goal.returns-clause-value
returns-clause-value c = λ whole at.
    absurd (too-far-up c.loop.nodes c.loop.counter c.loop.above c.loop.link whole (omega (arith, c.loop-test.false)) (c.loop.invariant.left whole at))
