use Rattle.std.proofs.Common.{arith}
use Rattle.node_pool.specs.Heap.{merged}
use Rattle.node_pool.proofs.HeapFacts.{keeps-all}
use Rattle.node_pool.proofs.UpFacts.{at-top, too-far-down}
use Rattle.node_pool.proofs.heap.descend.Goals as goal

pub loop-init : goal.loop-init
loop-init c = record { left = λ apart. at-top c.args.nodes.now c.args.first c.args.second apart; kept = keeps-all c.args.nodes.now }

pub go_down-down-requires-clause-left : goal.go_down-down-requires-clause-left
go_down-down-requires-clause-left c = (merged c.requires.one c.requires.other, (c.loop.counter, c.loop.invariant.left c.requires))

pub returns-clause-done : goal.returns-clause-done
returns-clause-done c =
    absurd (too-far-down c.loop.nodes c.loop.counter c.loop.down (merged c.requires.one c.requires.other) (omega (arith, c.loop-test.false)) (c.loop.invariant.left c.requires))
