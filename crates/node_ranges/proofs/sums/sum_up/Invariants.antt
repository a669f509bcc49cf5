use Rattle.node_ranges.proofs.SumFacts.{AreSummedFrom}
use Rattle.node_ranges.proofs.sums.sum_up.Given as goal

abbrev pub invariant-loop-place : goal.invariant-loop-place
invariant-loop-place l = AreSummedFrom l.fn.counts l.counts l.place l.after
