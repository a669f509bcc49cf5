use Rattle.node_ranges.proofs.SumFacts.{AreCounted}
use Rattle.node_ranges.proofs.sums.most_by_depth.Given as goal

abbrev pub invariant-loop-place : goal.invariant-loop-place
invariant-loop-place l = AreCounted l.dates l.place l.depths l.lines l.counts.items
