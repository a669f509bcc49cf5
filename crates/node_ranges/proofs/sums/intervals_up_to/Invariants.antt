use Rattle.std.proofs.Common.{◌≡◌, take, map}
use Rattle.node_ranges.specs.Ranges.{up_to}
use Rattle.node_ranges.proofs.sums.intervals_up_to.Given as goal

abbrev pub invariant-loop-high : goal.invariant-loop-high
invariant-loop-high l = l.intervals.items ≡ map up_to (take l.high-index l.most)
