use Rattle.std.proofs.Common.{◌≤◌, length}
use Rattle.dual_bound.proofs.series.longest_first.Given as goal

abbrev pub invariant-loop-line : goal.invariant-loop-line
invariant-loop-line l = length l.order.items ≤ l.line
