use Rattle.std.proofs.Common.{◌≡◌, ℕ, ◌<◌, get_or}
use Rattle.proof_tree.specs.declared.interval.Interval.{Interval}
use Rattle.node_ranges.proofs.ranges.Ranges.single.Given as goal

abbrev pub invariant-loop-interval : goal.invariant-loop-interval
invariant-loop-interval l = (k : ℕ) (d : Interval) → k < l.interval-index → (get_or l.interval-items k d).low ≡ (get_or l.interval-items k d).high
