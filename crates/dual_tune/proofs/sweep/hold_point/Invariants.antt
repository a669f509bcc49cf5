use Rattle.std.proofs.Common.{ℕ, ◌<◌, get_or}
use Rattle.proof_tree.specs.declared.interval.Interval.{Interval}
use Rattle.dual_tune.specs.Sweep.{IsPoint}
use Rattle.dual_tune.proofs.sweep.hold_point.Given as goal

abbrev pub invariant-loop-interval : goal.invariant-loop-interval
invariant-loop-interval l = (k : ℕ) (d : Interval) → k < l.interval-index → IsPoint (get_or l.interval-items k d) → ⊥
