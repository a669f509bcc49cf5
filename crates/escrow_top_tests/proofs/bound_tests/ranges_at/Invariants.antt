use Rattle.node_ranges.specs.Ranges.{AreTight}
use Rattle.escrow_top_tests.proofs.bound_tests.ranges_at.Given as goal

abbrev pub invariant-loop-step : goal.invariant-loop-step
invariant-loop-step g l = AreTight l.book l.ranges
