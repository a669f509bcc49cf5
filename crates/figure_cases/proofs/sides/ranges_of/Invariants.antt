use Rattle.node_ranges.specs.Ranges.{AreTight}
use Rattle.figure_cases.proofs.sides.ranges_of.Given as goal

abbrev pub invariant-loop-side : goal.invariant-loop-side
invariant-loop-side l = AreTight l.book l.ranges
