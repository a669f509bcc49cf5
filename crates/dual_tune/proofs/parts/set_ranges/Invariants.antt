use Rattle.std.proofs.Common.{◌≡◌}
use Rattle.dual_tune.proofs.parts.set_ranges.Given as goal

abbrev pub invariant-loop-line : goal.invariant-loop-line
invariant-loop-line l = l.simplex ≡ l.fn.simplex
