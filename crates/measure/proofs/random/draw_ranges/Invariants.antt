use Rattle.std.proofs.Common.{◌≡◌}
use Rattle.measure.proofs.random.draw_ranges.Given as goal

abbrev pub invariant-loop : goal.invariant-loop
invariant-loop l = l.simplex ≡ l.fn.simplex
