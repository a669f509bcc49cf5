use Rattle.std.proofs.Common.{◌≡◌}
use Rattle.measure.proofs.random.free.Given as goal

abbrev pub invariant-loop-line : goal.invariant-loop-line
invariant-loop-line l = l.simplex ≡ l.fn.simplex
