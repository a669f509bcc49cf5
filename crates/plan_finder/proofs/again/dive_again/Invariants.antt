use Rattle.std.proofs.Common.{◌≡◌}
use Rattle.plan_finder.proofs.again.dive_again.Given as goal

abbrev pub invariant-loop-round : goal.invariant-loop-round
invariant-loop-round l = l.search ≡ l.fn.search
