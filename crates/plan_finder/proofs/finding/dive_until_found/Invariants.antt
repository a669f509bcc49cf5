use Rattle.std.proofs.Common.{◌≡◌}
use Rattle.plan_finder.proofs.finding.dive_until_found.Given as goal

abbrev pub invariant-loop-number : goal.invariant-loop-number
invariant-loop-number l = l.search ≡ l.fn.search
