use Rattle.std.proofs.Common.{◌≡◌}
use Rattle.plan_finder.proofs.again.chain.Given as goal

abbrev pub invariant-loop-dive : goal.invariant-loop-dive
invariant-loop-dive l = l.search ≡ l.fn.search
