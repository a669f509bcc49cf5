use Rattle.std.proofs.Common.{◌≡◌, length}
use Rattle.plan_finder.proofs.order.ends_of.Given as goal

abbrev pub invariant-loop-line : goal.invariant-loop-line
invariant-loop-line l = length l.ends.items ≡ l.line
