use Rattle.std.proofs.Common.{◌≡◌, length}
use Rattle.worked_bounds.proofs.plans.plan_of.Given as goal

abbrev pub invariant-loop-line : goal.invariant-loop-line
invariant-loop-line l = length l.plan ≡ length l.book.lines
