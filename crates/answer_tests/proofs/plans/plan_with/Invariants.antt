use Rattle.std.proofs.Common.{◌≡◌, length}
use Rattle.answer_tests.proofs.plans.plan_with.Given as goal

abbrev pub invariant-loop-line : goal.invariant-loop-line
invariant-loop-line g l = length l.plan ≡ length l.book.lines
