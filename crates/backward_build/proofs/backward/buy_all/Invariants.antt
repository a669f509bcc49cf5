use Rattle.std.proofs.Common.{◌≡◌, ◌-◌, ◌≤◌, Ok, length}
use Rattle.backward_build.specs.BackwardPlan.{IsUnderWay, plan_of_last}
use Rattle.backward_build.proofs.backward.buy_all.Given as goal

abbrev pub invariant-loop-later : goal.invariant-loop-later
invariant-loop-later l = record {
  bought : plan_of_last l.book l.later ≡ Ok l.plan;
  under_way : IsUnderWay l.book (length l.book.needs - l.later) l.plan l.received;
  room : length l.book.needs ≤ length l.received;
}
