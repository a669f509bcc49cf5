use Rattle.std.proofs.Common.{◌≤◌, length, vec_capacity}
use Rattle.dual_bound.specs.Changes.{AreChangedOf}
use Rattle.dual_bound.proofs.changes.ChangedDates.take_between.Given as goal

abbrev pub invariant-loop-date : goal.invariant-loop-date
invariant-loop-date l = record {
  room : vec_capacity l.fn.self.dates ≤ vec_capacity l.self.dates;
  few : length l.self.dates.items ≤ l.date;
  changes : AreChangedOf l.date l.old l.new l.self.dates.items;
}
