use Rattle.std.proofs.Common.{◌*◌, ◌≤◌, length, vec_capacity}
use Rattle.dual_bound.specs.Changes.{AreChangedOf}
use Rattle.dual_bound.proofs.changes.ChangedDates.take.Given as goal

abbrev pub invariant-loop-eight : goal.invariant-loop-eight
invariant-loop-eight l = record {
  room : vec_capacity l.fn.self.dates ≤ vec_capacity l.self.dates;
  few : length l.self.dates.items ≤ 8 * l.eight;
  changes : AreChangedOf (8 * l.eight) l.old l.new l.self.dates.items;
}
