use Rattle.std.proofs.Common.{◌+◌, ◌≤◌, length}
use Rattle.dual_bound.specs.Columns.{Extends, IsDayTable, KeepsHead}
use Rattle.dual_bound.proofs.ColumnMade.{IsSoFar}
use Rattle.dual_bound.proofs.column.Column.put_all.Given as goal

abbrev pub invariant-loop-payment : goal.invariant-loop-payment
invariant-loop-payment l = record {
  table : IsDayTable l.powers.yield_units l.book l.table;
  extends : Extends l.fn.table.days.items l.table.days.items;
  more : length l.table.days.items ≤ length l.fn.table.days.items + l.payment-index;
  head : KeepsHead l.fn.self l.self;
  so_far : IsSoFar l.powers.yield_units l.book l.table.days.items l.line l.payments l.payment-index l.self;
}
