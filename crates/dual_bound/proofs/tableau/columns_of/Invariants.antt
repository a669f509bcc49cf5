use Rattle.std.proofs.Common.{◌*◌, ◌≤◌, All, length, take}
use Rattle.std.specs.List.{AllZip}
use Rattle.dual_bound.specs.Columns.{IsColumn, IsDayTable, IsSmallColumn}
use Rattle.dual_bound.proofs.tableau.columns_of.Given as goal

abbrev pub invariant-loop-line : goal.invariant-loop-line
invariant-loop-line l = record {
  table : IsDayTable l.powers.yield_units l.book l.table;
  more : length l.table.days.items ≤ l.line-index * 84;
  columns : AllZip (IsColumn l.powers.yield_units l.book l.table.days.items) (take l.line-index l.line-items) l.columns.items;
  small : All IsSmallColumn l.columns.items;
}
