use Rattle.std.proofs.Common.{◌≡◌, length}
use Rattle.dual_tune.specs.Table.{HasRoomForPayers}
use Rattle.dual_tune.proofs.table.no_date_forms.Given as goal

abbrev pub invariant-loop-of_date : goal.invariant-loop-of_date
invariant-loop-of_date l = record {
  count : length l.dates.items ≡ l.of_date-index;
  room : HasRoomForPayers l.payers l.dates.items;
}
