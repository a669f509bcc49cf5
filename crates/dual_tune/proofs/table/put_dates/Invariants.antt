use Rattle.std.proofs.Common.{◌≡◌, ◌<◌, ℕ, get_or}
use Rattle.dual_tune.specs.Table.{AreDateForms, HasRoomForPayers}
use Rattle.dual_tune.specs.declared.payers.Payers.{Payers}
use Rattle.dual_tune.specs.declared.table.DateForms.{DateForms}
use Rattle.dual_tune.proofs.table.put_dates.Given as goal

abbrev pub invariant-loop-place : goal.invariant-loop-place
invariant-loop-place l = record {
  columns : l.columns ≡ l.fn.columns;
  room : HasRoomForPayers l.payers l.dates;
  forms : (place : ℕ) (d : DateForms) (e : Payers) → place < l.place
      → AreDateForms l.fn.columns.yield_units l.fn.columns.book l.leaf place (get_or l.payers place e).lines.items (get_or l.dates place d);
}
