use Rattle.std.proofs.Common.{◌*◌, ◌≤◌, All, length}
use Rattle.dual_bound.specs.Columns.{IsStopWithin}
use Rattle.dual_bound.proofs.series.Stops.lay_out.Given as goal

abbrev pub invariant-loop-line : goal.invariant-loop-line
invariant-loop-line l = record {
  within : All (IsStopWithin l.days) l.self.stops.items;
  few : length l.self.stops.items ≤ l.line-index * 85;
}
