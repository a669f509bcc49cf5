use Rattle.std.proofs.Common.{take}
use Rattle.std.specs.List.{AllZip}
use Rattle.dual_bound.specs.Columns.{IsRunOf}
use Rattle.dual_bound.proofs.series.Stops.runs.Given as goal

abbrev pub invariant-loop-column : goal.invariant-loop-column
invariant-loop-column l = AllZip (IsRunOf l.self.stops.items) (take l.column-index l.columns) l.runs.items
