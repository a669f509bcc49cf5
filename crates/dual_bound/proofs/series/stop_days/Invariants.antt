use Rattle.std.proofs.Common.{◌≡◌, map, take}
use Rattle.dual_bound.specs.Columns.{stop_day}
use Rattle.dual_bound.proofs.series.stop_days.Given as goal

abbrev pub invariant-loop-stop : goal.invariant-loop-stop
invariant-loop-stop l = l.list.items ≡ map (stop_day l.dates l.days) (take l.stop-index l.stops)
