use Rattle.std.proofs.Common.{◌≡◌, length, take}
use Rattle.std.specs.List.{sum_by, zip}
use Rattle.cash_table.proofs.PointFacts.{pair_value}
use Rattle.cash_table.proofs.points.lines_value.Given as goal

abbrev pub invariant-loop-line : goal.invariant-loop-line
invariant-loop-line l = l.total ≡ sum_by (pair_value l.powers.side l.powers.yield_units l.days) (take (length l.yielded) (zip l.lines l.plan))
