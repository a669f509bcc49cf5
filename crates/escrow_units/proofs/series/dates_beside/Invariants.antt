use Rattle.escrow_units.proofs.SeriesAround.{IsBeside}
use Rattle.std.proofs.Common.{◌-◌}
use Rattle.escrow_units.proofs.series.dates_beside.Given as goal

abbrev pub invariant-loop-next : goal.invariant-loop-next
invariant-loop-next l = IsBeside l.fn.maturity l.rule l.day l.steps l.previous l.next

abbrev pub decreases-loop-next : goal.decreases-loop-next
decreases-loop-next l = 84 - l.steps
