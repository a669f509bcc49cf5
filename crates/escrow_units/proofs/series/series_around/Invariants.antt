use Rattle.std.proofs.Common.{◌-◌}
use Rattle.arrayvec.specs.ArrayVec.{array_vec_len}
use Rattle.escrow_units.proofs.SeriesAround.{IsWalk}
use Rattle.escrow_units.proofs.series.series_around.Given as goal

abbrev pub invariant-loop-next : goal.invariant-loop-next
invariant-loop-next l = IsWalk l.fn.maturity l.rule l.day l.date l.next l.after.items

abbrev pub decreases-loop-next : goal.decreases-loop-next
decreases-loop-next l = 84 - array_vec_len l.after
