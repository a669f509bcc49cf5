use Rattle.std.proofs.Common.{◌≡◌, ◌*◌, ◌^◌, ◌≤◌, take, unsigned_abs}
use Rattle.dual_bound.specs.Columns.{others_paid}
use Rattle.dual_bound.proofs.column.Column.others_paid.Given as goal

abbrev pub invariant-loop-other : goal.invariant-loop-other
invariant-loop-other l =
    (l.paid ≡ others_paid l.rate.0 l.amount.0 l.worths (take l.other-index l.other-items)) × (unsigned_abs l.paid ≤ l.other-index * (4 * 10 ^ 25))
