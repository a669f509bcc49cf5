use Rattle.std.proofs.Common.{ℕ, ◌<◌, get_or}
use Rattle.dual_bound.specs.Leasts.{IsInside}
use Rattle.dual_bound.proofs.leasts.span_together.Given as goal

abbrev pub invariant-loop-date : goal.invariant-loop-date
invariant-loop-date l = (k d : ℕ) → k < l.date-index → IsInside l.span (get_or l.dates k d)
