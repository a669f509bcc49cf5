use Rattle.std.proofs.Common.{◌≡◌, ◌⊎◌, ℕ, ◌<◌, length}
use Rattle.dual_bound.specs.Columns.{AreSmallSums, IsSummed}
use Rattle.dual_bound.proofs.DateFacts.{IsListedAhead}
use Rattle.dual_bound.proofs.sums.mend_dates.Given as goal

abbrev pub invariant-loop-date : goal.invariant-loop-date
invariant-loop-date l = record {
  every : length l.sums ≡ length l.stops;
  small : AreSmallSums l.sums;
  summed : (k : ℕ) → k < length l.stops → IsSummed l.worths l.stops l.sums k ⊎ IsListedAhead l.date-index l.dates l.lists k;
}
