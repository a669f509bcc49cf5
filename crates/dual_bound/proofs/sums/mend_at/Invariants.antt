use Rattle.std.proofs.Common.{◌≡◌, ◌⊎◌, ℕ, ◌<◌, length}
use Rattle.std.specs.List.{Contains}
use Rattle.dual_bound.specs.Columns.{AreSmallSums, IsSummed}
use Rattle.dual_bound.proofs.DateFacts.{IsAhead}
use Rattle.dual_bound.proofs.sums.mend_at.Given as goal

abbrev pub invariant-loop-place : goal.invariant-loop-place
invariant-loop-place l = record {
  every : length l.sums ≡ length l.stops;
  small : AreSmallSums l.sums;
  summed : (k : ℕ) → k < length l.stops → IsSummed l.worths l.stops l.fn.sums k ⊎ Contains l.places k → IsSummed l.worths l.stops l.sums k ⊎ IsAhead l.place-index l.places k;
}
