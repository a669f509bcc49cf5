use Rattle.std.proofs.Common.{◌≡◌, ℕ, ◌+◌, ◌*◌, ◌<◌, ◌≤◌, length}
use Rattle.dual_bound.specs.Columns.{IsSummed, sum_before}
use Rattle.proof_tree.specs.declared.prices.TheConstants.{PRICE_SCALE}
use Rattle.dual_bound.proofs.sums.sum_up.Given as goal

abbrev pub invariant-loop-at : goal.invariant-loop-at
invariant-loop-at l = record {
  every : length l.sums ≡ length l.stops;
  before : l.together ≡ sum_before l.sums l.at;
  small : l.together.above + l.together.below ≤ l.at * (2 * PRICE_SCALE);
  summed : (k : ℕ) → k < l.at → IsSummed l.worths l.stops l.sums k;
}
