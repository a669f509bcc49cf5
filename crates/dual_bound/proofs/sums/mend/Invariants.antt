use Rattle.std.proofs.Common.{◌≡◌, ℕ, ◌+◌, ◌*◌, ◌<◌, ◌≤◌, length}
use Rattle.dual_bound.specs.Columns.{AreSmallSums, IsSummed, sum_before, worth_at}
use Rattle.proof_tree.specs.declared.prices.TheConstants.{PRICE_SCALE}
use Rattle.dual_bound.proofs.sums.mend.Given as goal

abbrev pub invariant-loop-at : goal.invariant-loop-at
invariant-loop-at l = record {
  every : length l.sums ≡ length l.stops;
  small : AreSmallSums l.sums;
  before : l.before ≡ sum_before l.sums l.at;
  room : l.before.above + l.before.below ≤ l.at * (2 * PRICE_SCALE);
  done : (k : ℕ) → l.from ≤ k → k < l.at → IsSummed l.worths l.stops l.sums k;
  early : (k : ℕ) → k < l.from → worth_at l.sums k ≡ worth_at l.fn.sums k;
  late : (k : ℕ) → l.at ≤ k → worth_at l.sums k ≡ worth_at l.fn.sums k;
}
