use Rattle.std.proofs.Common.{◌≡◌, ℕ, ◌*◌, ◌^◌, ◌<◌, ◌≤◌, get_or, length, pos, ◌*ℤ◌, ℤ, take, unsigned_abs}
use Rattle.offer_book.specs.declared.coefficients.TheConstants.{COEFFICIENT_SCALE}
use Rattle.dual_bound.specs.LeafBound.{load, signed_sum, signed_weight}
use Rattle.dual_bound.proofs.LoadFacts.{IsTakenTo}
use Rattle.dual_bound.proofs.loads.load_depths.Given as goal

abbrev pub invariant-loop-depth : goal.invariant-loop-depth
invariant-loop-depth l = record {
  same : length l.by_depth ≡ length l.fn.by_depth;
  taken : IsTakenTo l.weights l.depth l.next;
  value : l.load ≡ pos (COEFFICIENT_SCALE * l.coarse) *ℤ signed_sum signed_weight (take l.next l.weights);
  small : unsigned_abs l.load ≤ l.next * (64 * 10 ^ 29);
  before : (k : ℕ) (d : ℤ) → k < l.depth → get_or l.by_depth k d ≡ pos (COEFFICIENT_SCALE * l.coarse) *ℤ load l.weights k;
}
