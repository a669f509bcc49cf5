use Rattle.std.proofs.Common.{◌≡◌, ◌+◌, ◌*◌, ◌≤◌, take}
use Rattle.dual_bound.specs.Columns.{worth_together}
use Rattle.proof_tree.specs.declared.prices.TheConstants.{PRICE_SCALE}
use Rattle.dual_bound.proofs.sums.sum_of.Given as goal

abbrev pub invariant-loop-place : goal.invariant-loop-place
invariant-loop-place l = record {
  value : l.together ≡ worth_together l.worths (take l.place-index l.places);
  small : l.together.above + l.together.below ≤ l.place-index * (2 * PRICE_SCALE);
}
