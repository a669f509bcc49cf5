use Rattle.std.proofs.Common.{◌≡◌, ◌*◌, ◌≤◌, take, unsigned_abs}
use Rattle.dual_bound.specs.LeafBound.{load}
use Rattle.proof_tree.specs.declared.prices.TheConstants.{PRICE_SCALE}
use Rattle.dual_bound.proofs.loads.load.Given as goal

abbrev pub invariant-loop-own : goal.invariant-loop-own
invariant-loop-own l = record {
  value : l.load ≡ load (take l.own-index l.weights) l.depth;
  small : unsigned_abs l.load ≤ l.own-index * PRICE_SCALE;
}
