use Rattle.std.proofs.Common.{◌≡◌, ◌*◌, ◌^◌, ◌≤◌, take, unsigned_abs}
use Rattle.dual_bound.specs.LeafBound.{weighed_ends}
use Rattle.dual_bound.proofs.loads.weighed_ends.Given as goal

abbrev pub invariant-loop-own : goal.invariant-loop-own
invariant-loop-own l = record {
  value : l.ends ≡ weighed_ends l.book l.sums (take l.own-index l.weights);
  small : unsigned_abs l.ends ≤ l.own-index * (512 * 10 ^ 32);
}
