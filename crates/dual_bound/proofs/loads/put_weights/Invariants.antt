use Rattle.std.proofs.Common.{◌≡◌, ◌≤◌, take}
use Rattle.std.specs.Vec.{vec_capacity}
use Rattle.dual_bound.proofs.loads.put_weights.Given as goal

abbrev pub invariant-loop-own : goal.invariant-loop-own
invariant-loop-own l = record {
  weights : l.kept.items ≡ take l.own-index l.weights;
  room : vec_capacity l.fn.kept ≤ vec_capacity l.kept;
}
