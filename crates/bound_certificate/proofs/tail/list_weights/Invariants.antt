use Rattle.std.proofs.Common.{◌≡◌, ◌≤◌, ◌-◌, ◌*◌, ◌++◌, All, drop, length}
use Rattle.arrayvec.specs.ArrayVec.{array_vec_len}
use Rattle.bound_certificate.specs.Grammar.{weights_of}
use Rattle.bound_certificate.proofs.WeightFacts.{IsSum}
use Rattle.bound_certificate.proofs.tail.list_weights.Given as goal

abbrev pub invariant-loop-place : goal.invariant-loop-place
invariant-loop-place l = record {
  room : 3 * array_vec_len l.weights ≤ l.place;
  within : l.place ≤ length l.numbers;
  few : All IsSum (weights_of (drop l.place l.numbers));
  so_far : l.weights.items ++ weights_of (drop l.place l.numbers) ≡ weights_of l.numbers;
}

abbrev pub decreases-loop-place : goal.decreases-loop-place
decreases-loop-place l = length l.numbers - l.place
