use Rattle.std.proofs.Common.{◌≤◌, length}
use Rattle.bound_certificate.proofs.StairFacts.{AreStairsTo}
use Rattle.bound_certificate.proofs.taken.put_stairs.Given as goal

abbrev pub invariant-loop-place : goal.invariant-loop-place
invariant-loop-place l = record {
  some : l.next ≤ length l.steps;
  are : AreStairsTo l.dates l.steps l.prices l.place l.price l.next;
}
