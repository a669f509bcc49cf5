use Rattle.certificate_packing.proofs.PackFacts.{IsSoFar}
use Rattle.certificate_packing.proofs.packing.difference.Given as goal

abbrev pub invariant-loop-place : goal.invariant-loop-place
invariant-loop-place l = IsSoFar l.vector l.prices l.place l.changes.items
