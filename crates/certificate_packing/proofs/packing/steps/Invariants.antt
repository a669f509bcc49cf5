use Rattle.certificate_packing.proofs.PackFacts.{AreStepsSoFar}
use Rattle.certificate_packing.proofs.packing.steps.Given as goal

abbrev pub invariant-loop-place : goal.invariant-loop-place
invariant-loop-place l = AreStepsSoFar l.prices l.place l.before l.changes.items
