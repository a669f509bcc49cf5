use Rattle.std.proofs.Common.{◌≡◌, drop}
use Rattle.bound_certificate.proofs.NearFacts.{near}
use Rattle.bound_certificate.proofs.near.rises_near.Given as goal

abbrev pub invariant-loop-change : goal.invariant-loop-change
invariant-loop-change l = near l.prices (drop l.change-index l.changes) ≡ near l.prices l.changes
