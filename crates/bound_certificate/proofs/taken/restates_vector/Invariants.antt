use Rattle.std.proofs.Common.{◌≡◌, Some, drop}
use Rattle.bound_certificate.specs.Packed.{restates}
use Rattle.bound_certificate.proofs.taken.restates_vector.Given as goal

abbrev pub invariant-loop-change : goal.invariant-loop-change
invariant-loop-change l = restates (Some l.vector) (drop l.change-index l.changes) ≡ restates (Some l.vector) l.changes
