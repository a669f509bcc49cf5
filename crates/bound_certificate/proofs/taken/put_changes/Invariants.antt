use Rattle.std.proofs.Common.{◌≡◌, Some, drop, length}
use Rattle.bound_certificate.specs.Packed.{changed}
use Rattle.bound_certificate.proofs.taken.put_changes.Given as goal

abbrev pub invariant-loop-change : goal.invariant-loop-change
invariant-loop-change l = record {
  same : length l.prices ≡ length l.fn.prices;
  so_far : changed (length l.prices) (Some l.prices) (drop l.change-index l.changes) ≡ changed (length l.fn.prices) (Some l.fn.prices) l.changes;
}
