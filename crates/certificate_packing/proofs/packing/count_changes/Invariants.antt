use Rattle.std.proofs.Common.{◌≤◌}
use Rattle.certificate_packing.proofs.packing.count_changes.Given as goal

abbrev pub invariant-loop-place : goal.invariant-loop-place
invariant-loop-place l = l.changes ≤ l.most
