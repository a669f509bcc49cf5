use Rattle.std.proofs.Common.{◌*◌, ◌≤◌, ◌^◌, unsigned_abs}
use Rattle.sparse_basis.proofs.cells.product_in_runs.Given as goal

abbrev pub invariant-loop-entry : goal.invariant-loop-entry
invariant-loop-entry l = unsigned_abs l.sum ≤ l.entry-index * 2 ^ 116
