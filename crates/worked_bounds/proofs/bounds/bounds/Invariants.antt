use Rattle.std.proofs.Common.{◌≡◌}
use Rattle.worked_bounds.proofs.bounds.bounds.Given as goal

abbrev pub invariant-loop-word : goal.invariant-loop-word
invariant-loop-word l = l.columns.book ≡ l.case.book
