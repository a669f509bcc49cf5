use Rattle.dual_tune.specs.Payers.{ArePayersByDate}
use Rattle.dual_tune.proofs.payers.payers_by_date.Given as goal

abbrev pub invariant-loop-line : goal.invariant-loop-line
invariant-loop-line l = ArePayersByDate l.book l.line l.by_date.items
