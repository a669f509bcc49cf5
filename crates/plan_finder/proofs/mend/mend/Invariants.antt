use Rattle.std.proofs.Common.{◌≡◌}
use Rattle.plan_finder.proofs.mend.mend.Given as goal

abbrev pub invariant-loop-round : goal.invariant-loop-round
invariant-loop-round l = l.ledger.book ≡ l.fn.ledger.book
