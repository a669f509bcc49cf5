use Rattle.std.proofs.Common.{◌≡◌}
use Rattle.plan_finder.proofs.dive.Diver.surface.Given as goal

abbrev pub invariant-loop-line : goal.invariant-loop-line
invariant-loop-line l = l.ledger.book ≡ l.fn.ledger.book
