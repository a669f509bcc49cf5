use Rattle.std.specs.Prelude.{IfSome}
use Rattle.plan_finder.specs.Mend.{IsRise}
use Rattle.plan_finder.proofs.mend.cheapest_rise.Given as goal

abbrev pub invariant-loop-line : goal.invariant-loop-line
invariant-loop-line l = IfSome l.cheapest (IsRise l.ledger.book)
