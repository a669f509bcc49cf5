use Rattle.std.proofs.Common.{◌≡◌, ◌++◌, drop}
use Rattle.branch_search.specs.Purchases.{purchases_from, purchases_of}
use Rattle.branch_search.proofs.found.purchases_of.Given as goal

abbrev pub invariant-loop-line : goal.invariant-loop-line
invariant-loop-line l = l.buys.items ++ purchases_from l.line (drop l.line l.plan) ≡ purchases_of l.plan
