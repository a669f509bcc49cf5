use Rattle.std.proofs.Common.{All}
use Rattle.plan_finder.specs.Dive.{AreLinesOf}
use Rattle.plan_finder.proofs.finder.orders_of.Given as goal

abbrev pub invariant-loop-by : goal.invariant-loop-by
invariant-loop-by l = All (λ order. AreLinesOf l.book order.items) l.orders.items
