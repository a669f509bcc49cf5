use Rattle.std.proofs.Common.{arith}
use Rattle.cash_table.proofs.CostFacts.{cost_at_most}
use Rattle.cash_table.proofs.PaymentFacts.{all_lines}
use Rattle.cash_table.proofs.costs.cost.Goals as goal

pub lines_cost-requires-clause-lines : goal.lines_cost-requires-clause-lines
lines_cost-requires-clause-lines c =
    (c.args.book.now.days, rw c.lines.ensures.value (all_lines c.args.book.now.days c.args.book.now.lines c.lines.ensures.limits.lines))

pub lines_cost-requires-clause-room : goal.lines_cost-requires-clause-room
lines_cost-requires-clause-room c =
    rw (c.lines.ensures.value, c.units.ensures) (omega (arith, cost_at_most c.args.book.now c.args.plan.now c.lines.ensures.limits c.requires))
