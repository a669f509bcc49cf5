use Rattle.std.proofs.Common.{arith}
use Rattle.std.proofs.lemmas.List.{take_rest}
use Rattle.cash_table.proofs.CostFacts.{drop-zip, security_cost_at_most}
use Rattle.cash_table.proofs.FlowFacts.{lines_after_cash, securities_permitted}
use Rattle.cash_table.proofs.costs.security_cost.Goals as goal

pub lines_cost-requires-clause-lines : goal.lines_cost-requires-clause-lines
lines_cost-requires-clause-lines c = (
  c.args.book.now.days,
  simp (take_rest, c.lines.ensures.value) (lines_after_cash c.args.book.now.days c.args.book.now.lines c.lines.ensures.limits.lines),
)

pub lines_cost-requires-clause-permitted : goal.lines_cost-requires-clause-permitted
lines_cost-requires-clause-permitted c =
    simp (take_rest, drop-zip, c.lines.ensures.value, c.units.ensures) (securities_permitted c.args.book.now.lines c.args.plan.now c.requires.units)

pub lines_cost-requires-clause-room : goal.lines_cost-requires-clause-room
lines_cost-requires-clause-room c =
    simp (take_rest, drop-zip, c.lines.ensures.value, c.units.ensures) (omega (arith, security_cost_at_most c.args.book.now c.args.plan.now c.lines.ensures.limits c.requires))

pub returns-clause-bound : goal.returns-clause-bound
returns-clause-bound c =
    rw c.lines_cost.ensures
    (simp (take_rest, drop-zip, c.lines.ensures.value, c.units.ensures) (omega (arith, security_cost_at_most c.args.book.now c.args.plan.now c.lines.ensures.limits c.requires)))
