use Rattle.std.proofs.Common.{◌∙◌, arith, ap}
use Rattle.verification_report.proofs.BoughtFacts.{cash_costs, cash_first, has_lines, has_room, is_line}
use Rattle.verification_report.proofs.verification.opening_cash.Goals as goal

pub cost-requires-clause-line : goal.cost-requires-clause-line
cost-requires-clause-line c = (
  c.args.book.now.days,
  is_line c.args.book.now c.args.plan.now 0 c.index-lines-0.result c.lines-lines.ensures.limits c.requires (has_lines c.args.book.now c.lines-lines.ensures.limits) (cc),
)

pub cost-requires-clause-units : goal.cost-requires-clause-units
cost-requires-clause-units c =
    omega (arith, c.get.ensures, has_room c.args.book.now c.args.plan.now 0 c.index-lines-0.result c.requires (has_lines c.args.book.now c.lines-lines.ensures.limits) (cc))

pub returns-clause-value : goal.returns-clause-value
returns-clause-value c =
    c.cost.ensures ∙ cash_costs c.index-lines-0.result c.get.result (cash_first c.args.book.now c.index-lines-0.result c.lines-lines.ensures.limits (cc)) ∙ c.get.ensures
