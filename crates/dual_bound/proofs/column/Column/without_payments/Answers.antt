use Rattle.std.proofs.Common.{◌∙◌, ap}
use Rattle.offer_book.specs.Coefficients.{pay_by}
use Rattle.offer_book.specs.Schedule.{kind_rate}
use Rattle.dual_bound.proofs.ColumnSizes.{head-small}
use Rattle.dual_bound.proofs.column.Column.without_payments.Goals as goal

pub returns-clause-head : goal.returns-clause-head
returns-clause-head c = record {
  costs = c.scaled_cost-cost.ensures;
  accrued = c.accrued.ensures.value;
  regular = c.coefficients_of.ensures.value ∙ ap (pay_by (kind_rate c.args.line.now.kind) c.args.line.now.step) c.regular_payment.ensures.value;
  small = head-small c.args.days.now c.args.line.now _ c.requires.line c.scaled_cost-cost.ensures c.accrued.ensures.days c.coefficients_of.ensures.small;
}

pub scaled_cost-cost-requires : goal.scaled_cost-cost-requires
scaled_cost-cost-requires c = (c.args.days.now, c.requires.line)
