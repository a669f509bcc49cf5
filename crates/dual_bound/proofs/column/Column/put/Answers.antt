use Rattle.dual_bound.proofs.ColumnSizes.{pay-small}
use Rattle.dual_bound.proofs.column.Column.put.Goals as goal

pub returns-in_ok-push-clause-small : goal.returns-in_ok-push-clause-small
returns-in_ok-push-clause-small c = record {
  coefficients = pay-small c.requires.line.0 c.args.line.now c.args.payment.now c.requires.line.1 c.requires.short;
  short = c.requires.short;
}
