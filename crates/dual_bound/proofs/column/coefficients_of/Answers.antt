use Rattle.std.proofs.Common.{◌∙◌, ap, subst, sym}
use Rattle.dual_bound.specs.Columns.{IsSmallPay}
use Rattle.dual_bound.proofs.ColumnSizes.{pay-small}
use Rattle.offer_book.specs.Coefficients.{pay_by}
use Rattle.dual_bound.proofs.column.coefficients_of.Goals as goal

pub returns-clause-small : goal.returns-clause-small
returns-clause-small c =
    subst IsSmallPay (sym (c.of.ensures ∙ ap (λ rate. pay_by rate c.args.line.now.step c.args.payment.now) c.rate.ensures))
    (pay-small c.requires.line.0 c.args.line.now c.args.payment.now c.requires.line.1 c.requires.short)
