use Rattle.std.proofs.Common.{ap, arith}
use Rattle.escrow_units.specs.declared.security.Flow.{Flow}
use Rattle.dual_bound.proofs.ColumnSizes.{cents-little}
use Rattle.dual_bound.proofs.column.other_cents.Goals as goal

pub returns-clause-small : goal.returns-clause-small
returns-clause-small c =
    omega (arith, ap (λ (x : Flow). x.cents.0) c.flow.ensures, cents-little c.args.amount.0 c.args.rate.0 c.args.payment.now c.requires.rate c.requires.short)
