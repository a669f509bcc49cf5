use Rattle.std.proofs.Common.{arith}
use Rattle.dual_bound.proofs.ColumnSizes.{earned-little}
use Rattle.dual_bound.proofs.column.regular_cents.Goals as goal

pub returns-clause-small : goal.returns-clause-small
returns-clause-small c =
    omega (
      arith,
      c.earned.ensures.value,
      earned-little c.args.amount.0 c.args.rate.0 (record { parts = 1; year = 2 }) c.requires.rate (record { year = omega arith; parts = omega arith; days = omega arith }),
    )
