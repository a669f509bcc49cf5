use Rattle.std.proofs.Common.{arith}
use Rattle.dual_bound.proofs.Sizes.{line_cost-small}
use Rattle.dual_bound.proofs.column.Column.priced_cost.Goals as goal

pub weighed-cost-requires-clause-cents : goal.weighed-cost-requires-clause-cents
weighed-cost-requires-clause-cents c =
    omega (arith, c.cost_by.ensures, line_cost-small c.requires.line.0 c.args.line.now c.args.units c.requires.line.1 c.requires.units)
