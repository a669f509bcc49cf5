use Rattle.std.proofs.Common.{arith}
use Rattle.dual_bound.proofs.BoundSizes.{priced-small}
use Rattle.dual_bound.proofs.tableau.Tableau.needs_worth.Goals as goal

pub returns-clause-size : goal.returns-clause-size
returns-clause-size c =
    let tableau = c.requires in
    omega (arith, tableau.needs, priced-small c.args.book.now.needs c.args.self.now.priced.leaf.prices tableau.leaf.range, tableau.limits.needs.small)
