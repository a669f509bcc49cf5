use Rattle.std.proofs.Common.{◌-◌, inl, inr, arith, rules}
use Rattle.backward_build.proofs.CoverFacts.{covers_less}
use Rattle.backward_build.proofs.residual.fewest_by_halves.Goals as goal

pub returns-clause-fewest : goal.returns-clause-fewest
returns-clause-fewest c =
    λ units least less.
    elim c.least_passing.ensures.least [
      | inl first ↦ absurd (omega (arith, first, least, less))
      | inr fails ↦ covers_less c.args.days.now c.args.residual.now c.args.line.now units (c.least_passing.result - 1) (omega (arith, less)) (search rules)
    ]
