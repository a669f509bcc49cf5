use Rattle.std.proofs.Common.{◌∙◌, ap, arith}
use Rattle.offer_book.specs.Coefficients.{Enclosure}
use Rattle.backward_build.proofs.OrderFacts.{cost_small, pays_small}
use Rattle.backward_build.proofs.TrimFacts.{some_line}
use Rattle.backward_build.proofs.order.saving.Goals as goal

pub worth_at-worth-requires-clause-pays : goal.worth_at-worth-requires-clause-pays
worth_at-worth-requires-clause-pays c =
    pays_small c.args.book.now c.args.line some_line c.as_slice.result.now c.needs-needs.ensures.limits c.requires.line (c.as_slice.ensures.value ∙ c.coefficients-coefficients.ensures.pays some_line)

pub excess-requires-clause-cost : goal.excess-requires-clause-cost
excess-requires-clause-cost c =
    omega (arith, ap (λ (e : Enclosure). e.low) (c.coefficients-coefficients.ensures.costs some_line), cost_small c.args.book.now c.args.line some_line c.needs-needs.ensures.limits c.requires.line)
