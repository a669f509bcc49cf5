use Rattle.std.proofs.Common.{get_or, inl, inr, refl, sym, subst}
use Rattle.offer_book.specs.Portfolio.{line_payments}
use Rattle.backward_build.specs.Spare.{Cover}
use Rattle.plan_finder.proofs.trimming.fewest_within.Goals as goal

pub returns-clause-enough : goal.returns-clause-enough
returns-clause-enough c =
    λ d.
    let book = c.args.ledger.now.book in
    let line = get_or book.lines c.args.duty.now.line d in
    elim c.least_passing.ensures.passes [
      | inl last ↦ subst (λ units. Cover book.needs c.args.duty.now.due (line_payments book.days line units)) (sym last) (c.requires.enough d)
      | inr passes ↦ (passes d).0 refl
    ]
