use Rattle.std.proofs.Common.{get_or, subst, inl, inr}
use Rattle.offer_book.specs.Portfolio.{line_payments}
use Rattle.backward_build.specs.Spare.{Cover}
use Rattle.backward_build.proofs.trimming.fewest.Goals as goal

pub fewest_bought-requires-clause-least : goal.fewest_bought-requires-clause-least
fewest_bought-requires-clause-least c = λ d.
    let line = get_or c.args.book.now.lines c.args.line d in
    elim (c.requires.permitted d) [
      | inl none ↦ (let yes = (c.suffices.ensures d).1 (subst (λ n. Cover c.args.book.now.needs c.args.due.now (line_payments c.args.book.now.days line n)) none (c.requires.enough d)) in
          let no = c.if-suffices.false in
          absurd (cc))
      | inr some ↦ some.0
    ]

pub returns-then-suffices-clause-enough : goal.returns-then-suffices-clause-enough
returns-then-suffices-clause-enough c = λ d. (c.suffices.ensures d).0 c.if-suffices.true

pub returns-else-suffices-clause-fewest : goal.returns-else-suffices-clause-fewest
returns-else-suffices-clause-fewest c = λ fewer d below permitted cover.
    let line = get_or c.args.book.now.lines c.args.line d in
    elim permitted [
      | inl none ↦ (let yes = (c.suffices.ensures d).1 (subst (λ n. Cover c.args.book.now.needs c.args.due.now (line_payments c.args.book.now.days line n)) none cover) in
          let no = c.if-suffices.false in
          cc)
      | inr some ↦ c.fewest_bought.ensures.fewest fewer d below some.0 cover
    ]
