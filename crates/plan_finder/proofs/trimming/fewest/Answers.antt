use Rattle.std.proofs.Common.{get_or, subst, inl, inr}
use Rattle.offer_book.specs.Portfolio.{line_payments}
use Rattle.backward_build.specs.Spare.{Cover}
use Rattle.plan_finder.proofs.trimming.fewest.Goals as goal

pub bracket_of-bracket-requires-clause-least : goal.bracket_of-bracket-requires-clause-least
bracket_of-bracket-requires-clause-least c = λ d.
    let line = get_or c.args.ledger.now.book.lines c.args.duty.now.line d in
    elim (c.requires.permitted d) [
      | inl none ↦ (let yes = (c.suffices.ensures d).1 (subst (λ n. Cover c.args.ledger.now.book.needs c.args.duty.now.due (line_payments c.args.ledger.now.book.days line n)) none (c.requires.enough d)) in
          let no = c.if-suffices.false in
          absurd (cc))
      | inr some ↦ some.0
    ]

pub returns-then-suffices-clause-enough : goal.returns-then-suffices-clause-enough
returns-then-suffices-clause-enough c = λ d. (c.suffices.ensures d).0 c.if-suffices.true
