use Rattle.std.proofs.Common.{◌∙◌, ◌-◌, get_or, inl, inr, ap, refl, sym, subst, arith}
use Rattle.std.proofs.lemmas.List.{get_or_default}
use Rattle.offer_book.specs.Portfolio.{line_payments}
use Rattle.offer_book.specs.declared.line.Line.{Line}
use Rattle.backward_build.specs.Spare.{Cover}
use Rattle.backward_build.proofs.TrimFacts.{cover_more}
use Rattle.backward_build.proofs.trimming.fewest_bought.Goals as goal

pub returns-clause-enough : goal.returns-clause-enough
returns-clause-enough c =
    λ d.
    let line = get_or c.args.book.now.lines c.args.line d in
    elim c.least_passing.ensures.passes [
      | inl last ↦ subst (λ units. Cover c.args.book.now.needs c.args.due.now (line_payments c.args.book.now.days line units)) (sym last) (c.requires.enough d)
      | inr passes ↦
          (passes d).0 refl
    ]

pub returns-clause-fewest : goal.returns-clause-fewest
returns-clause-fewest c =
    λ fewer d below above cover.
    let line = get_or c.args.book.now.lines c.args.line d in
    elim c.least_passing.ensures.least [
      | inl first ↦
          omega (arith, first, below, above, ap (λ (l : Line). l.least) (c.line.ensures ∙ get_or_default c.args.book.now.lines c.args.line c.line.result.now d c.requires.line))
      | inr fails ↦
          let more = cover_more c.args.book.now.days c.args.book.now.needs line c.args.due.now fewer (c.least_passing.result - 1) (omega (arith, below)) cover in
          let no = (fails d).1 more in
          cc
    ]
