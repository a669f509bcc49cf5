use Rattle.std.proofs.Common.{◌∙◌, ap, arith}
use Rattle.std.proofs.lemmas.List.{get_or_default}
use Rattle.dual_bound.specs.declared.worth.Worth.{Worth}
use Rattle.dual_bound.proofs.SumFacts.{same-worth}
use Rattle.dual_bound.proofs.TableauFacts.{run-of, some-column}
use Rattle.dual_bound.proofs.tableau.Tableau.run_worth.Goals as goal

pub index-requires : goal.index-requires
index-requires c =
    omega (
      arith,
      (run-of c.args.book.now c.args.self.now c.args.line (some-column c.args.book.now c.args.self.now c.args.line c.requires.tableau c.requires.line) c.args.run c.requires.tableau c.requires.line c.requires.run).to,
    )

pub index-requires-2 : goal.index-requires-2
index-requires-2 c =
    omega (
      arith,
      (run-of c.args.book.now c.args.self.now c.args.line (some-column c.args.book.now c.args.self.now c.args.line c.requires.tableau c.requires.line) c.args.run c.requires.tableau c.requires.line c.requires.run).from,
    )

pub minus-requires-clause-above : goal.minus-requires-clause-above
minus-requires-clause-above c =
    let known = run-of c.args.book.now c.args.self.now c.args.line (some-column c.args.book.now c.args.self.now c.args.line c.requires.tableau c.requires.line) c.args.run c.requires.tableau c.requires.line c.requires.run in
    let none : Worth = record { above = 0; below = 0 } in
    let to = c.index.ensures ∙ get_or_default c.args.self.now.priced.sums.items c.args.run.to c.index.result.now none known.to in
    let from = c.index-2.ensures ∙ get_or_default c.args.self.now.priced.sums.items c.args.run.from c.index-2.result.now none known.from in
    omega (arith, ap (λ (w : Worth). w.above) to, ap (λ (w : Worth). w.above) from, ap (λ (w : Worth). w.above) known.worth)

pub minus-requires-clause-below : goal.minus-requires-clause-below
minus-requires-clause-below c =
    let known = run-of c.args.book.now c.args.self.now c.args.line (some-column c.args.book.now c.args.self.now c.args.line c.requires.tableau c.requires.line) c.args.run c.requires.tableau c.requires.line c.requires.run in
    let none : Worth = record { above = 0; below = 0 } in
    let to = c.index.ensures ∙ get_or_default c.args.self.now.priced.sums.items c.args.run.to c.index.result.now none known.to in
    let from = c.index-2.ensures ∙ get_or_default c.args.self.now.priced.sums.items c.args.run.from c.index-2.result.now none known.from in
    omega (arith, ap (λ (w : Worth). w.below) to, ap (λ (w : Worth). w.below) from, ap (λ (w : Worth). w.below) known.worth)

pub returns-clause-value : goal.returns-clause-value
returns-clause-value c =
    λ d.
    let known = run-of c.args.book.now c.args.self.now c.args.line d c.args.run c.requires.tableau c.requires.line c.requires.run in
    let none : Worth = record { above = 0; below = 0 } in
    let to = c.index.ensures ∙ get_or_default c.args.self.now.priced.sums.items c.args.run.to c.index.result.now none known.to in
    let from = c.index-2.ensures ∙ get_or_default c.args.self.now.priced.sums.items c.args.run.from c.index-2.result.now none known.from in
    same-worth c.minus.result _
    (omega (arith, c.minus.ensures.above, ap (λ (w : Worth). w.above) to, ap (λ (w : Worth). w.above) from, ap (λ (w : Worth). w.above) known.worth))
    (omega (arith, c.minus.ensures.below, ap (λ (w : Worth). w.below) to, ap (λ (w : Worth). w.below) from, ap (λ (w : Worth). w.below) known.worth))

pub returns-clause-light : goal.returns-clause-light
returns-clause-light c =
    let known = run-of c.args.book.now c.args.self.now c.args.line (some-column c.args.book.now c.args.self.now c.args.line c.requires.tableau c.requires.line) c.args.run c.requires.tableau c.requires.line c.requires.run in
    let none : Worth = record { above = 0; below = 0 } in
    let to = c.index.ensures ∙ get_or_default c.args.self.now.priced.sums.items c.args.run.to c.index.result.now none known.to in
    let from = c.index-2.ensures ∙ get_or_default c.args.self.now.priced.sums.items c.args.run.from c.index-2.result.now none known.from in
    omega (
      arith,
      known.light,
      c.minus.ensures.above,
      c.minus.ensures.below,
      ap (λ (w : Worth). w.above) to,
      ap (λ (w : Worth). w.above) from,
      ap (λ (w : Worth). w.above) known.worth,
      ap (λ (w : Worth). w.below) to,
      ap (λ (w : Worth). w.below) from,
      ap (λ (w : Worth). w.below) known.worth,
    )
