use Rattle.std.proofs.Common.{◌∙◌, ◌<◌, All, List, ℕ, get_or, length, sym, ap, subst, arith}
use Rattle.std.proofs.lemmas.List.{get_or_default}
use Rattle.dual_bound.specs.Columns.{IsLightWorth, worth_together}
use Rattle.dual_bound.specs.declared.column.Column.{Column}
use Rattle.dual_bound.specs.declared.worth.Worth.{Worth}
use Rattle.dual_bound.proofs.TableauFacts.{columns-long, ready-days}
use Rattle.dual_bound.proofs.tableau.Tableau.days_worth.Goals as goal

pub index-column-requires : goal.index-column-requires
index-column-requires c = omega (arith, c.from.ensures, c.requires.line, columns-long c.args.book.now c.args.self.now c.requires.tableau)

pub sum_of-requires-clause-there : goal.sum_of-requires-clause-there
sum_of-requires-clause-there c =
    subst (λ (worths : List Worth). All (λ place. place < length worths) c.as_slice-2.result.now) (sym c.as_slice.ensures.value)
    (subst (λ (places : List ℕ). All (λ place. place < length c.args.self.now.priced.worths.items) places) (sym c.as_slice-2.ensures.value)
    (ready-days c.args.book.now c.args.self.now c.args.line c.index-column.result.now c.requires.tableau c.requires.line
    (c.index-column.ensures ∙ ap (λ k. get_or c.args.self.now.columns.items k c.index-column.result.now) c.from.ensures)).there)

pub sum_of-requires-clause-light : goal.sum_of-requires-clause-light
sum_of-requires-clause-light c =
    subst (All IsLightWorth) (sym c.as_slice.ensures.value)
    (ready-days c.args.book.now c.args.self.now c.args.line c.index-column.result.now c.requires.tableau c.requires.line
    (c.index-column.ensures ∙ ap (λ k. get_or c.args.self.now.columns.items k c.index-column.result.now) c.from.ensures)).light

pub sum_of-requires-clause-few : goal.sum_of-requires-clause-few
sum_of-requires-clause-few c =
    omega (
      arith,
      ap length c.as_slice-2.ensures.value,
      (ready-days c.args.book.now c.args.self.now c.args.line c.index-column.result.now c.requires.tableau c.requires.line
          (c.index-column.ensures ∙ ap (λ k. get_or c.args.self.now.columns.items k c.index-column.result.now) c.from.ensures)).few,
    )

pub returns-clause-value : goal.returns-clause-value
returns-clause-value c =
    λ d.
    let there : c.args.line < length c.args.self.now.columns.items = omega (arith, c.requires.line, columns-long c.args.book.now c.args.self.now c.requires.tableau) in
    c.sum_of.ensures.value ∙ (λ i. worth_together (c.as_slice.ensures.value i) (c.as_slice-2.ensures.value i))
    ∙ ap (λ (own : Column). worth_together c.args.self.now.priced.worths.items own.places.items)
    (c.index-column.ensures ∙ ap (λ k. get_or c.args.self.now.columns.items k c.index-column.result.now) c.from.ensures
    ∙ get_or_default c.args.self.now.columns.items c.args.line c.index-column.result.now d there)
