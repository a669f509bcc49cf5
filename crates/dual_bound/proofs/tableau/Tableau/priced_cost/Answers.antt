use mir.Syntax.{w128}
use Rattle.std.proofs.lemmas.Int.{to_z-of_z}
use Rattle.offer_book.specs.Portfolio.{line_cost, par}
use Rattle.offer_book.specs.Schedule.{kind_rate}
use Rattle.std.proofs.Common.{◌∙◌, ◌<◌, All, get_or, length, sym, ap, subst, arith}
use Rattle.std.proofs.lemmas.List.{get_or_default}
use Rattle.dual_bound.specs.Columns.{IsLightWorth, column_reduced, worth_together}
use Rattle.dual_bound.specs.LeafBound.{priced_cost}
use Rattle.dual_bound.specs.declared.column.OtherPayment.{OtherPayment}
use Rattle.dual_bound.specs.declared.worth.Worth.{Worth}
use Rattle.std.proofs.Common.{List}
use Rattle.dual_bound.proofs.ColumnLinks.{column-reduced}
use Rattle.dual_bound.proofs.Signed.{read-again}
use Rattle.dual_bound.proofs.TableauFacts.{columns-long, ready}
use Rattle.dual_bound.proofs.tableau.Tableau.priced_cost.Goals as goal

pub index-column-requires : goal.index-column-requires
index-column-requires c = omega (arith, c.from.ensures, c.requires.line, columns-long c.args.book.now c.args.self.now c.requires.tableau)

pub priced_cost-requires-clause-small : goal.priced_cost-requires-clause-small
priced_cost-requires-clause-small c =
    (ready c.args.book.now c.args.self.now c.args.line c.line-own.result.now c.index-column.result.now c.requires.tableau.limits c.requires.tableau c.requires.line c.line-own.ensures
    (c.index-column.ensures ∙ ap (λ k. get_or c.args.self.now.columns.items k c.index-column.result.now) c.from.ensures)).small

pub priced_cost-requires-clause-regular : goal.priced_cost-requires-clause-regular
priced_cost-requires-clause-regular c =
    c.regular_worth.ensures.value c.index-column.result.now
    ∙ (λ i. worth_together (sym c.as_slice.ensures.value i) (sym (c.index-column.ensures ∙ ap (λ k. get_or c.args.self.now.columns.items k c.index-column.result.now) c.from.ensures) i).places.items)

pub priced_cost-requires-clause-others_there : goal.priced_cost-requires-clause-others_there
priced_cost-requires-clause-others_there c =
    subst (λ (ws : List Worth). All (λ (other : OtherPayment). other.place < length ws) c.index-column.result.now.others.items) (sym c.as_slice.ensures.value)
    (ready c.args.book.now c.args.self.now c.args.line c.line-own.result.now c.index-column.result.now c.requires.tableau.limits c.requires.tableau c.requires.line c.line-own.ensures
    (c.index-column.ensures ∙ ap (λ k. get_or c.args.self.now.columns.items k c.index-column.result.now) c.from.ensures)).others_there

pub priced_cost-requires-clause-light : goal.priced_cost-requires-clause-light
priced_cost-requires-clause-light c =
    subst (All IsLightWorth) (sym c.as_slice.ensures.value)
    (ready c.args.book.now c.args.self.now c.args.line c.line-own.result.now c.index-column.result.now c.requires.tableau.limits c.requires.tableau c.requires.line c.line-own.ensures
    (c.index-column.ensures ∙ ap (λ k. get_or c.args.self.now.columns.items k c.index-column.result.now) c.from.ensures)).light

pub priced_cost-requires-clause-line : goal.priced_cost-requires-clause-line
priced_cost-requires-clause-line c =
    let known = ready c.args.book.now c.args.self.now c.args.line c.line-own.result.now c.index-column.result.now c.requires.tableau.limits c.requires.tableau c.requires.line c.line-own.ensures
    (c.index-column.ensures ∙ ap (λ k. get_or c.args.self.now.columns.items k c.index-column.result.now) c.from.ensures) in
    (c.args.book.now.days, known.is_line)

pub priced_cost-requires-clause-accrued : goal.priced_cost-requires-clause-accrued
priced_cost-requires-clause-accrued c =
    (ready c.args.book.now c.args.self.now c.args.line c.line-own.result.now c.index-column.result.now c.requires.tableau.limits c.requires.tableau c.requires.line c.line-own.ensures
    (c.index-column.ensures ∙ ap (λ k. get_or c.args.self.now.columns.items k c.index-column.result.now) c.from.ensures)).is_column.accrued

pub returns : goal.returns
returns c =
    let known = ready c.args.book.now c.args.self.now c.args.line c.line-own.result.now c.index-column.result.now c.requires.tableau.limits c.requires.tableau c.requires.line c.line-own.ensures
    (c.index-column.ensures ∙ ap (λ k. get_or c.args.self.now.columns.items k c.index-column.result.now) c.from.ensures) in
    let own = read-again c.cost_worth.result (omega (arith, c.cost_worth.ensures.light)) ∙ c.cost_worth.ensures.value in
    let line = c.line-own.result.now in
    λ d. to_z-of_z w128 c.priced_cost.result (record { sfits = c.priced_cost.type_inv }) ∙ c.priced_cost.ensures
    ∙ (λ i. column_reduced (own i) (kind_rate line.kind) (line_cost line c.args.units) (par line c.args.units) (c.as_slice.ensures.value i) c.index-column.result.now)
    ∙ column-reduced c.args.self.now.yield_units.0 c.args.book.now c.args.self.now.priced.leaf line c.args.self.now.days.items c.args.self.now.priced.worths.items c.index-column.result.now c.args.units
    c.requires.tableau.leaf.every_date c.requires.tableau.worths known.is_column
    ∙ ap (λ l. priced_cost c.args.self.now.yield_units.0 c.args.book.now c.args.self.now.priced.leaf l c.args.units)
    (c.line-own.ensures ∙ get_or_default c.args.book.now.lines c.args.line line d c.requires.line)
