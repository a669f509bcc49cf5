use Rattle.std.proofs.Common.{◌∙◌, ◌<◌, All, get_or, length, sym, ap, subst, arith}
use Rattle.std.proofs.lemmas.List.{get_or_default}
use Rattle.dual_bound.specs.Columns.{IsLightWorth, column_form, worth_together}
use Rattle.dual_bound.specs.LeafBound.{priced_form}
use Rattle.dual_bound.specs.declared.column.OtherPayment.{OtherPayment}
use Rattle.dual_bound.specs.declared.worth.Worth.{Worth}
use Rattle.std.proofs.Common.{List}
use Rattle.dual_bound.proofs.ColumnLinks.{column-form}
use Rattle.dual_bound.proofs.Signed.{read-again}
use Rattle.dual_bound.proofs.TableauFacts.{columns-long, ready}
use Rattle.dual_bound.proofs.tableau.Tableau.form.Goals as goal

pub index-column-requires : goal.index-column-requires
index-column-requires c = omega (arith, c.from.ensures, c.requires.line, columns-long c.args.book.now c.args.self.now c.requires.tableau)

pub form-requires-clause-small : goal.form-requires-clause-small
form-requires-clause-small c =
    (ready c.args.book.now c.args.self.now c.args.line c.line.result.now c.index-column.result.now c.requires.tableau.limits c.requires.tableau c.requires.line c.line.ensures
    (c.index-column.ensures ∙ ap (λ k. get_or c.args.self.now.columns.items k c.index-column.result.now) c.from.ensures)).small

pub form-requires-clause-regular : goal.form-requires-clause-regular
form-requires-clause-regular c =
    c.regular_worth.ensures.value c.index-column.result.now
    ∙ (λ i. worth_together (sym c.as_slice.ensures.value i) (sym (c.index-column.ensures ∙ ap (λ k. get_or c.args.self.now.columns.items k c.index-column.result.now) c.from.ensures) i).places.items)

pub form-requires-clause-others_there : goal.form-requires-clause-others_there
form-requires-clause-others_there c =
    subst (λ (ws : List Worth). All (λ (other : OtherPayment). other.place < length ws) c.index-column.result.now.others.items) (sym c.as_slice.ensures.value)
    (ready c.args.book.now c.args.self.now c.args.line c.line.result.now c.index-column.result.now c.requires.tableau.limits c.requires.tableau c.requires.line c.line.ensures
    (c.index-column.ensures ∙ ap (λ k. get_or c.args.self.now.columns.items k c.index-column.result.now) c.from.ensures)).others_there

pub form-requires-clause-light : goal.form-requires-clause-light
form-requires-clause-light c =
    subst (All IsLightWorth) (sym c.as_slice.ensures.value)
    (ready c.args.book.now c.args.self.now c.args.line c.line.result.now c.index-column.result.now c.requires.tableau.limits c.requires.tableau c.requires.line c.line.ensures
    (c.index-column.ensures ∙ ap (λ k. get_or c.args.self.now.columns.items k c.index-column.result.now) c.from.ensures)).light

pub returns : goal.returns
returns c =
    let known = ready c.args.book.now c.args.self.now c.args.line c.line.result.now c.index-column.result.now c.requires.tableau.limits c.requires.tableau c.requires.line c.line.ensures
    (c.index-column.ensures ∙ ap (λ k. get_or c.args.self.now.columns.items k c.index-column.result.now) c.from.ensures) in
    let own = read-again c.cost_worth.result (omega (arith, c.cost_worth.ensures.light)) ∙ c.cost_worth.ensures.value in
    λ d. c.form.ensures ∙ (λ i. column_form (own i) (c.as_slice.ensures.value i) c.index-column.result.now)
    ∙ column-form c.args.self.now.yield_units.0 c.args.book.now c.args.self.now.priced.leaf c.line.result.now c.args.self.now.days.items c.args.self.now.priced.worths.items c.index-column.result.now
    c.requires.tableau.leaf.every_date c.requires.tableau.worths known.is_column
    ∙ ap (priced_form c.args.self.now.yield_units.0 c.args.book.now c.args.self.now.priced.leaf) (c.line.ensures ∙ get_or_default c.args.book.now.lines c.args.line c.line.result.now d c.requires.line)
