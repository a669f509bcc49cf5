use mir.Syntax.{w128}
use Rattle.std.proofs.Common.{◌∙◌, ◌<◌, List, All, get_or, length, pos, refl, sym, ap, subst, arith}
use Rattle.std.proofs.lemmas.Int.{to_z-of_z}
use Rattle.std.proofs.lemmas.List.{get_or_default}
use Rattle.dual_bound.specs.Leasts.{IsSpanOf}
use Rattle.dual_bound.specs.declared.column.OtherPayment.{OtherPayment}
use Rattle.dual_bound.specs.declared.worth.PricedDay.{PricedDay}
use Rattle.dual_bound.proofs.LeastFacts.{others-there, places-there, priced-by}
use Rattle.dual_bound.proofs.LoadFacts.{no-load}
use Rattle.dual_bound.proofs.TableauFacts.{columns-long, ready, some-line}
use Rattle.dual_bound.proofs.leasts.Least.of_none.Goals as goal

pub index-column-requires : goal.index-column-requires
index-column-requires c = omega (arith, c.from.ensures, c.requires.line, columns-long c.args.book.now c.args.tableau.now c.requires.tableau)

pub span_of-requires-clause-places : goal.span_of-requires-clause-places
span_of-requires-clause-places c =
    let book = c.args.book.now in
    let line = get_or book.lines c.args.line some-line in
    let column = c.index-column.result.now in
    let known = ready book c.args.tableau.now c.args.line line column c.requires.tableau.limits c.requires.tableau c.requires.line (get_or_default book.lines c.args.line some-line line c.requires.line)
    (c.index-column.ensures ∙ ap (λ k. get_or c.args.tableau.now.columns.items k column) c.from.ensures) in
    subst (λ (days : List PricedDay). All (λ place. place < length days) column.places.items) (sym c.as_slice.ensures.value)
    (places-there c.args.tableau.now.yield_units.0 book line c.args.tableau.now.days.items column known.is_column)

pub span_of-requires-clause-others : goal.span_of-requires-clause-others
span_of-requires-clause-others c =
    let book = c.args.book.now in
    let line = get_or book.lines c.args.line some-line in
    let column = c.index-column.result.now in
    let known = ready book c.args.tableau.now c.args.line line column c.requires.tableau.limits c.requires.tableau c.requires.line (get_or_default book.lines c.args.line some-line line c.requires.line)
    (c.index-column.ensures ∙ ap (λ k. get_or c.args.tableau.now.columns.items k column) c.from.ensures) in
    subst (λ (days : List PricedDay). All (λ (other : OtherPayment). other.place < length days) column.others.items) (sym c.as_slice.ensures.value)
    (others-there c.args.tableau.now.yield_units.0 book line c.args.tableau.now.days.items column known.is_column)

pub least-least-requires-clause-load : goal.least-least-requires-clause-load
least-least-requires-clause-load c = λ d. no-load (get_or c.args.book.now.lines c.args.line d) (pos 0) refl

pub returns : goal.returns
returns c =
    λ d changed.
    let book = c.args.book.now in
    let tableau = c.args.tableau.now in
    let line = get_or book.lines c.args.line d in
    let column = c.index-column.result.now in
    let known = ready book tableau c.args.line line column c.requires.tableau.limits c.requires.tableau c.requires.line (get_or_default book.lines c.args.line d line c.requires.line)
    (c.index-column.ensures ∙ ap (λ k. get_or tableau.columns.items k column) c.from.ensures) in
    record {
      start = c.span_of.ensures.start;
      load = omega arith;
      priced = priced-by tableau.yield_units.0 book line tableau.days.items column c.span_of.result known.is_column
          (subst (λ (days : List PricedDay). IsSpanOf days column c.span_of.result) c.as_slice.ensures.value c.span_of.ensures.span);
      right = λ apart. to_z-of_z w128 c.least-least.result (record { sfits = c.least-least.type_inv }) ∙ c.least-least.ensures.value d;
    }
