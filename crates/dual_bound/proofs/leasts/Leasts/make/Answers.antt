use Rattle.std.proofs.Common.{◌+◌, ◌<◌, ◌≤◌, ◌++◌, List, [], ◌∷◌, get_or, length, take, sym, subst, arith}
use Rattle.std.specs.List.{AllZip}
use Rattle.std.proofs.lemmas.List.{take_all, take_more}
use Rattle.offer_book.specs.declared.line.Line.{Line}
use Rattle.dual_bound.specs.Leasts.{IsLeast}
use Rattle.dual_bound.specs.declared.leasts.Span.{Span}
use Rattle.dual_bound.specs.declared.leasts.TheConstants.{PAST_DATES}
use Rattle.dual_bound.proofs.ColumnMade.{zip-push}
use Rattle.dual_bound.proofs.TableauFacts.{some-line}
use Rattle.dual_bound.proofs.leasts.Leasts.make.Goals as goal

pub loop-line-preserved : goal.loop-line-preserved
loop-line-preserved c =
    let lines = c.args.book.now.lines in
    let line = c.loop-line.line in
    let none : Span = record { first = PAST_DATES; last = 0 } in
    let least = IsLeast c.args.tableau.now.yield_units.0 c.args.book.now c.args.tableau.now.priced.leaf none in
    let few : line < length lines = omega (arith, c.line_count-line-end.ensures.value, c.loop-line-test.true) in
    subst (AllZip least (take (line + 1) lines)) (sym c.in_ok-push.ensures.items)
    (subst (λ (ls : List Line). AllZip least ls (c.loop-line.lines.items ++ c.of_none.result ∷ [])) (sym (take_more lines line some-line few))
    (zip-push least (take line lines) c.loop-line.lines.items (get_or lines line some-line) c.of_none.result c.loop-line.invariant (c.of_none.ensures some-line none)))

pub returns : goal.returns
returns c =
    let lines = c.args.book.now.lines in
    let all : length lines ≤ c.loop-line.line = omega (arith, c.line_count-line-end.ensures.value, c.loop-line-test.false) in
    subst (λ (changed : Span). AllZip (IsLeast c.args.tableau.now.yield_units.0 c.args.book.now c.args.tableau.now.priced.leaf changed) lines c.loop-line.lines.items) (sym c.none.ensures)
    (subst (λ (ls : List Line). AllZip (IsLeast c.args.tableau.now.yield_units.0 c.args.book.now c.args.tableau.now.priced.leaf (record { first = PAST_DATES; last = 0 })) ls c.loop-line.lines.items)
    (take_all c.loop-line.line lines all) c.loop-line.invariant)
