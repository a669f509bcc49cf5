use Rattle.std.proofs.Common.{◌≡◌, ◌∙◌, ◌+◌, ◌<◌, [], All, ap, get_or, length, length-take, sym, subst, take, arith}
use Rattle.std.proofs.lemmas.List.{get_or-map, length-map}
use Rattle.std.proofs.lemmas.List.Elements.{All-get_or, All-push}
use Rattle.std.proofs.lemmas.Slice.Zip.{AllZip-long}
use Rattle.offer_book.specs.Book.{IsLine}
use Rattle.cash_table.specs.Schedules.{kept_of}
use Rattle.cash_table.proofs.PaymentFacts.{all_lines}
use Rattle.std.specs.List.{AllZip}
use Rattle.dual_bound.specs.Columns.{IsColumn, IsSmallColumn}
use Rattle.dual_bound.proofs.TableauFacts.{columns-more}
use Rattle.dual_bound.proofs.tableau.columns_of.Goals as goal

pub loop-line-preserved : goal.loop-line-preserved
loop-line-preserved c = record {
  table = c.in_ok-make.ensures.table;
  more = omega (arith, c.loop-line.invariant.more, c.in_ok-make.ensures.more);
  columns = subst (AllZip (IsColumn c.args.powers.now.yield_units c.args.book.now c.make.new.table.days.items) (take (c.loop-line.line-index + 1) c.lines-line-items.result.now)) (sym c.in_ok-push.ensures.items)
      (columns-more c.args.powers.now.yield_units c.args.book.now c.loop-line.table.days.items c.make.new.table.days.items c.lines-line-items.result.now c.loop-line.line-index c.line-item.result
      c.loop-line.columns.items c.in_ok-make.field-0 c.loop-line-test.true c.line-item.is c.in_ok-make.ensures.extends c.loop-line.invariant.columns c.in_ok-make.ensures.column);
  small = subst (All IsSmallColumn) (sym c.in_ok-push.ensures.items) (All-push IsSmallColumn c.loop-line.columns.items c.in_ok-make.field-0 c.loop-line.invariant.small c.in_ok-make.ensures.small);
}

pub line-kept-requires : goal.line-kept-requires
line-kept-requires c =
    let lines = c.lines-line-items.result.now in
    let i = c.loop-line.line-index in
    let long = AllZip-long (IsColumn c.args.powers.now.yield_units c.args.book.now c.loop-line.table.days.items) (take i lines) c.loop-line.columns.items c.loop-line.invariant.columns in
    omega (arith, c.len.ensures, long, length-take i lines, c.loop-line-test.true, ap length c.requires.schedules, length-map c.args.book.now.lines (kept_of c.args.book.now.days), ap length c.lines-line-items.ensures.value)

pub make-requires-clause-kept : goal.make-requires-clause-kept
make-requires-clause-kept c =
    let lines = c.lines-line-items.result.now in
    let i = c.loop-line.line-index in
    let long = AllZip-long (IsColumn c.args.powers.now.yield_units c.args.book.now c.loop-line.table.days.items) (take i lines) c.loop-line.columns.items c.loop-line.invariant.columns in
    let place : c.len.result ≡ c.loop-line.line-index = omega (arith, c.len.ensures, long, length-take i lines, c.loop-line-test.true) in
    let within : c.loop-line.line-index < length c.args.book.now.lines = omega (arith, c.loop-line-test.true, ap length c.lines-line-items.ensures.value) in
    let here : get_or c.args.book.now.lines c.loop-line.line-index c.line-item.result ≡ c.line-item.result =
    sym (c.line-item.is ∙ ap (λ ls. get_or ls c.loop-line.line-index c.line-item.result) c.lines-line-items.ensures.value) in
    c.line-kept.ensures ∙ ap (λ n. get_or c.args.schedules.now n []) place ∙ ap (λ ks. get_or ks c.loop-line.line-index []) c.requires.schedules
    ∙ get_or-map (kept_of c.args.book.now.days) c.args.book.now.lines c.loop-line.line-index c.line-item.result [] within ∙ ap (kept_of c.args.book.now.days) here

pub make-requires-clause-line : goal.make-requires-clause-line
make-requires-clause-line c =
    let within : c.loop-line.line-index < length c.args.book.now.lines = omega (arith, c.loop-line-test.true, ap length c.lines-line-items.ensures.value) in
    let here : get_or c.args.book.now.lines c.loop-line.line-index c.line-item.result ≡ c.line-item.result =
    sym (c.line-item.is ∙ ap (λ ls. get_or ls c.loop-line.line-index c.line-item.result) c.lines-line-items.ensures.value) in
    subst (IsLine c.args.book.now.days) here
    (All-get_or (IsLine c.args.book.now.days) c.args.book.now.lines c.loop-line.line-index c.line-item.result within (all_lines c.args.book.now.days c.args.book.now.lines c.requires.limits.lines))
