use Rattle.std.proofs.Common.{◌≡◌, ◌∙◌, ◌<◌, All, get_or, length, sym, ap, subst, arith}
use Rattle.dual_bound.specs.Columns.{ColumnsContents}
use Rattle.dual_tune.proofs.table.put_dates.Goals as goal

pub put_date-requires-clause-there : goal.put_date-requires-clause-there
put_date-requires-clause-there c =
    let book = c.args.columns.now.book in
    let payers = c.args.payers.now in
    let own = c.index-payers-at.result in
    let lines : (get_or payers c.loop-place.place own).lines.items ≡ c.as_slice-lines.result.now =
    ap (λ k. (get_or payers k own).lines.items) (sym c.from-at.ensures) ∙ sym c.as_slice-lines.ensures.value in
    let few : c.loop-place.place < length book.needs = omega (arith, c.requires.count, c.loop-place-test.true) in
    subst (λ (s : ColumnsContents). All (λ line. line < length s.book.lines) c.as_slice-lines.result.now) (sym c.loop-place.invariant.columns)
    (subst (All (λ line. line < length book.lines)) lines (c.requires.payers.payers c.loop-place.place own few).there)
