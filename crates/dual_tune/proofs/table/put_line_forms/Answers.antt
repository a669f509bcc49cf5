use Rattle.std.proofs.Common.{◌≡◌, ◌∙◌, get_or, sym, ap, arith}
use Rattle.offer_book.specs.declared.line.Line.{Line}
use Rattle.dual_bound.specs.LeafBound.{form_of}
use Rattle.dual_bound.specs.declared.form.Form.{Form}
use Rattle.dual_tune.proofs.TableFacts.{set-more}
use Rattle.dual_tune.proofs.table.put_line_forms.Goals as goal

pub loop-line-preserved : goal.loop-line-preserved
loop-line-preserved c =
    let columns = c.args.columns.now in
    let place = c.from.result in
    λ line d e lt.
    set-more (λ k (z : Form). (d : Line) → z ≡ form_of columns.yield_units columns.book columns.leaf (get_or columns.book.lines k d)) c.loop-line.forms place c.form.result
    (omega (arith, c.from.ensures, c.loop-line.auto.forms, c.requires.room, c.loop-line-test.true))
    (λ k z before d. c.loop-line.invariant k d z (omega (arith, before, c.from.ensures)))
    (λ d. c.form.ensures.value d ∙ ap (λ k. form_of columns.yield_units columns.book columns.leaf (get_or columns.book.lines k d)) (sym c.from.ensures)) line e (omega (arith, lt, c.from.ensures)) d
