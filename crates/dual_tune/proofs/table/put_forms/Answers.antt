use Rattle.std.proofs.Common.{◌≡◌, get_or, arith}
use Rattle.offer_book.specs.declared.line.Line.{Line}
use Rattle.dual_bound.specs.LeafBound.{form_of}
use Rattle.dual_bound.specs.declared.form.Form.{Form}
use Rattle.dual_tune.proofs.TableFacts.{set-more}
use Rattle.dual_tune.proofs.table.put_forms.Goals as goal

pub loop-place-preserved : goal.loop-place-preserved
loop-place-preserved c =
    let columns = c.args.columns.now in
    let place = c.loop-place.place in
    λ k d e lt.
    set-more (λ k (z : Form). (d : Line) → z ≡ form_of columns.yield_units columns.book columns.leaf (get_or columns.book.lines (get_or c.args.lines.now k 0) d)) c.loop-place.forms place c.form.result
    (omega (arith, c.loop-place.auto.forms, c.requires.room, c.loop-place-test.true)) (λ k z before d. c.loop-place.invariant k d z before) (λ d. c.form.ensures.value d) k e lt d
