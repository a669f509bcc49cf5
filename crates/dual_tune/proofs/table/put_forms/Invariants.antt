use Rattle.std.proofs.Common.{◌≡◌, ◌<◌, ℕ, get_or}
use Rattle.offer_book.specs.declared.line.Line.{Line}
use Rattle.dual_bound.specs.LeafBound.{form_of}
use Rattle.dual_bound.specs.declared.form.Form.{Form}
use Rattle.dual_tune.proofs.table.put_forms.Given as goal

abbrev pub invariant-loop-place : goal.invariant-loop-place
invariant-loop-place l =
    (k : ℕ) (d : Line) (e : Form) → k < l.place
    → get_or l.forms k e ≡ form_of l.columns.yield_units l.columns.book l.columns.leaf (get_or l.columns.book.lines (get_or l.lines k 0) d)
