use Rattle.std.proofs.Common.{◌≡◌, ◌<◌, ℕ, get_or}
use Rattle.offer_book.specs.declared.line.Line.{Line}
use Rattle.dual_bound.specs.LeafBound.{form_of}
use Rattle.dual_bound.specs.declared.form.Form.{Form}
use Rattle.dual_tune.proofs.table.put_line_forms.Given as goal

abbrev pub invariant-loop-line : goal.invariant-loop-line
invariant-loop-line l =
    (line : ℕ) (d : Line) (e : Form) → line < l.line → get_or l.forms line e ≡ form_of l.columns.yield_units l.columns.book l.columns.leaf (get_or l.columns.book.lines line d)
