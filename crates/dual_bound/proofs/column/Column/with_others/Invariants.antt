use Rattle.std.proofs.Common.{◌≡◌, ◌+◌, ◌*◌, ◌^◌, ◌≤◌, take, unsigned_abs}
use Rattle.dual_bound.specs.Columns.{form_plus, other_forms}
use Rattle.dual_bound.proofs.column.Column.with_others.Given as goal

abbrev pub invariant-loop-other : goal.invariant-loop-other
invariant-loop-other l =
    (l.form ≡ form_plus l.fn.start (other_forms l.worths (take l.other-index l.other-items)))
    × (unsigned_abs l.form.slope ≤ 3 * 10 ^ 32 + l.other-index * (2 * 10 ^ 30)) × (l.form.slack ≤ 3 * 10 ^ 23 + l.other-index * (2 * 10 ^ 21))
