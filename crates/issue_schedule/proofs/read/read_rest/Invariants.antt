use Rattle.std.proofs.Common.{◌≡◌, ◌+◌, drop}
use Rattle.escrow_desk.specs.declared.refusal.FileKind.TheVariants.{Issue}
use Rattle.row_fields.specs.RowForm.{with_rows}
use Rattle.issue_schedule.specs.IssueForm.{bare_read, with_row}
use Rattle.issue_schedule.proofs.read.read_rest.Given as goal

abbrev pub invariant-loop-place : goal.invariant-loop-place
invariant-loop-place l =
    with_rows Issue with_row (bare_read l.fn.settle) 2 (drop 1 l.rows) ≡ with_rows Issue with_row l.draft (l.place + 1) (drop l.place l.rows)
