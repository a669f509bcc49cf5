use Rattle.std.proofs.Common.{◌≡◌, ◌+◌, drop}
use Rattle.std.specs.Prelude.{Some}
use Rattle.escrow_desk.specs.declared.refusal.FileKind.TheVariants.{Rates}
use Rattle.row_fields.specs.RowForm.{with_rows}
use Rattle.rate_table.specs.RateForm.{bare_file, with_row}
use Rattle.rate_table.proofs.read.read_rest.Given as goal

abbrev pub invariant-loop-place : goal.invariant-loop-place
invariant-loop-place l = record {
  terms : l.draft.terms ≡ Some l.fn.terms;
  rest : with_rows Rates (with_row l.fn.terms) (bare_file (Some l.fn.terms)) 2 (drop 1 l.rows) ≡ with_rows Rates (with_row l.fn.terms) l.draft (l.place + 1) (drop l.place l.rows);
}
