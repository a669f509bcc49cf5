use Rattle.std.proofs.Common.{◌∙◌, ◌+◌, ◌<◌, [], get_or, length, rules}
use Rattle.std.specs.Prelude.{Ok}
use Rattle.std.specs.Result.{result_and}
use Rattle.escrow_desk.specs.declared.refusal.FileKind.TheVariants.{Rates}
use Rattle.row_fields.specs.RowForm.{RowAnswers}
use Rattle.row_fields.proofs.RowFacts.{rows-fail, rows-more}
use Rattle.rate_table.specs.RateForm.{with_row}
use Rattle.rate_table.proofs.read.read_rest.Goals as goal

pub returns-in_err-row_answer-clause-file : goal.returns-in_err-row_answer-clause-file
returns-in_err-row_answer-clause-file c =
    let short : c.loop-place.place < length c.args.rows.now = search rules in
    let added : RowAnswers (result_and c.add_row-added.result (Ok c.add_row-added.new.self)) (with_row c.args.terms c.loop-place.draft (c.loop-place.place + 1) (get_or c.args.rows.now c.loop-place.place [])) = rw (← c.at.ensures) c.add_row-added.ensures.added in
    rw c.loop-place.invariant.rest
    (rows-fail Rates (with_row c.args.terms) c.loop-place.draft c.add_row-added.new.self (c.loop-place.place + 1) c.loop-place.place c.args.rows.now c.add_row-added.result c.from_residual.result c.in_err-row_answer.field-0.0 short (search rules) (search rules) added)

pub loop-place-preserved : goal.loop-place-preserved
loop-place-preserved c =
    let short : c.loop-place.place < length c.args.rows.now = search rules in
    let added : RowAnswers (result_and c.add_row-added.result (Ok c.add_row-added.new.self)) (with_row c.args.terms c.loop-place.draft (c.loop-place.place + 1) (get_or c.args.rows.now c.loop-place.place [])) = rw (← c.at.ensures) c.add_row-added.ensures.added in
    record {
      terms = search rules;
      rest = c.loop-place.invariant.rest
          ∙ rows-more Rates (with_row c.args.terms) c.loop-place.draft c.add_row-added.new.self (c.loop-place.place + 1) c.loop-place.place c.args.rows.now c.add_row-added.result c.in_ok-row_answer.field-0 short (search rules) added;
    }
