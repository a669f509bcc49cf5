use Rattle.std.proofs.Common.{◌≡◌, ◌∙◌, ap, sym, Result}
use Rattle.std.proofs.lemmas.Result.{IfOk-weaker}
use Rattle.escrow_desk.specs.Rows.{rows_of}
use Rattle.escrow_desk.specs.declared.refusal.Refusal.{Refusal}
use Rattle.issue_schedule.specs.IssueForm.{issue_of}
use Rattle.issue_schedule.specs.declared.issue.Issue.{Issue}
use Rattle.case_file.specs.Case.{case_view}
use Rattle.certificate_answers.specs.Reading.{files_view}
use Rattle.certificate_answers.specs.SavingsText.{saved_text, savings_text}
use Rattle.certificate_answers.proofs.savings.saved_text.Goals as goal

pub savings_of-requires-clause-set : goal.savings_of-requires-clause-set
savings_of-requires-clause-set c =
    let files = files_view c.args.files.now in
    let is = rw c.as_slice.ensures.value at c.in_ok-issue.ensures.issue in
    c.one_set.ensures.set files.issue (rows_of files.rates) (rows_of files.prices) c.in_ok-issue.issue (case_view c.args.case.now)
    c.requires.within is c.in_ok-issue.ensures.kept c.requires.kept

pub returns : goal.returns
returns c =
    let files = files_view c.args.files.now in
    let case = case_view c.args.case.now in
    let plan = c.args.plan.now in
    let is = rw c.as_slice.ensures.value at c.in_ok-issue.ensures.issue in
    IfOk-weaker c.savings_text.result (λ text. text.items ≡ savings_text c.in_ok-savings.savings) (λ text. text.items ≡ saved_text (issue_of (rows_of files.issue)) case plan)
    (λ text said. said ∙ ap savings_text c.in_ok-savings.ensures.value ∙ sym (ap (λ (found : Result Issue Refusal). saved_text found case plan) is)) c.savings_text.ensures
