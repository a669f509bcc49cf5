use Rattle.std.proofs.Common.{◌≡◌, ◌∙◌, ap, sym, List, Ok, Option, Result}
use Rattle.std.proofs.lemmas.Result.{IfOk-weaker}
use Rattle.escrow_desk.specs.Rows.{rows_of}
use Rattle.escrow_desk.specs.declared.refusal.Refusal.{Refusal}
use Rattle.escrow_units.specs.declared.security.Terms.{Terms}
use Rattle.yield_enclosure.specs.declared.answer.YieldAnswer.{YieldAnswer}
use Rattle.rate_table.specs.RateForm.{rate_file_of}
use Rattle.offer_book.specs.Portfolio.{security_flows}
use Rattle.case_file.specs.Case.{case_view}
use Rattle.roll_plan.specs.RollsOf.{moved_by, rolls_of}
use Rattle.roll_plan.specs.Steps.{stated_by}
use Rattle.roll_plan.specs.declared.planning.Roll.{Roll}
use Rattle.certificate_answers.specs.Reading.{files_view}
use Rattle.certificate_answers.specs.RollsText.{rolled_text, rolls_text, yield_of_flows}
use Rattle.certificate_answers.proofs.rolling.rolled_text.Goals as goal

pub returns : goal.returns
returns c =
    let files = files_view c.args.files.now in
    let case = case_view c.args.case.now in
    let book = c.args.case.now.book in
    let plan = c.args.plan.now in
    let flows = security_flows book plan in
    let terms = c.in_ok-terms.terms in
    let rolls = rolls_of book plan terms in
    let read : stated_by (rate_file_of (rows_of files.rates)) ≡ Ok terms = rw c.as_slice.ensures.value at c.in_ok-terms.ensures.terms in
    let planned : c.as_slice-2.result.now ≡ rolls = c.as_slice-2.ensures.value ∙ c.in_ok-rolls.ensures.value in
    let told : c.as_slice-3.result.now ≡ rolls = c.as_slice-3.ensures.value ∙ c.in_ok-rolls.ensures.value in
    let answer : c.in_ok-answer.answer ≡ yield_of_flows book plan flows = c.in_ok-answer.ensures.value in
    let rolled : c.in_ok-rolled.rolled ≡ yield_of_flows book plan (moved_by flows rolls) =
    c.in_ok-rolled.ensures ∙ ap (λ (l : List Roll). yield_of_flows book plan (moved_by flows l)) planned in
    IfOk-weaker c.rolls_text.result (λ text. text.items ≡ rolls_text c.as_slice-3.result.now c.in_ok-answer.answer c.in_ok-rolled.rolled)
    (λ text. text.items ≡ rolled_text (stated_by (rate_file_of (rows_of files.rates))) case plan)
    (λ text said.
    said ∙ ap (λ (l : List Roll). rolls_text l c.in_ok-answer.answer c.in_ok-rolled.rolled) told
    ∙ ap (λ (a : YieldAnswer). rolls_text rolls a c.in_ok-rolled.rolled) answer
    ∙ ap (rolls_text rolls (yield_of_flows book plan flows)) rolled
    ∙ sym (ap (λ (found : Result (Option Terms) Refusal). rolled_text found case plan) read)) c.rolls_text.ensures
