use Rattle.std.proofs.Common.{◌≡◌, Ok}
use Rattle.std.proofs.lemmas.Result.{IfOk-weaker}
use Rattle.case_file.specs.Case.{case_view}
use Rattle.certificate_answers.specs.Reading.{files_view}
use Rattle.escrow_top.specs.Making.{HasAcceptedText, IsMadeAnswer}
use Rattle.certificate_answers.specs.declared.status.Status.TheVariants as status
use Rattle.escrow_top.proofs.MakingLaws.{made_accepted, made_accepted_none}
use Rattle.escrow_top.proofs.making.answer_of_files.Goals as goal

pub returns-in-Ok-clause-accepted : goal.returns-in-Ok-clause-accepted
returns-in-Ok-clause-accepted g c =
    let kept = c.in-Ok.ensures.kept in
    let files = files_view c.args.files.now in
    let case = case_view c.in-Ok.case in
    IfOk-weaker c.answer_of_case.result (IsMadeAnswer c.args.number (Ok case)) (λ answer. answer.status ≡ status.Done → HasAcceptedText files)
    (λ answer own. made_accepted files c.args.number case answer c.in-Ok.ensures.given kept.book kept.terms own) c.answer_of_case.ensures.answer

pub returns-in-Ok-clause-accepted_none : goal.returns-in-Ok-clause-accepted_none
returns-in-Ok-clause-accepted_none g c =
    let kept = c.in-Ok.ensures.kept in
    let files = files_view c.args.files.now in
    let case = case_view c.in-Ok.case in
    IfOk-weaker c.answer_of_case.result (IsMadeAnswer c.args.number (Ok case)) (λ answer. answer.status ≡ status.NoneWithinYield → HasAcceptedText files)
    (λ answer own. made_accepted_none files c.args.number case answer c.in-Ok.ensures.given kept.book kept.terms own) c.answer_of_case.ensures.answer
