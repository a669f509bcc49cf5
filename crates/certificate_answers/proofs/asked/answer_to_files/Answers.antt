use Rattle.std.proofs.Common.{Ok}
use Rattle.std.proofs.lemmas.Result.{IfOk-weaker}
use Rattle.case_file.specs.Case.{case_view}
use Rattle.certificate_answers.specs.Answer.{answer_for}
use Rattle.certificate_answers.specs.Reading.{CertificateAnswers, FilesAnswer, asking_view, files_view}
use Rattle.certificate_answers.proofs.AnswerLaws.{certificate_said, answer_accepted, answer_not_accepted, no_case_said}
use Rattle.certificate_answers.proofs.ExactLaws.{answer_exactly, no_case_exactly}
use Rattle.certificate_answers.proofs.asked.answer_to_files.Goals as goal

pub returns-in-Ok-clause-yes : goal.returns-in-Ok-clause-yes
returns-in-Ok-clause-yes g c =
    answer_accepted (g.D.Desk.told c.args.desk.now) (asking_view c.args.asking.now) (files_view c.args.files.now) (case_view c.in-Ok.case)
    c.answer_to_certificate.result c.requires.read c.in-Ok.ensures.judged c.answer_to_certificate.ensures.answer

pub returns-in-Ok-clause-no : goal.returns-in-Ok-clause-no
returns-in-Ok-clause-no g c =
    answer_not_accepted (g.D.Desk.told c.args.desk.now) (asking_view c.args.asking.now) (files_view c.args.files.now) (case_view c.in-Ok.case)
    c.answer_to_certificate.result c.requires.read c.in-Ok.ensures.judged c.answer_to_certificate.ensures.answer

pub returns-in-Ok-clause-exactly : goal.returns-in-Ok-clause-exactly
returns-in-Ok-clause-exactly g c =
    let told = g.D.Desk.told c.args.desk.now in
    let asking = asking_view c.args.asking.now in
    let files = files_view c.args.files.now in
    let case = case_view c.in-Ok.case in
    answer_exactly told asking files case c.answer_to_certificate.result c.requires.read c.in-Ok.ensures.judged
    (IfOk-weaker c.answer_to_certificate.result (λ reply. CertificateAnswers told asking.names.cert (answer_for asking.inquiry files case) reply) (λ reply. FilesAnswer told asking reply)
    (λ reply said. certificate_said told asking files case reply c.requires.read c.requires.within c.in-Ok.ensures.case said) c.answer_to_certificate.ensures.answer)

pub returns-in_ok-refused-in-Err-Refused-clause-exactly : goal.returns-in_ok-refused-in-Err-Refused-clause-exactly
returns-in_ok-refused-in-Err-Refused-clause-exactly g c =
    let is = rw c.in-Err-Refused.field-0-is at c.in-Err-Refused.ensures.case in
    let told = g.D.Desk.told c.args.desk.now in
    let asking = asking_view c.args.asking.now in
    let files = files_view c.args.files.now in
    let why = c.in-Err-Refused.refusal in
    let reply = c.in_ok-refused-in-Err-Refused.field-0 in
    no_case_exactly told asking files why (Ok reply) c.requires.read is
    (no_case_said told asking files why reply c.requires.read c.requires.within is c.in_ok-refused-in-Err-Refused.ensures.answer)
