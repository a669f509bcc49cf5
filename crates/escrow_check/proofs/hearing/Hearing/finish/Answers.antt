use Rattle.std.proofs.Common.{Result, length, subst}
use Rattle.bound_certificate.specs.TextReading.{Finishes}
use Rattle.bound_certificate.specs.declared.fault.CertFault.{CertFault}
use Rattle.case_file.specs.Case.{CaseContents, case_view}
use Rattle.escrow_check.proofs.HearFacts.{heard-verdict}
use Rattle.escrow_check.proofs.hearing.Hearing.finish.Goals as goal

pub returns-in-Ok : goal.returns-in-Ok
returns-in-Ok c = λ bytes heard.
    (let case : CaseContents = case_view c.args.case.now in
    let P : Result (Unit {0}) CertFault → Type 0 = λ answer. Finishes (length case.book.needs) bytes c.args.self.reader answer in
    heard-verdict case c.args.self bytes c.verdict.result heard (subst P c.in-Ok.is (c.finish.ensures (length case.book.needs) bytes heard.read)) c.verdict.ensures)

pub returns-in-Err : goal.returns-in-Err
returns-in-Err c = λ bytes heard.
    (let case : CaseContents = case_view c.args.case.now in
    let P : Result (Unit {0}) CertFault → Type 0 = λ answer. Finishes (length case.book.needs) bytes c.args.self.reader answer in
    subst P c.in-Err.is (c.finish.ensures (length case.book.needs) bytes heard.read))
