use Rattle.std.proofs.Common.{Result, Ok, Err}
use Rattle.std.specs.Prelude.{IfOk}
use Rattle.escrow_desk.specs.declared.refusal.CaseError.{CaseError}
use Rattle.case_file.specs.Case.{CaseAnswers, case_view}
use Rattle.case_file.specs.declared.case.Case.{Case}
use Rattle.certificate_answers.specs.Answer.{case_of}
use Rattle.certificate_answers.specs.CaseOf.{AreWithin, GiveCase, GiveWorkedCase}
use Rattle.certificate_answers.specs.InputFiles.{InputFiles}
use Rattle.certificate_answers.specs.Reading.{files_view}
use Rattle.certificate_answers.proofs.CaseLaws.{works_out}
use Rattle.certificate_answers.proofs.InputFacts.{rows_alone}
use Rattle.certificate_answers.proofs.judging.given_case.Goals as goal

given-case : (files : InputFiles) (answer : Result Case CaseError) → AreWithin files → CaseAnswers answer (case_of files) → IfOk answer (λ case. GiveWorkedCase files (case_view case))
given-case files (Ok case) within is = (works_out files (case_view case) within).0 is
given-case files (Err error) within is = tt

gives-case : (files : InputFiles) (answer : Result Case CaseError) → IfOk answer (λ case. GiveWorkedCase files (case_view case)) → IfOk answer (λ case. GiveCase files (case_view case))
gives-case files (Ok case) given = given.0
gives-case files (Err error) given = tt

pub returns-clause-case : goal.returns-clause-case
returns-clause-case c =
    let is = rw (c.as_slice.ensures.value, c.as_slice-2.ensures.value, c.as_slice-3.ensures.value) at c.read_case.ensures.case in
    rw (rows_alone (files_view c.args.files.now) c.requires) is

pub returns-clause-given : goal.returns-clause-given
returns-clause-given c = given-case (files_view c.args.files.now) c.read_case.result c.requires (returns-clause-case c)

pub returns-clause-gives : goal.returns-clause-gives
returns-clause-gives c = gives-case (files_view c.args.files.now) c.read_case.result (returns-clause-given c)

pub returns-clause-kept : goal.returns-clause-kept
returns-clause-kept c = rw (c.as_slice.ensures.value, c.as_slice-2.ensures.value, c.as_slice-3.ensures.value) at c.read_case.ensures.kept
