-- The case by which a certificate is judged, of files that give one.
use Rattle.std.specs.Prelude.{◌≡◌, Ok}
use Rattle.case_file.specs.Case.{CaseContents, HasTerms}
use Rattle.offer_book.specs.Book.{IsBook}
use Rattle.certificate_answers.specs.Answer.{judged_case}
use Rattle.certificate_answers.specs.CaseOf.{GiveWorkedCase}
use Rattle.certificate_answers.specs.InputFiles.{InputFiles}
use Rattle.certificate_answers.specs.declared.inquiry.Inquiry.{Inquiry}

-- it comes, by what is asked, of the case that the files give, and keeps every limit
pub record IsJudged (inquiry : Inquiry) (files : InputFiles) (judged : CaseContents) : Type 0 where
  pub case : CaseContents
  pub given : GiveWorkedCase files case
  pub is : judged_case inquiry files.held case ≡ Ok judged
  pub book : IsBook judged.book
  pub terms : HasTerms judged
