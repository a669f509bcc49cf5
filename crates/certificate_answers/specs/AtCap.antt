-- What `check-cap` means by its answers.
use Rattle.std.specs.Prelude.{◌≡◌, ◌⊎◌, ℕ, List, length}
use Rattle.escrow_units.specs.declared.amount.Rate.{Rate}
use Rattle.bound_certificate.specs.Versions.{IsCertificateText}
use Rattle.bound_certificate.specs.declared.certificate.Certificate.{Certificate}
use Rattle.case_file.specs.Case.{CaseContents}
use Rattle.escrow_check.specs.declared.verdict.Reason.{Reason}
use Rattle.rate_cap.specs.CaseAt.{IsAtCap}
use Rattle.certificate_answers.specs.Accepted.{HasNoRival, HasPortfolio}
use Rattle.certificate_answers.specs.Answer.{reason_text}
use Rattle.certificate_answers.specs.CaseOf.{GiveCase}
use Rattle.certificate_answers.specs.InputFiles.{InputFiles}
use Rattle.certificate_answers.specs.NotAccepted.{Denies}

-- the bytes of input files give a case, which at a cap on its SLGS rates is this one
pub record GiveCaseAt (cap : Rate) (files : InputFiles) (at : CaseContents) : Type 0 where
  pub case : CaseContents
  pub gives : GiveCase files case
  pub is_at : IsAtCap cap case at

-- what `yes` means, of the case at a cap
pub record AcceptedAt (cap : Rate) (files : InputFiles) (cert text : List ℕ) : Type 0 where
  pub case : CaseContents
  pub gives : GiveCaseAt cap files case
  pub certificate : Certificate
  pub is_certificate : IsCertificateText (length case.book.needs) certificate cert
  pub right : HasPortfolio case certificate text ⊎ HasNoRival case certificate text

-- what `no` means, of the case at a cap
pub record NotAcceptedAt (cap : Rate) (files : InputFiles) (cert text : List ℕ) : Type 0 where
  pub case : CaseContents
  pub gives : GiveCaseAt cap files case
  pub why : Reason
  pub stands : Denies case cert why
  pub said : text ≡ reason_text why
