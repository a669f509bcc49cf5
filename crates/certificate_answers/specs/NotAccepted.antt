-- What `no` means.
use Rattle.std.specs.Prelude.{◌≡◌, ℕ, List, length}
use Rattle.bound_certificate.specs.Versions.{IsCertificateText}
use Rattle.bound_certificate.specs.declared.certificate.Certificate.{Certificate}
use Rattle.case_file.specs.Case.{CaseContents}
use Rattle.escrow_check.specs.TextMeaning.{Opposes}
use Rattle.escrow_check.specs.declared.verdict.Reason.{Reason}
use Rattle.escrow_check.specs.declared.verdict.Reason.TheVariants as reason
use Rattle.certificate_answers.specs.Answer.{reason_text}
use Rattle.certificate_answers.specs.CaseOf.{GiveCase}
use Rattle.certificate_answers.specs.InputFiles.{InputFiles}

-- a reason stands against the bytes of a certificate, and none that comes before: they are no text of a certificate, of any version; or
-- they are, and it stands against that. Which fault of them is the first, is a matter of what is answered
abbrev pub Denies : CaseContents → List ℕ → Reason → Type 0
Denies case cert (reason.Grammar fault) = (certificate : Certificate) → ¬ IsCertificateText (length case.book.needs) certificate cert
Denies case cert why = Opposes case cert why

-- the bytes of three input files give a case, and a reason stands against those of the certificate, of which this is said
pub record NotAccepted (files : InputFiles) (cert text : List ℕ) : Type 0 where
  pub case : CaseContents
  pub gives : GiveCase files case
  pub why : Reason
  pub stands : Denies case cert why
  pub said : text ≡ reason_text why
