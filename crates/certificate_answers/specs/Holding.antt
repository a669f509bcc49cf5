-- What `check-held` means by its answers.
use Rattle.std.specs.Prelude.{◌≡◌, ◌⊎◌, ℕ, ◌+◌, ◌≤◌, List, Option, Some, None, Ok, length}
use Rattle.escrow_desk.specs.Rows.{rows_of}
use Rattle.escrow_desk.specs.declared.limits.TheConstants.{CERTIFICATE_LIMIT}
use Rattle.escrow_units.specs.declared.security.Flow.{Flow}
use Rattle.bound_certificate.specs.Versions.{IsCertificateText}
use Rattle.bound_certificate.specs.declared.certificate.Certificate.{Certificate}
use Rattle.case_file.specs.Case.{CaseContents}
use Rattle.case_file.specs.Limit.{RestsOn}
use Rattle.escrow_check.specs.declared.verdict.Reason.{Reason}
use Rattle.held_escrow.specs.HeldCase.{IsHeldCase}
use Rattle.held_escrow.specs.HeldForm.{held_of}
use Rattle.held_escrow.specs.Holdings.{IsHeldRival, MeetsWithHoldings}
use Rattle.offer_book.specs.Portfolio.{cost}
use Rattle.certificate_answers.specs.Accepted.{Accepted, HasNoReason, HasNoRival, HasPortfolio, IsAcceptedText}
use Rattle.certificate_answers.specs.Answer.{reason_text}
use Rattle.certificate_answers.specs.CaseOf.{GiveCase}
use Rattle.certificate_answers.specs.InputFiles.{InputFiles}
use Rattle.certificate_answers.specs.NotAccepted.{Denies, NotAccepted}

-- the bytes of the input files give a case, and these of one more the holdings; and this is the case beside them
pub record GiveCaseHolding (files : InputFiles) (holdings : List ℕ) (kept : CaseContents) : Type 0 where
  pub case : CaseContents
  pub gives : GiveCase files case
  pub held : List Flow
  pub says : held_of case.book.days.settle (rows_of holdings) ≡ Ok held
  pub is : IsHeldCase held case kept

-- the certificate has a portfolio of which, for the case beside holdings, all holds that `yes` means. With the holdings it meets the
-- needs of the files, and no held rival costs less by more than the gap
pub record HasPortfolioHolding (case : CaseContents) (held : List Flow) (kept : CaseContents) (certificate : Certificate) (text : List ℕ) : Type 0 where
  pub accepted : HasPortfolio kept certificate text
  pub meets : MeetsWithHoldings case.book held accepted.portfolio.plan
  pub least : (rival : List ℕ) → IsHeldRival case.limit case.book held rival → cost case.book accepted.portfolio.plan ≤ cost case.book rival + certificate.gap

-- the certificate has none: there is no held rival
pub record HasNoHeldRival (case : CaseContents) (held : List Flow) (kept : CaseContents) (certificate : Certificate) (text : List ℕ) : Type 0 where
  pub none : HasNoRival kept certificate text
  pub no_rival : (rival : List ℕ) → ¬ IsHeldRival case.limit case.book held rival

-- what `yes` means, of the case beside holdings
pub record AcceptedHolding (holdings : List ℕ) (files : InputFiles) (cert text : List ℕ) : Type 0 where
  pub kept : CaseContents
  pub gives : GiveCaseHolding files holdings kept
  pub certificate : Certificate
  pub is_certificate : IsCertificateText (length kept.book.needs) certificate cert
  pub right : HasPortfolioHolding gives.case gives.held kept certificate text ⊎ HasNoHeldRival gives.case gives.held kept certificate text

-- what `no` means, of the case beside holdings
pub record NotAcceptedHolding (holdings : List ℕ) (files : InputFiles) (cert text : List ℕ) : Type 0 where
  pub kept : CaseContents
  pub gives : GiveCaseHolding files holdings kept
  pub why : Reason
  pub stands : Denies kept cert why
  pub said : text ≡ reason_text why

-- a certificate that is written beside holdings: within its limit, no reason stands against it, where the limit on the yield is the one
-- that is worked out, and this is said of it
pub record IsAcceptedTextHolding (holdings : List ℕ) (files : InputFiles) (cert : List ℕ) : Type 0 where
  pub text : List ℕ
  pub accepted : AcceptedHolding holdings files cert text
  pub worked_out : RestsOn accepted.gives.gives.read.issue accepted.gives.case.limit
  pub fits : length cert ≤ CERTIFICATE_LIMIT
  pub unopposed : HasNoReason accepted.kept cert

-- ---- whether holdings are given or not
-- a certificate is accepted, beside the holdings where they are given
abbrev pub AcceptedBeside : Option (List ℕ) → InputFiles → List ℕ → List ℕ → Type 0
AcceptedBeside None = Accepted
AcceptedBeside (Some holdings) = AcceptedHolding holdings

-- a certificate is not accepted, beside the holdings where they are given
abbrev pub NotAcceptedBeside : Option (List ℕ) → InputFiles → List ℕ → List ℕ → Type 0
NotAcceptedBeside None = NotAccepted
NotAcceptedBeside (Some holdings) = NotAcceptedHolding holdings

-- a certificate that is written, beside the holdings where they are given
abbrev pub IsAcceptedTextBeside : Option (List ℕ) → InputFiles → List ℕ → Type 0
IsAcceptedTextBeside None = IsAcceptedText
IsAcceptedTextBeside (Some holdings) = IsAcceptedTextHolding holdings
