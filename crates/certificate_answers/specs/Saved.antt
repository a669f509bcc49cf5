-- What `savings` means by an answer to an accepted certificate.
use Rattle.std.specs.Prelude.{◌≡◌, ◌⊎◌, ℕ, List, length}
use Rattle.bound_certificate.specs.Versions.{IsCertificateText}
use Rattle.bound_certificate.specs.declared.certificate.Certificate.{Certificate}
use Rattle.case_file.specs.Case.{CaseContents}
use Rattle.issue_schedule.specs.declared.issue.Issue.{Issue}
use Rattle.savings_table.specs.Savings.{AreSavings, restricted_yield, savings_at}
use Rattle.certificate_answers.specs.Accepted.{HasNoRival, HasPortfolio}
use Rattle.certificate_answers.specs.CaseOf.{GiveCase}
use Rattle.certificate_answers.specs.InputFiles.{InputFiles}
use Rattle.certificate_answers.specs.SavingsText.{savings_text}

-- the certificate has a portfolio of which all holds that `yes` means; what it saves by the issue, and what idle yield costs, is so of
-- exact present values at the restricted yield; and this is said
pub record HasSavings (issue : Issue) (case : CaseContents) (certificate : Certificate) (text : List ℕ) : Type 0 where
  pub yes : List ℕ
  pub accepted : HasPortfolio case certificate yes
  pub saves : AreSavings issue case (restricted_yield case) accepted.portfolio.plan (savings_at issue case (restricted_yield case) accepted.portfolio.plan)
  pub said : text ≡ savings_text (savings_at issue case (restricted_yield case) accepted.portfolio.plan)

-- the same from the bytes of the four files: they are accepted, as `yes` means it, and the savings of the portfolio are said, by the
-- issue of these files; or there is no rival
pub record Saved (files : InputFiles) (cert text : List ℕ) : Type 0 where
  pub case : CaseContents
  pub gives : GiveCase files case
  pub certificate : Certificate
  pub is_certificate : IsCertificateText (length case.book.needs) certificate cert
  pub right : HasSavings gives.read.issue case certificate text ⊎ HasNoRival case certificate text
