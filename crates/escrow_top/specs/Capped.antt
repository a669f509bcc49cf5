-- What `cap` means: with a certificate, of the bytes of the files; without one, of their case. The common cap is this project's own.
use Rattle.std.specs.Prelude.{◌≡◌, ◌≢◌, ℕ, ◌<◌, List, length, Option, Some, None}
use Rattle.escrow_desk.specs.Content.{Content, Told, with_file, with_said}
use Rattle.escrow_units.specs.declared.amount.Rate.{Rate}
use Rattle.bound_certificate.specs.Versions.{IsCertificateText}
use Rattle.bound_certificate.specs.declared.certificate.Certificate.{Certificate}
use Rattle.cap_finder.specs.declared.ends.Obstacle.{Obstacle}
use Rattle.cap_finder.specs.declared.ends.Unfound.{Unfound}
use Rattle.case_file.specs.Case.{CaseContents}
use Rattle.escrow_check.specs.Reasons.{IsSoundTree}
use Rattle.escrow_check.specs.declared.verdict.Portfolio.{Portfolio}
use Rattle.rate_cap.specs.CaseAt.{IsTopOf, case_at, slgs_rates}
use Rattle.rate_cap.specs.Search.{IsCapUpTo, zero_cap}
use Rattle.verification_report.specs.declared.figures.Figures.{Figures}
use Rattle.certificate_answers.specs.Accepted.{HasPortfolio}
use Rattle.escrow_top.specs.Capping.{HasObstacle, IsNextKnown, IsObstacle, cap_words, obstacle_answer}
use Rattle.certificate_answers.specs.CaseOf.{GiveCase}
use Rattle.certificate_answers.specs.InputFiles.{FileNames, InputFiles}
use Rattle.certificate_answers.specs.Reading.{AreThere}
use Rattle.escrow_top.specs.declared.capping.CapDraft.{CapDraft}
use Rattle.escrow_top.specs.declared.capping.CapDraft.TheVariants as draft
use Rattle.certificate_answers.specs.declared.status.Status.{Status}
use Rattle.certificate_answers.specs.declared.status.Status.TheVariants as status

-- ---- with a certificate
-- the figures of a portfolio
abbrev pub portfolio_figures : CaseContents → Portfolio → Figures
portfolio_figures case portfolio = record { cost = portfolio.cost; answer = portfolio.answer; limit = record { 0 = case.limit }; gap = portfolio.gap }

-- an escrow at a cap, which is a whole hundredth of a percentage point up to the top of a case's SLGS rates: the certificate has a
-- portfolio of which, for the case at that cap, all holds that `yes` means, and its gap is the least that its tree supports. It is known
-- why no escrow was found at the next hundredth, unless the cap is the top; where it is below, why none was found for the case itself;
-- and this is said
pub record HasCap (case : CaseContents) (certificate : Certificate) (text : List ℕ) : Type 0 where
  pub top : Rate
  pub is_top : IsTopOf (slgs_rates case.book.lines) top
  pub cap : Rate
  pub up_to : IsCapUpTo top cap
  pub yes : List ℕ
  pub accepted : HasPortfolio (case_at cap case) certificate yes
  pub least : (less : ℕ) → less < certificate.gap → ¬ IsSoundTree (case_at cap case) (record certificate { gap = less })
  pub next : Option Unfound
  pub is_next : IsNextKnown case top cap next
  pub above : cap.0 < top.0 → HasObstacle case
  pub said : text ≡ cap_words cap (portfolio_figures (case_at cap case) accepted.portfolio) next

-- the bytes of three input files give a case, and those of the fourth are the text of a certificate with such an escrow; and this is
-- said of it
pub record Capped (files : InputFiles) (cert text : List ℕ) : Type 0 where
  pub case : CaseContents
  pub gives : GiveCase files case
  pub certificate : Certificate
  pub is_certificate : IsCertificateText (length case.book.needs) certificate cert
  pub right : HasCap case certificate text

-- so is what is about to be written and said, for the input files
abbrev pub IsCappedDraft : InputFiles → CapDraft → Type 0
IsCappedDraft files (draft.Found texts) = Capped files texts.cert.items texts.said.items
IsCappedDraft files (draft.Said answer) = Unit {0}

-- the same of the input files of names on a desk that tells
abbrev pub IsCappedFor : Told → FileNames → CapDraft → Type 0
IsCappedFor told names (draft.Said answer) = Unit {0}
IsCappedFor None names (draft.Found texts) = Unit {0}
IsCappedFor (Some content) names (draft.Found texts) = (files : InputFiles) × AreThere content names files × Capped files texts.cert.items texts.said.items

-- the certificate's file of names was written whole, and then a text was said, and no other file changed: they are so of the input
-- files as they were
pub record HoldsCapped (content after : Content) (names : FileNames) : Type 0 where
  pub files : InputFiles
  pub cert : List ℕ
  pub text : List ℕ
  pub there : AreThere content names files
  pub put : after ≡ with_said (with_file content names.cert cert) text
  pub is : Capped files cert text

-- the same where a desk tells
abbrev pub WroteCapped : Told → Told → FileNames → Type 0
WroteCapped None new names = Unit {0}
WroteCapped (Some content) None names = ⊥
WroteCapped (Some content) (Some after) names = HoldsCapped content after names

-- ---- without one
-- no escrow was found for the case at cap 0, and the status says why; nor for the case itself
pub record HasNoCap (reached : Status) (case : CaseContents) : Type 0 where
  pub zero : Obstacle
  pub is : IsObstacle (case_at zero_cap case) zero
  pub status : reached ≡ (obstacle_answer (case_at zero_cap case) zero).status
  pub above : HasObstacle case

-- so it is where no certificate is written
abbrev pub SaysNoCap : Status → CaseContents → Type 0
SaysNoCap reached case = reached ≢ status.Done → HasNoCap reached case
