-- What a verdict on the bytes of a certificate means, without a way to work it out.
use Rattle.std.specs.Prelude.{◌≡◌, ℕ, List, length, Some, None}
use Rattle.bound_certificate.specs.Versions.{IsCertificateText, certificate_fault}
use Rattle.bound_certificate.specs.declared.certificate.Certificate.{Certificate}
use Rattle.case_file.specs.Case.{CaseContents}
use Rattle.offer_book.specs.Rival.{IsRival}
use Rattle.escrow_check.specs.Meaning.{IsRightPortfolio}
use Rattle.escrow_check.specs.Reasons.{Stands}
use Rattle.escrow_check.specs.declared.verdict.Portfolio.{Portfolio}
use Rattle.escrow_check.specs.declared.verdict.Reason.{Reason}
use Rattle.escrow_check.specs.declared.verdict.Reason.TheVariants as reason
use Rattle.escrow_check.specs.declared.verdict.Verdict.{Verdict}
use Rattle.escrow_check.specs.declared.verdict.Verdict.TheVariants as verdict

-- bytes are the text of a certificate whose portfolio is right
pub record HasRightPortfolio (case : CaseContents) (bytes : List ℕ) (portfolio : Portfolio) : Type 0 where
  pub certificate : Certificate
  pub is_certificate : IsCertificateText (length case.book.needs) certificate bytes
  pub right : IsRightPortfolio case certificate portfolio

-- bytes are the text of a certificate without a portfolio, and there is no rival
pub record ShowsNoRival (case : CaseContents) (bytes : List ℕ) : Type 0 where
  pub certificate : Certificate
  pub is_certificate : IsCertificateText (length case.book.needs) certificate bytes
  pub none : certificate.buys ≡ None
  pub no_rival : (rival : List ℕ) → ¬ IsRival case.limit case.book rival

-- bytes are the text of a certificate, and a reason stands against it, and none that comes before
pub record Opposes (case : CaseContents) (bytes : List ℕ) (why : Reason) : Type 0 where
  pub certificate : Certificate
  pub is_certificate : IsCertificateText (length case.book.needs) certificate bytes
  pub stands : Stands case certificate why

-- a reason stands against bytes, and none that comes before: this is the first fault of what is no text of a certificate; or it
-- stands against the certificate
abbrev pub StandsAgainst : CaseContents → List ℕ → Reason → Type 0
StandsAgainst case bytes (reason.Grammar fault) = certificate_fault (length case.book.needs) bytes ≡ Some fault
StandsAgainst case bytes why = Opposes case bytes why

-- what a verdict on bytes means
abbrev pub IsMeant : CaseContents → List ℕ → Verdict → Type 0
IsMeant case bytes (verdict.Yes portfolio) = HasRightPortfolio case bytes portfolio
IsMeant case bytes verdict.YesNone = ShowsNoRival case bytes
IsMeant case bytes (verdict.No why) = StandsAgainst case bytes why
