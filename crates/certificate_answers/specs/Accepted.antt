-- What `yes` means.
use Rattle.std.specs.Prelude.{◌≡◌, ◌↔◌, ◌⊎◌, ℕ, ◌+◌, ◌<◌, ◌≤◌, ◌==◌, if◌then◌else◌, List, [], length, All, Some, None, Ok}
use Rattle.escrow_desk.specs.declared.limits.TheConstants.{CERTIFICATE_LIMIT}
use Rattle.escrow_units.specs.Flows.{indexed}
use Rattle.escrow_units.specs.PresentValue.{IndexedFlow, YieldLiesIn}
use Rattle.fixed_powers.specs.PresentValues.{total_cents}
use Rattle.proof_tree.specs.Tree.{IsPriced}
use Rattle.yield_enclosure.specs.declared.answer.YieldAnswer.{YieldAnswer}
use Rattle.yield_enclosure.specs.declared.answer.YieldAnswer.TheVariants.{Above, Between, Empty, Negative}
use Rattle.offer_book.specs.Book.{AreWithoutInterest}
use Rattle.offer_book.specs.Portfolio.{IsPermitted, Meets, cost, security_cost, security_flows}
use Rattle.offer_book.specs.Rival.{IsRival}
use Rattle.bound_certificate.specs.Versions.{IsCertificateText}
use Rattle.bound_certificate.specs.declared.certificate.Buy.{Buy}
use Rattle.bound_certificate.specs.declared.certificate.Certificate.{Certificate}
use Rattle.case_file.specs.Case.{CaseContents}
use Rattle.case_file.specs.Limit.{RestsOn}
use Rattle.escrow_check.specs.Meaning.{Bought, NoRivalSaves, NoneSaves}
use Rattle.escrow_check.specs.Reasons.{IsUnopposed}
use Rattle.escrow_check.specs.declared.verdict.Portfolio.{Portfolio}
use Rattle.certificate_answers.specs.Answer.{judged_of, none_text, yes_text}
use Rattle.certificate_answers.specs.CaseOf.{GiveCase}
use Rattle.certificate_answers.specs.InputFiles.{InputFiles}
use Rattle.certificate_answers.specs.declared.inquiry.Inquiry.{Inquiry}
use Rattle.certificate_answers.specs.declared.status.Status.{Status}
use Rattle.certificate_answers.specs.declared.status.Status.TheVariants as status

-- securities without interest have no yield where none is bought, and else the yield 0
abbrev pub yield_without_interest : ℕ → YieldAnswer
yield_without_interest cost = if cost == 0 then Empty else Between (record { 0 = 0 }) (record { 0 = 0 })

-- what is said of the yield of flows for their cost, where it is within a limit: the exact yield lies between the ends, which are at most
-- two units of 10^-10 apart; or there are no flows and no cost; or the flows come to less than the cost
abbrev pub IsYieldWithin : ℕ → YieldAnswer → List IndexedFlow → ℕ → Type 0
IsYieldWithin limit (Between lo hi) flows cost = YieldLiesIn flows cost lo.0 hi.0 × (hi.0 ≤ lo.0 + 2) × (hi.0 ≤ limit)
IsYieldWithin limit Empty flows cost = (flows ≡ []) × (cost ≡ 0)
IsYieldWithin limit Negative flows cost = total_cents flows < cost
IsYieldWithin limit Above flows cost = ⊥

-- a portfolio is right, and that of the certificate: it is what the certificate buys, at this cost and with its gap; its units are
-- permitted; its cash balance is negative on no date; its yield is said, and within the limit; no rival costs less by more than the gap,
-- and the issue allows the gap. Where no leaf gives the limit a multiplier, no portfolio that meets the needs saves more, whatever its yield
pub record IsCertified (case : CaseContents) (certificate : Certificate) (portfolio : Portfolio) : Type 0 where
  pub buys : List Buy
  pub named : certificate.buys ≡ Some buys
  pub bought : Bought case.book buys portfolio.plan
  pub gap : portfolio.gap.0 ≡ certificate.gap
  pub cost : portfolio.cost.0 ≡ cost case.book portfolio.plan
  pub permitted : IsPermitted case.book portfolio.plan
  pub covered : Meets case.book portfolio.plan
  pub yields :
      IsYieldWithin case.limit portfolio.answer (indexed case.book.days.settle (security_flows case.book portfolio.plan))
      (security_cost case.book portfolio.plan)
  pub cheapest : NoRivalSaves case.limit certificate.gap case.book portfolio.plan
  pub allowed : certificate.gap ≤ case.allowance
  pub priced : All IsPriced certificate.nodes → NoneSaves certificate.gap case.book portfolio.plan

-- the certificate has a portfolio, which is right; where no line bears interest its yield is 0, or none; and this is said of it
pub record HasPortfolio (case : CaseContents) (certificate : Certificate) (text : List ℕ) : Type 0 where
  pub portfolio : Portfolio
  pub right : IsCertified case certificate portfolio
  pub without_interest : AreWithoutInterest case.book.lines → portfolio.answer ≡ yield_without_interest (security_cost case.book portfolio.plan)
  pub said : text ≡ yes_text case portfolio

-- the certificate has none: there is no rival, and this is said
pub record HasNoRival (case : CaseContents) (certificate : Certificate) (text : List ℕ) : Type 0 where
  pub none : certificate.buys ≡ None
  pub no_rival : (rival : List ℕ) → ¬ IsRival case.limit case.book rival
  pub said : text ≡ none_text

-- the bytes of three input files give a case, and those of the fourth are the text of a certificate; its portfolio is right, or
-- it shows that there is no rival; and this is said of it
pub record Accepted (files : InputFiles) (cert text : List ℕ) : Type 0 where
  pub case : CaseContents
  pub gives : GiveCase files case
  pub certificate : Certificate
  pub is_certificate : IsCertificateText (length case.book.needs) certificate cert
  pub right : HasPortfolio case certificate text ⊎ HasNoRival case certificate text

-- bytes are the text of a certificate against which no reason stands
pub record HasNoReason (case : CaseContents) (cert : List ℕ) : Type 0 where
  pub certificate : Certificate
  pub is_certificate : IsCertificateText (length case.book.needs) certificate cert
  pub unopposed : IsUnopposed case certificate

-- of bytes that give the case by which a certificate is judged, and a certificate within its limit, `Done` is answered where, and only
-- where, no reason stands
abbrev pub YesExactly : Status → Inquiry → InputFiles → List ℕ → Type 0
YesExactly reached inquiry files cert =
    (case : CaseContents)
    → judged_of inquiry files ≡ Ok case
    → length cert ≤ CERTIFICATE_LIMIT
    → (reached ≡ status.Done) ↔ HasNoReason case cert

-- so it is answered to a certificate that is written: within its limit, no reason stands against it, where the limit on the yield is the one
-- that is worked out, and this is said of it
pub record IsAcceptedText (files : InputFiles) (cert : List ℕ) : Type 0 where
  pub text : List ℕ
  pub accepted : Accepted files cert text
  pub worked_out : RestsOn accepted.gives.read.issue accepted.case.limit
  pub fits : length cert ≤ CERTIFICATE_LIMIT
  pub unopposed : HasNoReason accepted.case cert
