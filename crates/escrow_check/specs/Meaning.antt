-- What a verdict means, whatever its certificate says and however it was found.
use Rattle.std.specs.Prelude.{◌≡◌, ◌≢◌, ℕ, ◌+◌, ◌≤◌, ◌<◌, List, length, All, slice_get, Some}
use Rattle.escrow_units.specs.Flows.{indexed}
use Rattle.escrow_units.specs.PresentValue.{IndexedFlow, YieldLiesIn}
use Rattle.yield_enclosure.specs.declared.answer.YieldAnswer.{YieldAnswer}
use Rattle.yield_enclosure.specs.declared.answer.YieldAnswer.TheVariants.{Empty, Negative, Between, Above}
use Rattle.bound_certificate.specs.Packed.{IsPackable}
use Rattle.bound_certificate.specs.declared.certificate.Buy.{Buy}
use Rattle.bound_certificate.specs.declared.certificate.Certificate.{Certificate}
use Rattle.case_file.specs.Case.{CaseContents, HasTerms}
use Rattle.cash_table.specs.Points.{plan_yield}
use Rattle.offer_book.specs.Book.{BookContents, IsBook}
use Rattle.offer_book.specs.Portfolio.{IsPermitted, IsPermittedUnits, Meets, cost, security_cost, security_flows}
use Rattle.offer_book.specs.Rival.{IsRival}
use Rattle.offer_book.specs.declared.line.Line.{Line}
use Rattle.escrow_check.specs.Acceptance.{judged}
use Rattle.escrow_check.specs.declared.verdict.Portfolio.{Portfolio}
use Rattle.escrow_check.specs.declared.verdict.Verdict.TheVariants as verdict
use Rattle.proof_tree.specs.Tree.{IsPriced}

-- a purchase is of a line on offer, in a permitted number of units
pub record IsOffered (lines : List Line) (buy : Buy) : Type 0 where
  pub line : Line
  pub on_offer : slice_get lines buy.line ≡ Some line
  pub permitted : IsPermittedUnits line buy.units

-- a plan buys just these purchases: each is offered, the plan has its units at its line, and 0 of every other line
pub record Bought (book : BookContents) (buys : List Buy) (plan : List ℕ) : Type 0 where
  pub offered : All (IsOffered book.lines) buys
  pub lines : length plan ≡ length book.lines
  pub bought : All (λ buy. slice_get plan buy.line ≡ Some buy.units) buys
  pub nothing_else : (line : ℕ) → line < length plan → All (λ buy. buy.line ≢ line) buys → slice_get plan line ≡ Some 0

-- where a yield has two ends, the exact yield of the flows for the cost lies between them, and they are within the limit
abbrev pub LiesInEnds : YieldAnswer → List IndexedFlow → ℕ → ℕ → Type 0
LiesInEnds (Between lo hi) flows cost limit = YieldLiesIn flows cost lo.0 hi.0 × (hi.0 ≤ limit)
LiesInEnds Empty flows cost limit = Unit {0}
LiesInEnds Negative flows cost limit = Unit {0}
LiesInEnds Above flows cost limit = ⊥

-- the exact yield of a portfolio's securities lies in its interval, and within a limit
abbrev pub YieldsWithin : ℕ → BookContents → List ℕ → Type 0
YieldsWithin limit book plan = LiesInEnds (plan_yield book plan) (indexed book.days.settle (security_flows book plan)) (security_cost book plan) limit

-- no rival costs less by more than the gap
abbrev pub NoRivalSaves : ℕ → ℕ → BookContents → List ℕ → Type 0
NoRivalSaves limit gap book plan = (rival : List ℕ) → IsRival limit book rival → cost book plan ≤ cost book rival + gap

-- no permitted portfolio that meets the needs costs less by more than the gap, whatever its yield
abbrev pub NoneSaves : ℕ → BookContents → List ℕ → Type 0
NoneSaves gap book plan = (other : List ℕ) → IsPermitted book other → Meets book other → cost book plan ≤ cost book other + gap

-- an escrow is right, with a gap: its units are permitted, its cash balance is negative on no date, its exact yield lies in its
-- interval and within the limit, no rival costs less by more than the gap, and the issue allows the gap
pub record IsRight (case : CaseContents) (plan : List ℕ) (gap : ℕ) : Type 0 where
  pub permitted : IsPermitted case.book plan
  pub covered : Meets case.book plan
  pub yields : YieldsWithin case.limit case.book plan
  pub cheapest : NoRivalSaves case.limit gap case.book plan
  pub allowed : gap ≤ case.allowance

-- a case whose book keeps every limit, and a certificate that a text can say for it
pub record IsHeard (case : CaseContents) (cert : Certificate) : Type 0 where
  pub book : IsBook case.book
  pub terms : HasTerms case
  pub written : IsPackable (length case.book.needs) cert

-- a yes with a portfolio: it is what the certificate buys, and right, with the certificate's gap
pub record IsRightPortfolio (case : CaseContents) (cert : Certificate) (portfolio : Portfolio) : Type 0 where
  pub buys : List Buy
  pub named : cert.buys ≡ Some buys
  pub bought : Bought case.book buys portfolio.plan
  pub gap : portfolio.gap.0 ≡ cert.gap
  pub cost : portfolio.cost.0 ≡ cost case.book portfolio.plan
  pub answer : portfolio.answer ≡ plan_yield case.book portfolio.plan
  pub right : IsRight case portfolio.plan cert.gap
  pub priced : All IsPriced cert.nodes → NoneSaves cert.gap case.book portfolio.plan

abbrev pub YesIsRight : Type 0
YesIsRight =
    (case : CaseContents) (cert : Certificate) (portfolio : Portfolio) → IsHeard case cert → judged case cert ≡ verdict.Yes portfolio
    → IsRightPortfolio case cert portfolio

-- a yes without a portfolio: no rival exists
abbrev pub YesNoneIsRight : Type 0
YesNoneIsRight =
    (case : CaseContents) (cert : Certificate) → IsHeard case cert → judged case cert ≡ verdict.YesNone
    → (rival : List ℕ) → ¬ IsRival case.limit case.book rival
