-- The yield that is printed of securities without interest, proved.
use Rattle.std.proofs.Common.{◌≡◌, ◌∙◌, ℕ, ◌==◌, List, [], ℤ, Bool, true, false, refl, sym, subst, arith, inl, inr}
use Rattle.std.specs.Prelude.{if◌then◌else◌}
use Rattle.escrow_units.specs.Flows.{indexed}
use Rattle.escrow_units.specs.PresentValue.{IndexedFlow}
use Rattle.escrow_units.specs.declared.security.Flow.{Flow}
use Rattle.fixed_powers.specs.PresentValues.{HasLaterAmount}
use Rattle.bound_certificate.specs.declared.certificate.Certificate.{Certificate}
use Rattle.case_file.specs.Case.{CaseContents}
use Rattle.escrow_check.specs.Meaning.{IsRightPortfolio, LiesInEnds}
use Rattle.escrow_check.specs.declared.verdict.Portfolio.{Portfolio}
use Rattle.offer_book.specs.Book.{AreWithoutInterest, BookContents, IsBook}
use Rattle.offer_book.specs.Portfolio.{IsPermitted, security_cost, security_flows}
use Rattle.cash_table.specs.LaterFlows.{HaveLaterAmount}
use Rattle.cash_table.proofs.FlowFacts.{flows_within}
use Rattle.cash_table.proofs.LaterFacts.{flows_later}
use Rattle.cash_table.proofs.PointFacts.{indexes_near}
use Rattle.cash_table.proofs.PortfolioLaws.{empty_at_no_cost, zero_interest_total}
use Rattle.cash_table.proofs.YieldFacts.{total_cents-indexed}
use Rattle.yield_enclosure.specs.declared.answer.YieldAnswer.{YieldAnswer}
use Rattle.yield_enclosure.specs.declared.answer.YieldAnswer.TheVariants.{Above, Between, Empty, Negative}
use Rattle.yield_enclosure.specs.YieldAnswers.{IsYieldAnswer}
use Rattle.yield_enclosure.proofs.EndFacts.{last_index-le}
use Rattle.yield_enclosure.proofs.ZeroYield.{zero_yield}
use Rattle.certificate_answers.proofs.YieldEnds.{answer_is}
use Rattle.certificate_answers.specs.Accepted.{IsCertified, IsYieldWithin, yield_without_interest}
use Rattle.cash_table.specs.Points.{plan_yield}

later-amount : (settle : ℤ) (flows : List Flow) → HaveLaterAmount settle flows → (flows ≡ [] → ⊥) → HasLaterAmount (indexed settle flows)
later-amount settle flows later some = elim later [ inl none ↦ absurd (some none) | inr amount ↦ amount ]

yields-none : (book : BookContents) (plan : List ℕ) → security_flows book plan ≡ [] → security_cost book plan ≡ 0 → plan_yield book plan ≡ Empty
yields-none book plan none free = rw (none, free) refl

yields-zero : (book : BookContents) (plan : List ℕ) → IsBook book → AreWithoutInterest book.lines → IsPermitted book plan → (security_flows book plan ≡ [] → ⊥) → plan_yield book plan ≡ Between (record { 0 = 0 }) (record { 0 = 0 })
yields-zero book plan limits interest permitted some =
    let flows = security_flows book plan in
    zero_yield (indexed book.days.settle flows) (security_cost book plan)
    (indexes_near book.days.settle flows limits.settlement (flows_within book plan limits))
    (later-amount book.days.settle flows (flows_later book plan limits) some)
    (total_cents-indexed book.days.settle flows ∙ zero_interest_total book plan limits interest permitted)

-- a test on the cost gives the yield
abbrev by_test : Bool → YieldAnswer
by_test free = if free then Empty else Between (record { 0 = 0 }) (record { 0 = 0 })

printed-at : (book : BookContents) (plan : List ℕ) (free : Bool) → (security_cost book plan == 0) ≡ free → IsBook book → AreWithoutInterest book.lines → IsPermitted book plan → plan_yield book plan ≡ by_test free
printed-at book plan true is limits interest permitted =
    let none : security_cost book plan ≡ 0 = grind arith in
    yields-none book plan ((empty_at_no_cost book plan limits permitted).1 none) none
printed-at book plan false is limits interest permitted =
    yields-zero book plan limits interest permitted
    (λ empty. let none : security_cost book plan ≡ 0 = (empty_at_no_cost book plan limits permitted).0 empty in absurd (grind arith))

-- the yield of securities without interest
pub printed_yield : (book : BookContents) (plan : List ℕ) → IsBook book → AreWithoutInterest book.lines → IsPermitted book plan → plan_yield book plan ≡ yield_without_interest (security_cost book plan)
printed_yield book plan limits interest permitted = printed-at book plan (security_cost book plan == 0) refl limits interest permitted

-- ---- what a yield says
lies-within : (flows : List IndexedFlow) (cost limit : ℕ) (answer : YieldAnswer) → IsYieldAnswer flows cost answer → LiesInEnds answer flows cost limit → IsYieldWithin limit answer flows cost
lies-within flows cost limit Empty is lies = is
lies-within flows cost limit Negative is lies = is
lies-within flows cost limit (Between lo hi) is lies = (lies.0, is.narrow, lies.1)
lies-within flows cost limit Above is lies = absurd lies

-- a portfolio is right, and that of its certificate, where it is by the yield that is worked out
pub certified : (case : CaseContents) (certificate : Certificate) (portfolio : Portfolio) → IsBook case.book → IsRightPortfolio case certificate portfolio → IsCertified case certificate portfolio
certified case certificate portfolio limits is =
    let book = case.book in
    let flows = security_flows book portfolio.plan in
    let near = last_index-le 14_400 (indexed book.days.settle flows) (indexes_near book.days.settle flows limits.settlement (flows_within book portfolio.plan limits)) in
    record {
      buys = is.buys;
      named = is.named;
      bought = is.bought;
      gap = is.gap;
      cost = is.cost;
      permitted = is.right.permitted;
      covered = is.right.covered;
      yields =
          subst (λ (answer : YieldAnswer). IsYieldWithin case.limit answer (indexed book.days.settle flows) (security_cost book portfolio.plan)) (sym is.answer)
          (lies-within (indexed book.days.settle flows) (security_cost book portfolio.plan) case.limit (plan_yield book portfolio.plan)
          (answer_is (indexed book.days.settle flows) (security_cost book portfolio.plan) near) is.right.yields);
      cheapest = is.right.cheapest;
      allowed = is.right.allowed;
      priced = is.priced;
    }
