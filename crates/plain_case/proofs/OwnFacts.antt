-- The own offer of each need date, in a plain case.
use Rattle.std.proofs.Common.{◌≡◌, ◌∙◌, ℕ, ◌+◌, ◌*◌, ◌<◌, ◌≤◌, List, length, get_or, set, sym, subst, arith, All}
use Rattle.std.proofs.Math.Nat.{mul-le-mul_left}
use Rattle.offer_book.specs.Book.{BookContents, IsBook, IsSecurityLine}
use Rattle.offer_book.specs.CaseBook.{cash_line}
use Rattle.offer_book.specs.Coefficients.{pay_coefficients}
use Rattle.offer_book.specs.Portfolio.{IsPermitted, line_cost, line_payments}
use Rattle.offer_book.specs.declared.coefficients.TheConstants.{COEFFICIENT_SCALE}
use Rattle.cash_table.proofs.CostFacts.{permitted_few}
use Rattle.proof_tree.specs.declared.prices.TheConstants.{PRICE_SCALE}
use Rattle.backward_build.specs.OwnOffer.{line_at, need_at}
use Rattle.backward_build.specs.PlainCase.{IsPlain}
use Rattle.backward_build.specs.PlanLaws.{IsBackwardPlan, IsJustPaidFor, IsOwnOfferAt}
use Rattle.backward_build.specs.CurveLaws.{IsFairCurve}
use Rattle.backward_build.proofs.BackwardFacts.{built_backward}
use Rattle.backward_build.proofs.FairFacts.{bootstrapped_fair, first_falling, some_is}
use Rattle.backward_build.proofs.OfferFacts.{IsOwn, own_is, own_security}
use Rattle.backward_build.proofs.UnitFacts.{permitted-at}
use Rattle.plain_case.specs.OwnOfferWorth.{ExcessesAreLittle, OwnOffersAreWorthIt, worth_paid}
use Rattle.plain_case.proofs.PurchaseFacts.{IsFewer, fewer-bought, own_paid, received}
use Rattle.plain_case.proofs.WorthFacts.{IsPricedBy, cost-worth, excess-worth, priced-by}

-- ---- what is known of an own offer
record IsBought (book : BookContents) (prices plan : List ℕ) (place number : ℕ) : Type 0 where
  security : IsSecurityLine book.days (line_at book.lines number)
  priced : IsPricedBy book prices place (line_at book.lines number)
  few : get_or plan number 0 ≤ (line_at book.lines number).most
  fewer : IsFewer book plan place number

bought-just : (book : BookContents) (prices plan : List ℕ) (place : ℕ) (just : IsJustPaidFor book plan place) → IsBook book → IsFairCurve book prices → IsPermitted book plan → place < length book.needs
    → received book (set plan just.number 0) place ≤ (need_at book.needs place).cents.0 → IsBought book prices plan place just.number
bought-just book prices plan place just limits curve permitted within residual = record {
  security = security;
  priced = priced-by book prices place just.number limits.needs.rising curve within just.own;
  few = permitted_few (line_at book.lines just.number) (get_or plan just.number 0) (permitted-at book plan just.number is.within permitted (cash_line 0));
  fewer = fewer-bought book plan place just permitted is.within security.least residual;
}
  where
    is : IsOwn book (need_at book.needs place).day just.number
    is = own_is book (need_at book.needs place).day just.number just.own

    security : IsSecurityLine book.days (line_at book.lines just.number)
    security = own_security book (need_at book.needs place).day just.number limits.lines just.own

bought-at : (limit : ℕ) (book : BookContents) → IsBook book → (plain : IsPlain limit book) → (place number : ℕ) → place < length book.needs → IsOwnOfferAt book place number → IsBought book plain.prices plain.plan place number
bought-at limit book limits plain place number within own =
    let backward : IsBackwardPlan book plain.plan = built_backward book plain.plan limits plain.built in
    let just = backward.needs place within in
    let same : just.number ≡ number = some_is just.number number (sym just.own ∙ own) in
    subst (IsBought book plain.prices plain.plan place) same
    (bought-just book plain.prices plain.plan place just limits (bootstrapped_fair book plain.prices limits plain.curve) backward.permitted within (plain.no_excess place just.number within just.own))

prices-small : (limit : ℕ) (book : BookContents) → (plain : IsPlain limit book) → All (λ price. price ≤ PRICE_SCALE) plain.prices
prices-small limit book plain = (first_falling book (length book.needs) plain.prices plain.curve).small

prices-same : (limit : ℕ) (book : BookContents) → IsBook book → (plain : IsPlain limit book) → length plain.prices ≡ length book.needs
prices-same limit book limits plain = (bootstrapped_fair book plain.prices limits plain.curve).dates

-- ---- what it costs, and what is received
-- fewer units pay for no more than the need: so what they cost and what is received go together
joined : (cost_x cost_d most price got need paid_x paid_f worth n : ℕ) → got + paid_f ≤ need + paid_x → cost_d ≤ most
    → COEFFICIENT_SCALE * PRICE_SCALE * cost_x + COEFFICIENT_SCALE * (price * paid_x) ≤ COEFFICIENT_SCALE * worth + COEFFICIENT_SCALE * (price * paid_f) + COEFFICIENT_SCALE * PRICE_SCALE * (cost_d + (4 + 2 * n))
    → COEFFICIENT_SCALE * PRICE_SCALE * cost_x + COEFFICIENT_SCALE * (price * got) ≤ COEFFICIENT_SCALE * worth + COEFFICIENT_SCALE * (price * need) + COEFFICIENT_SCALE * PRICE_SCALE * (most + (4 + 2 * n))
joined cost_x cost_d most price got need paid_x paid_f worth n short little whole =
    let priced = mul-le-mul_left price short in
    omega (arith, priced, little, whole)

pub own_worth : OwnOffersAreWorthIt
own_worth limit book limits plain place number within own =
    let bought = bought-at limit book limits plain place number within own in
    let line = line_at book.lines number in
    let units = get_or plain.plan number 0 in
    joined (line_cost line units) (line_cost line bought.fewer.more) (line_cost line line.least + line_cost line 1) (get_or plain.prices place 0) (received book plain.plan place) (need_at book.needs place).cents.0
    (own_paid book place number units) (own_paid book place number bought.fewer.fewer) (worth_paid book plain.prices (line_payments book.days line units)) (length (pay_coefficients book.days line))
    bought.fewer.short bought.fewer.little
    (cost-worth book plain.prices place line units bought.fewer.fewer bought.fewer.more limits (prices-same limit book limits plain) (prices-small limit book plain) within bought.security bought.priced bought.few bought.fewer.parts)

beyond : (cost_d most price got need paid_x paid_f n : ℕ) → got + paid_f ≤ need + paid_x → cost_d ≤ most → price * paid_x ≤ price * paid_f + PRICE_SCALE * (cost_d + (1 + 2 * n)) → price * got ≤ price * need + PRICE_SCALE * (most + (1 + 2 * n))
beyond cost_d most price got need paid_x paid_f n short little more =
    let priced = mul-le-mul_left price short in
    omega (arith, priced, little, more)

pub excess_little : ExcessesAreLittle
excess_little limit book limits plain place number within own =
    let bought = bought-at limit book limits plain place number within own in
    let line = line_at book.lines number in
    let units = get_or plain.plan number 0 in
    beyond (line_cost line bought.fewer.more) (line_cost line line.least + line_cost line 1) (get_or plain.prices place 0) (received book plain.plan place) (need_at book.needs place).cents.0
    (own_paid book place number units) (own_paid book place number bought.fewer.fewer) (length (pay_coefficients book.days line))
    bought.fewer.short bought.fewer.little
    (excess-worth book plain.prices place line units bought.fewer.fewer bought.fewer.more limits (prices-same limit book limits plain) (prices-small limit book plain) within bought.security bought.priced bought.few bought.fewer.parts)
