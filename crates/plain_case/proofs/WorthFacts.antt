-- What an own offer costs, by what its payments are worth at the bootstrapped prices.
use Rattle.std.proofs.Common.{◌≡◌, ◌∙◌, ℕ, ◌+◌, ◌*◌, ◌^◌, ◌<◌, ◌≤◌, Bool, false, true, if◌then◌else◌, List, [], ◌∷◌, ◌++◌, take, length, get_or, sym, ap, subst, inl, inr, arith, ℤ, All}
use Rattle.std.proofs.lemmas.Bool.{cases_lt}
use Rattle.std.proofs.lemmas.List.{length-take}
use Rattle.std.proofs.lemmas.List.Elements.{All-weaker}
use Rattle.std.proofs.lemmas.List.Sums.{sum_by-le}
use Rattle.std.proofs.Math.Nat.{mul-le-mul_left, mul-le-mul_right}
use Rattle.std.specs.List.{sum_by}
use Rattle.escrow_units.specs.Flows.{Rise}
use Rattle.escrow_units.specs.SlgsTerms.{IsSettlement}
use Rattle.escrow_units.specs.declared.security.Flow.{Flow}
use Rattle.day_sums.proofs.RateFacts.{at_rate}
use Rattle.offer_book.specs.Book.{BookContents, IsBook, IsSecurityLine}
use Rattle.offer_book.specs.Coefficients.{EnclosesUnits, cost_coefficients, pay_coefficients}
use Rattle.offer_book.specs.Portfolio.{line_cost, line_payments}
use Rattle.offer_book.specs.declared.coefficients.PayCoefficients.{PayCoefficients}
use Rattle.offer_book.specs.declared.coefficients.TheConstants.{COEFFICIENT_SCALE}
use Rattle.offer_book.specs.declared.line.Line.{Line}
use Rattle.offer_book.proofs.CoefficientFacts.{coefficients-enclose}
use Rattle.offer_book.proofs.LineFacts.{par-at_most}
use Rattle.dual_bound.specs.LeafBound.{price_on}
use Rattle.proof_tree.specs.declared.prices.TheConstants.{PRICE_SCALE}
use Rattle.dual_bound.proofs.Sizes.{IsSized, cost-sized, pays-sized}
use Rattle.backward_build.specs.CurveLaws.{IsFairAfter, IsFairCurve}
use Rattle.backward_build.specs.OwnOffer.{line_at, need_at, own_offer_of}
use Rattle.backward_build.specs.PlanLaws.{IsOwnOfferAt}
use Rattle.backward_build.specs.PriceCurve.{unit_paid_in, worth_at}
use Rattle.backward_build.specs.Span.{falls_in, paid_in, span_of}
use Rattle.backward_build.proofs.CurveFacts.{price_on-within}
use Rattle.backward_build.proofs.FairFacts.{some_is, worth_is}
use Rattle.plain_case.specs.OwnOfferWorth.{worth_paid}
use Rattle.plain_case.proofs.CloseFacts.{both-roundings, cost-close, half_rounding, paid_rounding, payments-close, payments-most, pays-close, unit_worth}
use Rattle.plain_case.proofs.RateFacts.{early_price, price-parts, rates-within, roundings-within, span-paid, span-worth, span_rate}
use Rattle.offer_book.specs.declared.payment_days.PaymentDays.{PaymentDays}

-- ---- the price of a need date, by one unit of its own offer
pub record IsPricedBy (book : BookContents) (prices : List ℕ) (place : ℕ) (line : Line) : Type 0 where
  pub fair : unit_worth (early_price book.needs prices place) (pay_coefficients book.days line) + get_or prices place 0 * unit_paid_in (span_of book.needs place) (pay_coefficients book.days line)
      ≤ PRICE_SCALE * (cost_coefficients line).low
  pub greatest : PRICE_SCALE * (cost_coefficients line).low
      ≤ unit_worth (early_price book.needs prices place) (pay_coefficients book.days line) + (get_or prices place 0 + 1) * unit_paid_in (span_of book.needs place) (pay_coefficients book.days line)

priced-with : (book : BookContents) (prices : List ℕ) (place price : ℕ) (line : Line) → Rise book.needs → length prices ≡ length book.needs → place < length book.needs
    → worth_at (take (length (take place prices ++ price ∷ [])) book.needs) (take place prices ++ price ∷ []) (pay_coefficients book.days line)
    ≡ unit_worth (early_price book.needs prices place) (pay_coefficients book.days line) + price * unit_paid_in (span_of book.needs place) (pay_coefficients book.days line)
priced-with book prices place price line rising same within =
    let front = take place prices in
    let long : length front ≡ place = omega (arith, length-take place prices) in
    worth_is book front price line rising (omega (arith, long))
    ∙ ap (λ (k : ℕ). worth_at (take k book.needs) front (pay_coefficients book.days line) + price * unit_paid_in (span_of book.needs k) (pay_coefficients book.days line)) long

priced-at : (book : BookContents) (prices : List ℕ) (place : ℕ) → Rise book.needs → length prices ≡ length book.needs → place < length book.needs
    → (fair : IsFairAfter book (take place prices) (get_or prices place 0)) → IsPricedBy book prices place (line_at book.lines fair.number)
priced-at book prices place rising same within fair = record {
  fair = omega (arith, fair.fair, priced-with book prices place price line rising same within);
  greatest = elim (cases_lt upper (PRICE_SCALE * (cost_coefficients line).low)) [
    | inl more ↦ absurd (fair.greatest (omega (arith, more, priced-with book prices place (price + 1) line rising same within)))
    | inr at_most ↦ at_most
  ];
}
  where
    price : ℕ
    price = get_or prices place 0

    line : Line
    line = line_at book.lines fair.number

    upper : ℕ
    upper = unit_worth (early_price book.needs prices place) (pay_coefficients book.days line) + (price + 1) * unit_paid_in (span_of book.needs place) (pay_coefficients book.days line)

pub priced-by : (book : BookContents) (prices : List ℕ) (place number : ℕ) → Rise book.needs → IsFairCurve book prices → place < length book.needs → IsOwnOfferAt book place number
    → IsPricedBy book prices place (line_at book.lines number)
priced-by book prices place number rising curve within own =
    let fair = curve.fair place (omega (arith, curve.dates)) in
    let long : length (take place prices) ≡ place = omega (arith, length-take place prices, curve.dates) in
    let same : fair.number ≡ number = some_is fair.number number (sym fair.own ∙ ap (λ k. own_offer_of book (need_at book.needs k).day) long ∙ own) in
    subst (λ n. IsPricedBy book prices place (line_at book.lines n)) same (priced-at book prices place rising curve.dates within fair)

-- ---- the cost of so many units
units-few : (days : PaymentDays) (line : Line) (units : ℕ) → IsSecurityLine days line → units ≤ line.most → units ≤ COEFFICIENT_SCALE
units-few days line units security few = omega (arith, par-at_most days line units security few, mul-le-mul_right units security.step_at_least)

cost-most : (days : PaymentDays) (line : Line) (units : ℕ) → IsSecurityLine days line → units ≤ line.most → EnclosesUnits days line units
    → COEFFICIENT_SCALE * line_cost line units ≤ (cost_coefficients line).low * units + 3 * COEFFICIENT_SCALE
cost-most days line units security few encloses =
    let high = mul-le-mul_right units (cost-close days line security) in
    omega (arith, high, encloses.costs.most, units-few days line units security few, (cost-sized days line (inr security)).slack)

cost-least : (days : PaymentDays) (line : Line) (units : ℕ) → IsSecurityLine days line → EnclosesUnits days line units
    → (cost_coefficients line).low * units ≤ COEFFICIENT_SCALE * line_cost line units + COEFFICIENT_SCALE
cost-least days line units security encloses = omega (arith, encloses.costs.least, (cost-sized days line (inr security)).slack)

-- what a price of one unit more comes to over the units: at most 14 hundredths of a cent for each payment
price-step : (book : BookContents) (place : ℕ) (line : Line) (units : ℕ) → IsSettlement book.days.settle → IsSecurityLine book.days line → units ≤ line.most
    → unit_paid_in (span_of book.needs place) (pay_coefficients book.days line) * units ≤ length (pay_coefficients book.days line) * (14 * 10 ^ 19)
price-step book place line units settled security few =
    let pays = pay_coefficients book.days line in
    let each : All (λ (pay : PayCoefficients). (if falls_in (span_of book.needs place) pay.day then pay.high else 0) ≤ 1_400_000_000 * line.step) pays =
    All-weaker (IsSized line.step) (λ (pay : PayCoefficients). (if falls_in (span_of book.needs place) pay.day then pay.high else 0) ≤ 1_400_000_000 * line.step) (λ pay sized. at (falls_in (span_of book.needs place) pay.day) pay.high (1_400_000_000 * line.step) sized.high) pays
    (pays-sized book.days line settled (inr security)) in
    let sum = sum_by-le (λ (pay : PayCoefficients). if falls_in (span_of book.needs place) pay.day then pay.high else 0) (1_400_000_000 * line.step) pays each in
    omega (arith, mul-le-mul_right units sum, mul-le-mul_left (length pays) (par-at_most book.days line units security few))
  where
    at : (t : Bool) (high most : ℕ) → high ≤ most → (if t then high else 0) ≤ most
    at true high most le = le
    at false high most le = omega arith

-- ---- all together
together : (c x f d A p B n cost_x cost_d early_x paid_x paid_f worth first second : ℕ) → A + p * B ≤ PRICE_SCALE * c → PRICE_SCALE * c ≤ A + (p + 1) * B → x ≡ f + d
    → A * x ≤ COEFFICIENT_SCALE * early_x + first → p * B * f ≤ COEFFICIENT_SCALE * (p * paid_f) + second → first + second ≤ PRICE_SCALE * (n * 1_500_000_000)
    → B * x ≤ n * (14 * 10 ^ 19) → c * d ≤ COEFFICIENT_SCALE * cost_d + COEFFICIENT_SCALE → COEFFICIENT_SCALE * cost_x ≤ c * x + 3 * COEFFICIENT_SCALE → early_x + p * paid_x ≤ worth
    → COEFFICIENT_SCALE * PRICE_SCALE * cost_x + COEFFICIENT_SCALE * (p * paid_x) ≤ COEFFICIENT_SCALE * worth + COEFFICIENT_SCALE * (p * paid_f) + COEFFICIENT_SCALE * PRICE_SCALE * (cost_d + (4 + 2 * n))
together c x f d A p B n cost_x cost_d early_x paid_x paid_f worth first second fair greatest parts early span rounds step less most whole =
    let over = mul-le-mul_right x greatest in
    let under = mul-le-mul_right d fair in
    let split = ap (λ m. p * B * m) parts in
    omega (arith, over, under, split, early, span, rounds, step, less, most, whole)

pub cost-worth : (book : BookContents) (prices : List ℕ) (place : ℕ) (line : Line) (units fewer more : ℕ) → IsBook book → length prices ≡ length book.needs → All (λ price. price ≤ PRICE_SCALE) prices → place < length book.needs
    → IsSecurityLine book.days line → IsPricedBy book prices place line → units ≤ line.most → units ≡ fewer + more
    → COEFFICIENT_SCALE * PRICE_SCALE * line_cost line units + COEFFICIENT_SCALE * (get_or prices place 0 * paid_in (span_of book.needs place) (line_payments book.days line units))
    ≤ COEFFICIENT_SCALE * worth_paid book prices (line_payments book.days line units)
    + COEFFICIENT_SCALE * (get_or prices place 0 * paid_in (span_of book.needs place) (line_payments book.days line fewer))
    + COEFFICIENT_SCALE * PRICE_SCALE * (line_cost line more + (4 + 2 * length (pay_coefficients book.days line)))
cost-worth book prices place line units fewer more limits same small within security priced few parts =
    together (cost_coefficients line).low units fewer more (unit_worth early pays) price (unit_paid_in (span_of book.needs place) pays) (length pays) (line_cost line units) (line_cost line more)
    (sum_by (at_rate early) (flows units)) (paid_in (span_of book.needs place) (flows units)) (paid_in (span_of book.needs place) (flows fewer)) (worth_paid book prices (flows units))
    (paid_rounding early pays) (paid_rounding span pays)
    priced.fair priced.greatest parts
    (payments-close early units pays (flows units) (encloses units).pays (pays-close book.days line security) slack (units-few book.days line units security few))
    (omega (arith, spanned, ap (λ m. m * fewer) (span-worth book.needs place price pays), span-paid book.needs place price (flows fewer)))
    (roundings-within early span pays (λ day. omega (arith, price-parts book.needs prices place day limits.needs.rising same within, price_on-within book.needs prices day small)))
    (price-step book place line units limits.settlement security few)
    (cost-least book.days line more security (encloses more))
    (cost-most book.days line units security few (encloses units))
    (omega (arith, rates-within early span (price_on book.needs prices) (flows units) (λ day. price-parts book.needs prices place day limits.needs.rising same within), span-paid book.needs place price (flows units)))
  where
    price : ℕ
    price = get_or prices place 0

    early : ℤ → ℕ
    early = early_price book.needs prices place

    span : ℤ → ℕ
    span = span_rate book.needs place price

    pays : List PayCoefficients
    pays = pay_coefficients book.days line

    flows : ℕ → List Flow
    flows n = line_payments book.days line n

    encloses : (n : ℕ) → EnclosesUnits book.days line n
    encloses n = coefficients-enclose book.days line limits.settlement (inr security) n

    slack : All (λ (pay : PayCoefficients). pay.slack ≤ 500_000_000) pays
    slack = All-weaker (IsSized line.step) (λ (pay : PayCoefficients). pay.slack ≤ 500_000_000) (λ pay sized. sized.slack) pays (pays-sized book.days line limits.settlement (inr security))

    spanned : unit_worth span pays * fewer ≤ COEFFICIENT_SCALE * sum_by (at_rate span) (flows fewer) + paid_rounding span pays
    spanned = payments-close span fewer pays (flows fewer) (encloses fewer).pays (pays-close book.days line security) slack (omega (arith, parts, units-few book.days line units security few))

-- ---- what more units pay in the span alone
more-paid : (c x f d A p B n cost_d paid_x paid_f first second : ℕ) → A + p * B ≤ PRICE_SCALE * c → x ≡ f + d → COEFFICIENT_SCALE * (p * paid_x) ≤ p * B * x + second → p * B * f ≤ COEFFICIENT_SCALE * (p * paid_f) + first
    → first + second ≤ PRICE_SCALE * (n * 2_000_000_000) → c * d ≤ COEFFICIENT_SCALE * cost_d + COEFFICIENT_SCALE → p * paid_x ≤ p * paid_f + PRICE_SCALE * (cost_d + (1 + 2 * n))
more-paid c x f d A p B n cost_d paid_x paid_f first second fair parts most span rounds least =
    let under = mul-le-mul_right d fair in
    let split = ap (λ m. p * B * m) parts in
    omega (arith, under, split, most, span, rounds, least)

pub excess-worth : (book : BookContents) (prices : List ℕ) (place : ℕ) (line : Line) (units fewer more : ℕ) → IsBook book → length prices ≡ length book.needs → All (λ price. price ≤ PRICE_SCALE) prices → place < length book.needs
    → IsSecurityLine book.days line → IsPricedBy book prices place line → units ≤ line.most → units ≡ fewer + more
    → get_or prices place 0 * paid_in (span_of book.needs place) (line_payments book.days line units)
    ≤ get_or prices place 0 * paid_in (span_of book.needs place) (line_payments book.days line fewer) + PRICE_SCALE * (line_cost line more + (1 + 2 * length (pay_coefficients book.days line)))
excess-worth book prices place line units fewer more limits same small within security priced few parts =
    more-paid (cost_coefficients line).low units fewer more (unit_worth (early_price book.needs prices place) pays) price (unit_paid_in (span_of book.needs place) pays) (length pays) (line_cost line more)
    (paid_in (span_of book.needs place) (flows units)) (paid_in (span_of book.needs place) (flows fewer)) (paid_rounding span pays) (half_rounding span pays)
    priced.fair parts
    (omega (arith, payments-most span units pays (flows units) (encloses units).pays slack, ap (λ m. m * units) (span-worth book.needs place price pays), span-paid book.needs place price (flows units)))
    (omega (
      arith,
      payments-close span fewer pays (flows fewer) (encloses fewer).pays (pays-close book.days line security) slack (omega (arith, parts, units-few book.days line units security few)),
      ap (λ m. m * fewer) (span-worth book.needs place price pays),
      span-paid book.needs place price (flows fewer),
    ))
    (both-roundings span pays (λ day. omega (arith, price-parts book.needs prices place day limits.needs.rising same within, price_on-within book.needs prices day small)))
    (cost-least book.days line more security (encloses more))
  where
    price : ℕ
    price = get_or prices place 0

    span : ℤ → ℕ
    span = span_rate book.needs place price

    pays : List PayCoefficients
    pays = pay_coefficients book.days line

    flows : ℕ → List Flow
    flows n = line_payments book.days line n

    encloses : (n : ℕ) → EnclosesUnits book.days line n
    encloses n = coefficients-enclose book.days line limits.settlement (inr security) n

    slack : All (λ (pay : PayCoefficients). pay.slack ≤ 500_000_000) pays
    slack = All-weaker (IsSized line.step) (λ (pay : PayCoefficients). pay.slack ≤ 500_000_000) (λ pay sized. sized.slack) pays (pays-sized book.days line limits.settlement (inr security))
