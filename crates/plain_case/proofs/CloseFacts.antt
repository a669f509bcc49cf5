-- The coefficients of what a line costs and pays lie close together, and so are what they enclose.
use Rattle.std.proofs.Common.{ℕ, ◌+◌, ◌*◌, ◌/◌, ◌^◌, ◌≤◌, List, [], ◌∷◌, get_or, length, ap, arith, ℤ, All}
use Rattle.std.proofs.lemmas.List.Elements.{All-head, All-map, All-tail}
use Rattle.std.proofs.lemmas.List.Sums.{sum_by-cons}
use Rattle.std.proofs.Math.Nat.{mul-le-mul_left, mul-le-mul_right}
use Rattle.std.specs.Int.{div_ceil}
use Rattle.std.specs.List.{AllZip, sum_by}
use Rattle.escrow_units.specs.declared.interest.Accrual.{Accrual}
use Rattle.escrow_units.specs.declared.security.Flow.{Flow}
use Rattle.day_sums.proofs.RateFacts.{at_rate}
use Rattle.market_notes.specs.NoteFlows as notes
use Rattle.offer_book.specs.Book.{IsSecurity, IsSecurityLine}
use Rattle.offer_book.specs.Coefficients.{EnclosesPayment, cost_coefficients, interest_high, interest_low, kind_costs, pay_by, pay_coefficients}
use Rattle.offer_book.specs.declared.coefficients.PayCoefficients.{PayCoefficients}
use Rattle.offer_book.specs.declared.coefficients.TheConstants.{COEFFICIENT_SCALE}
use Rattle.offer_book.specs.declared.line.Line.{Line}
use Rattle.offer_book.specs.declared.line.LineKind.{LineKind}
use Rattle.payment_schedule.specs.declared.schedule.ScheduledPayment.{ScheduledPayment}
use Rattle.offer_book.specs.Schedule.{kind_rate, schedule_of}
use Rattle.offer_book.specs.declared.line.LineKind.TheVariants.{Cash, Market, Security}
use Rattle.proof_tree.specs.declared.prices.TheConstants.{PRICE_SCALE}
use Rattle.offer_book.specs.declared.payment_days.PaymentDays.{PaymentDays}

-- ---- a quotient rounded up is at most one more than rounded down
ceil-next : (a b : ℕ) → div_ceil a b ≤ a / b + 1
ceil-next a b = omega arith

interest-next : (step rate : ℕ) (accrual : Accrual) → interest_high step rate accrual ≤ interest_low step rate accrual + 1
interest-next step rate accrual = ceil-next (COEFFICIENT_SCALE * (step * rate * accrual.parts)) (100_000 * accrual.year)

-- ---- what a unit pays
abbrev pub IsClose : PayCoefficients → Type 0
IsClose pay = pay.high ≤ pay.low + 1

pay-close : (rate step : ℕ) (payment : ScheduledPayment) → IsClose (pay_by rate step payment)
pay-close rate step payment = omega (arith, interest-next step rate payment.accrual)

pub pays-close : (days : PaymentDays) (line : Line) → IsSecurityLine days line → All IsClose (pay_coefficients days line)
pays-close days line security =
    All-map IsClose (pay_by (kind_rate line.kind) line.step) (schedule_of days line) (λ k d few. pay-close (kind_rate line.kind) line.step (get_or (schedule_of days line) k d))

-- ---- what a unit costs
cost_kind-close : (days : PaymentDays) (kind : LineKind) (step : ℕ) → IsSecurity days kind → (kind_costs kind step).high ≤ (kind_costs kind step).low + 2
cost_kind-close days Cash step security = absurd security
cost_kind-close days (Security security) step keeps = omega arith
cost_kind-close days (Market note) step keeps =
    omega (arith, ceil-next (COEFFICIENT_SCALE * (step * note.price.0)) (10 ^ 10), interest-next step note.coupon.0 (notes.accrual_of note))

pub cost-close : (days : PaymentDays) (line : Line) → IsSecurityLine days line → (cost_coefficients line).high ≤ (cost_coefficients line).low + 2
cost-close days line security = cost_kind-close days line.kind line.step security.security

-- ---- sums of payments at a rate for each day
-- a cent and a half for each payment, at its rate
abbrev pub paid_rounding : (ℤ → ℕ) → List PayCoefficients → ℕ
paid_rounding rate pays = sum_by (λ pay. rate pay.day * 1_500_000_000) pays

abbrev pub unit_worth : (ℤ → ℕ) → List PayCoefficients → ℕ
unit_worth rate pays = sum_by (λ pay. rate pay.day * pay.high) pays

payment-close : (rate : ℤ → ℕ) (units : ℕ) (pay : PayCoefficients) (flow : Flow) → EnclosesPayment units pay flow → IsClose pay → pay.slack ≤ 500_000_000 → units ≤ COEFFICIENT_SCALE
    → rate pay.day * pay.high * units ≤ COEFFICIENT_SCALE * at_rate rate flow + rate pay.day * 1_500_000_000
payment-close rate units pay flow encloses close slack few =
    let high = mul-le-mul_right units close in
    let one : pay.high * units ≤ COEFFICIENT_SCALE * flow.cents.0 + 1_500_000_000 = omega (arith, high, encloses.amount.least, slack, few) in
    let rated = mul-le-mul_left (rate pay.day) one in
    let same = ap (λ day. rate day * flow.cents.0) encloses.day in
    omega (arith, rated, same)

pub payments-close : (rate : ℤ → ℕ) (units : ℕ) (pays : List PayCoefficients) (flows : List Flow) → AllZip (EnclosesPayment units) pays flows → All IsClose pays → All (λ pay. pay.slack ≤ 500_000_000) pays
    → units ≤ COEFFICIENT_SCALE → unit_worth rate pays * units ≤ COEFFICIENT_SCALE * sum_by (at_rate rate) flows + paid_rounding rate pays
payments-close rate units [] [] all close slack few = omega arith
payments-close rate units [] (flow ∷ flows) all close slack few = absurd all
payments-close rate units (pay ∷ pays) [] all close slack few = absurd all
payments-close rate units (pay ∷ pays) (flow ∷ flows) all close slack few =
    let first = payment-close rate units pay flow all.0 (All-head IsClose pay pays close) (All-head (λ (p : PayCoefficients). p.slack ≤ 500_000_000) pay pays slack) few in
    let rest = payments-close rate units pays flows all.1 (All-tail IsClose pay pays close) (All-tail (λ (p : PayCoefficients). p.slack ≤ 500_000_000) pay pays slack) few in
    omega (
      arith,
      first,
      rest,
      ap (λ n. n * units) (sum_by-cons (λ (p : PayCoefficients). rate p.day * p.high) pay pays),
      sum_by-cons (λ (p : PayCoefficients). rate p.day * 1_500_000_000) pay pays,
      sum_by-cons (at_rate rate) flow flows,
    )

-- half a cent for each payment, at its rate
abbrev pub half_rounding : (ℤ → ℕ) → List PayCoefficients → ℕ
half_rounding rate pays = sum_by (λ pay. rate pay.day * 500_000_000) pays

payment-most : (rate : ℤ → ℕ) (units : ℕ) (pay : PayCoefficients) (flow : Flow) → EnclosesPayment units pay flow → pay.slack ≤ 500_000_000
    → COEFFICIENT_SCALE * at_rate rate flow ≤ rate pay.day * pay.high * units + rate pay.day * 500_000_000
payment-most rate units pay flow encloses slack =
    let one : COEFFICIENT_SCALE * flow.cents.0 ≤ pay.high * units + 500_000_000 = omega (arith, encloses.amount.most, slack) in
    let rated = mul-le-mul_left (rate pay.day) one in
    let same = ap (λ day. rate day * flow.cents.0) encloses.day in
    omega (arith, rated, same)

pub payments-most : (rate : ℤ → ℕ) (units : ℕ) (pays : List PayCoefficients) (flows : List Flow) → AllZip (EnclosesPayment units) pays flows → All (λ pay. pay.slack ≤ 500_000_000) pays
    → COEFFICIENT_SCALE * sum_by (at_rate rate) flows ≤ unit_worth rate pays * units + half_rounding rate pays
payments-most rate units [] [] all slack = omega arith
payments-most rate units [] (flow ∷ flows) all slack = absurd all
payments-most rate units (pay ∷ pays) [] all slack = absurd all
payments-most rate units (pay ∷ pays) (flow ∷ flows) all slack =
    let first = payment-most rate units pay flow all.0 (All-head (λ (p : PayCoefficients). p.slack ≤ 500_000_000) pay pays slack) in
    let rest = payments-most rate units pays flows all.1 (All-tail (λ (p : PayCoefficients). p.slack ≤ 500_000_000) pay pays slack) in
    omega (
      arith,
      first,
      rest,
      ap (λ n. n * units) (sum_by-cons (λ (p : PayCoefficients). rate p.day * p.high) pay pays),
      sum_by-cons (λ (p : PayCoefficients). rate p.day * 500_000_000) pay pays,
      sum_by-cons (at_rate rate) flow flows,
    )

-- both at a rate of at most 1: two cents for each payment
pub both-roundings : (rate : ℤ → ℕ) (pays : List PayCoefficients) → ((day : ℤ) → rate day ≤ PRICE_SCALE) → paid_rounding rate pays + half_rounding rate pays ≤ PRICE_SCALE * (length pays * 2_000_000_000)
both-roundings rate [] small = omega arith
both-roundings rate (pay ∷ pays) small =
    omega (
      arith,
      small pay.day,
      both-roundings rate pays small,
      sum_by-cons (λ (p : PayCoefficients). rate p.day * 1_500_000_000) pay pays,
      sum_by-cons (λ (p : PayCoefficients). rate p.day * 500_000_000) pay pays,
    )
