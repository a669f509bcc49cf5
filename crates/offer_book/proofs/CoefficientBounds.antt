-- How great coefficients can be: with units up to a line's most, all that they stand for is at most 10^22 scaled cents.
use Rattle.std.proofs.Common.{◌≡◌, ℕ, min, zero, suc, ◌+◌, ◌*◌, ◌/◌, ◌%◌, ◌^◌, ◌≤◌, sym, subst, arith, inl, inr, List, [], ◌∷◌, get_or, length, Bool, true, false, if◌then◌else◌}
use Rattle.std.specs.Prelude.{All, sum_by, ◌==◌}
use Rattle.std.specs.Int.{div_ceil}
use Rattle.std.specs.List.{AllZip}
use Rattle.std.proofs.Math.Nat.{mul-le-mul, mul-le-mul_right}
use Rattle.std.proofs.lemmas.List.Elements.{All-head, All-map, All-tail}
use Rattle.std.proofs.lemmas.List.{length-map}
use Rattle.std.proofs.lemmas.List.Sums.{sum_by-cons}
use Rattle.escrow_units.specs.SlgsTerms.{IsSettlement}
use Rattle.escrow_units.specs.declared.security.Flow.{Flow}
use Rattle.payment_schedule.specs.Schedule.{flow_by}
use Rattle.payment_schedule.specs.declared.schedule.ScheduledPayment.{ScheduledPayment}
use Rattle.market_notes.specs.NoteFlows as notes
use Rattle.offer_book.specs.Book.{IsLine, IsSecurityLine}
use Rattle.offer_book.specs.Coefficients.{EnclosesPayment, cost_coefficients, interest_slack, kind_costs, pay_by, pay_coefficients}
use Rattle.offer_book.specs.Portfolio.{line_payments, par}
use Rattle.offer_book.specs.Schedule.{kind_rate, schedule_of}
use Rattle.offer_book.specs.declared.coefficients.PayCoefficients.{PayCoefficients}
use Rattle.offer_book.specs.declared.coefficients.TheConstants.{COEFFICIENT_SCALE}
use Rattle.offer_book.specs.declared.line.Line.{Line}
use Rattle.offer_book.specs.declared.line.LineKind.{LineKind}
use Rattle.offer_book.specs.declared.line.LineKind.TheVariants.{Cash, Market, Security}
use Rattle.offer_book.proofs.CoefficientFacts.{coefficients-enclose}
use Rattle.offer_book.proofs.LineFacts.{line_payments-little, schedule-few, security-at_most}
use Rattle.offer_book.proofs.ScheduleFacts.{cash-coefficients}
use Rattle.offer_book.specs.declared.payment_days.PaymentDays.{PaymentDays}

-- a quotient rounded up is at most one more than the one rounded down
ceiling-close : (a b : ℕ) → div_ceil a b ≤ a / b + 1
ceiling-close a b = at (a % b)
  where
    at : (r : ℕ) → a / b + min 1 r ≤ a / b + 1
    at zero = omega arith
    at (suc r) = omega arith

ceiling-least : (a b : ℕ) → a / b ≤ div_ceil a b
ceiling-least a b = omega arith

-- coefficients of one payment are apart by at most one, and the slack is at most half a cent
pub record IsClose (pay : PayCoefficients) : Type 0 where
  pub ordered : pay.low ≤ pay.high
  pub close : pay.high ≤ pay.low + 1
  pub slack : pay.slack ≤ 500_000_000

slack-small : (rate : ℕ) → interest_slack rate ≤ 500_000_000
slack-small rate = at (rate == 0)
  where
    at : (t : Bool) → (if t then 0 else COEFFICIENT_SCALE / 2) ≤ 500_000_000
    at true = omega arith
    at false = omega arith

pub pay-close : (rate step : ℕ) (payment : ScheduledPayment) → IsClose (pay_by rate step payment)
pay-close rate step payment =
    let a = COEFFICIENT_SCALE * (step * rate * payment.accrual.parts) in
    let b = 100_000 * payment.accrual.year in
    record {
      ordered = omega (arith, ceiling-least a b);
      close = omega (arith, ceiling-close a b);
      slack = slack-small rate;
    }

pub pays-close : (days : PaymentDays) (line : Line) → All IsClose (pay_coefficients days line)
pays-close days line = All-map IsClose (pay_by (kind_rate line.kind) line.step) (schedule_of days line) (λ k d lt. pay-close (kind_rate line.kind) line.step (get_or (schedule_of days line) k d))

-- coefficients of a cost are apart by at most two, and the slack is at most a cent
pub record IsCostClose (line : Line) : Type 0 where
  pub ordered : (cost_coefficients line).low ≤ (cost_coefficients line).high
  pub close : (cost_coefficients line).high ≤ (cost_coefficients line).low + 2
  pub slack : (cost_coefficients line).slack ≤ COEFFICIENT_SCALE

pub cost-close : (line : Line) → IsCostClose line
cost-close line = record { ordered = low line.kind; close = high line.kind; slack = slack line.kind }
  where
    low : (kind : LineKind) → (kind_costs kind line.step).low ≤ (kind_costs kind line.step).high
    low Cash = omega arith
    low (Security security) = omega arith
    low (Market note) =
        let accrual = notes.accrual_of note in
        omega (
          arith,
          ceiling-least (COEFFICIENT_SCALE * (line.step * note.price.0)) (10 ^ 10),
          ceiling-least (COEFFICIENT_SCALE * (line.step * note.coupon.0 * accrual.parts)) (100_000 * accrual.year),
        )

    high : (kind : LineKind) → (kind_costs kind line.step).high ≤ (kind_costs kind line.step).low + 2
    high Cash = omega arith
    high (Security security) = omega arith
    high (Market note) =
        let accrual = notes.accrual_of note in
        omega (
          arith,
          ceiling-close (COEFFICIENT_SCALE * (line.step * note.price.0)) (10 ^ 10),
          ceiling-close (COEFFICIENT_SCALE * (line.step * note.coupon.0 * accrual.parts)) (100_000 * accrual.year),
        )

    slack : (kind : LineKind) → (kind_costs kind line.step).slack ≤ COEFFICIENT_SCALE
    slack Cash = omega arith
    slack (Security security) = omega arith
    slack (Market note) = omega arith

-- units of a line of securities are at most 10^9
pub units-few : (days : PaymentDays) (line : Line) (units : ℕ) → IsSecurityLine days line → units ≤ line.most → units ≤ 10 ^ 9
units-few days line units security few = omega (arith, mul-le-mul few security.step_at_least, security.cap)

-- what the upper side of a cost comes to
pub cost-high_small : (days : PaymentDays) (line : Line) (units : ℕ) → IsSettlement days.settle → IsLine days line → units ≤ line.most
    → (cost_coefficients line).high * units + (cost_coefficients line).slack ≤ 10 ^ 22
cost-high_small days line units h is_line few = elim is_line [
  | inl cash ↦ of_cash line.kind cash.kind cash.step (omega (arith, few, cash.most))
  | inr own ↦
      let enclosed = (coefficients-enclose days line h (inr own) units).costs in
      let close = cost-close line in
      let high : (cost_coefficients line).high * units ≤ ((cost_coefficients line).low + 2) * units = mul-le-mul_right units close.close in
      omega (arith, high, close.slack, enclosed.least, security-at_most days line units own few, units-few days line units own few)
]
  where
    of_cash : (kind : LineKind) → kind ≡ Cash → line.step ≡ 1 → units ≤ 10 ^ 13 → (kind_costs kind line.step).high * units + (kind_costs kind line.step).slack ≤ 10 ^ 22
    of_cash kind e one few = rw (e, one) (omega (arith, few))

-- and those of its payments together
high_of : ℕ → PayCoefficients → ℕ
high_of units pay = pay.high * units + pay.slack

cents_of : Flow → ℕ
cents_of flow = flow.cents.0

one-high : (units : ℕ) (pay : PayCoefficients) (flow : Flow) → EnclosesPayment units pay flow → IsClose pay → high_of units pay ≤ COEFFICIENT_SCALE * flow.cents.0 + (COEFFICIENT_SCALE + units)
unfolding high_of
one-high units pay flow enclosed close =
    let high : pay.high * units ≤ (pay.low + 1) * units = mul-le-mul_right units close.close in
    omega (arith, high, close.slack, enclosed.amount.least)

sum-more : (scale units count high cents highs sum : ℕ) → high ≤ scale * cents + (scale + units) → highs ≤ scale * sum + count * (scale + units)
    → high + highs ≤ scale * (cents + sum) + suc count * (scale + units)
sum-more scale units count high cents highs sum one rest = omega (arith, one, rest)

sum-high : (units : ℕ) (pays : List PayCoefficients) (flows : List Flow) → AllZip (EnclosesPayment units) pays flows → All IsClose pays
    → sum_by (high_of units) pays ≤ COEFFICIENT_SCALE * sum_by cents_of flows + length flows * (COEFFICIENT_SCALE + units)
unfolding cents_of
sum-high units [] [] enclosed close = omega arith
sum-high units [] (flow ∷ flows) enclosed close = absurd enclosed
sum-high units (pay ∷ pays) [] enclosed close = absurd enclosed
sum-high units (pay ∷ pays) (flow ∷ flows) enclosed close =
    let first = one-high units pay flow enclosed.0 (All-head IsClose pay pays close) in
    let rest = sum-high units pays flows enclosed.1 (All-tail IsClose pay pays close) in
    rw (sum_by-cons (high_of units) pay pays, sum_by-cons cents_of flow flows)
    (sum-more COEFFICIENT_SCALE units (length flows) (high_of units pay) (cents_of flow) (sum_by (high_of units) pays) (sum_by cents_of flows) first rest)

pub pays-high_little : (days : PaymentDays) (line : Line) (units : ℕ) → IsSettlement days.settle → IsSecurityLine days line → units ≤ line.most
    → sum_by (λ pay. pay.high * units + pay.slack) (pay_coefficients days line) ≤ 14 * 10 ^ 20
unfolding high_of cents_of
pays-high_little days line units h own few =
    let enclosed = (coefficients-enclose days line h (inr own) units).pays in
    let sum = sum-high units (pay_coefficients days line) (line_payments days line units) enclosed (pays-close days line) in
    let few_flows : length (line_payments days line units) ≤ 84 = omega (arith, length-map (schedule_of days line) (flow_by (kind_rate line.kind) (par line units)), schedule-few days line h own) in
    let count = mul-le-mul_right (COEFFICIENT_SCALE + units) few_flows in
    omega (arith, sum, count, line_payments-little days line units h own few, units-few days line units own few)

pub pays-high_small : (days : PaymentDays) (line : Line) (units : ℕ) → IsSettlement days.settle → IsLine days line → units ≤ line.most
    → sum_by (λ pay. pay.high * units + pay.slack) (pay_coefficients days line) ≤ 10 ^ 22
pays-high_small days line units h is_line few = elim is_line [
  | inl cash ↦ subst (λ (pays : List PayCoefficients). sum_by (λ pay. pay.high * units + pay.slack) pays ≤ 10 ^ 22) (sym (cash-coefficients days line cash.kind)) (of_cash line.step cash.step (omega (arith, few, cash.most)))
  | inr own ↦ omega (arith, pays-high_little days line units h own few)
]
  where
    of_cash : (step : ℕ) → step ≡ 1 → units ≤ 10 ^ 13
        → sum_by (λ (pay : PayCoefficients). pay.high * units + pay.slack) (record { day = days.settle; low = COEFFICIENT_SCALE * step; high = COEFFICIENT_SCALE * step; slack = 0 } ∷ []) ≤ 10 ^ 22
    of_cash step one few = rw one (omega (arith, few))
