-- How large the parts of a column are.
use Rattle.std.proofs.Common.{◌≡◌, ℕ, ◌*◌, ◌≤◌, ap, arith}
use Rattle.std.proofs.Math.Nat.{mul-le-mul_left, mul-le-mul_right}
use Rattle.escrow_units.proofs.RoundingFacts.{near-at-most}
use Rattle.escrow_units.specs.Interest.{earned_of}
use Rattle.escrow_units.specs.declared.interest.Accrual.{Accrual}
use Rattle.offer_book.specs.Book.{IsLine}
use Rattle.offer_book.specs.Coefficients.{Enclosure, cost_coefficients, pay_by}
use Rattle.offer_book.specs.Schedule.{kind_rate}
use Rattle.offer_book.specs.declared.line.Line.{Line}
use Rattle.payment_schedule.specs.Schedule.{IsShort, flow_by}
use Rattle.payment_schedule.specs.declared.schedule.ScheduledPayment.{ScheduledPayment}
use Rattle.dual_bound.specs.Columns.{IsSmallHead, IsSmallPay}
use Rattle.dual_bound.specs.declared.column.Column.{Column}
use Rattle.dual_bound.proofs.Sizes.{cost-sized, pay-sized, principal-little, step-small}
use Rattle.offer_book.proofs.LineFacts.{rate-low}
use Rattle.offer_book.specs.declared.payment_days.PaymentDays.{PaymentDays}

-- the coefficients of a payment
pub pay-small : (days : PaymentDays) (line : Line) (payment : ScheduledPayment) → IsLine days line → IsShort payment.accrual
    → IsSmallPay (pay_by (kind_rate line.kind) line.step payment)
pay-small days line payment is short =
    let sized = pay-sized (kind_rate line.kind) line.step payment (rate-low days line is) short in
    let step = step-small days line is in
    record { low = omega (arith, sized.low, step); high = omega (arith, sized.high, step); slack = omega (arith, sized.slack) }

-- interest of at most sixteen months is at most what bears it
pub earned-little : (amount rate : ℕ) (accrual : Accrual) → rate ≤ 30_000 → IsShort accrual → earned_of amount rate accrual.parts accrual.year ≤ amount
earned-little amount rate accrual low short =
    near-at-most (amount * rate * accrual.parts) (100_000 * accrual.year) amount (omega (arith, short.year))
    (omega (arith, within amount (rate * accrual.parts) accrual.year (bears-few rate accrual.parts accrual.year low short.parts)))
  where
    bears-few : (rate days year : ℕ) → rate ≤ 30_000 → 3 * days ≤ 4 * year → rate * days ≤ 100_000 * year
    bears-few rate days year low few = omega (arith, mul-le-mul_right days low)

    within : (amount bears year : ℕ) → bears ≤ 100_000 * year → amount * bears ≤ amount * (100_000 * year)
    within amount bears year le = mul-le-mul_left amount le

pub cents-little : (amount rate : ℕ) (payment : ScheduledPayment) → rate ≤ 30_000 → IsShort payment.accrual → (flow_by rate amount payment).cents.0 ≤ 2 * amount
cents-little amount rate payment low short = omega (arith, earned-little amount rate payment.accrual low short, principal-little payment amount)

-- what a column has before its payments
pub head-small : (days : PaymentDays) (line : Line) (column : Column) → IsLine days line
    → cost_coefficients line ≡ record { low = column.cost_low; high = column.cost_high; slack = column.cost_slack }
    → column.accrued.parts ≤ 184 → IsSmallPay column.regular → IsSmallHead column
head-small days line column is costs few regular =
    let sized = cost-sized days line is in
    let step = step-small days line is in
    record {
      cost_low = omega (arith, ap (λ (e : Enclosure). e.low) costs, sized.low, step);
      cost_high = omega (arith, ap (λ (e : Enclosure). e.high) costs, sized.high, step);
      cost_slack = omega (arith, ap (λ (e : Enclosure). e.slack) costs, sized.slack);
      accrued = few;
      regular = regular;
    }
