-- Coefficients of a line: for one unit, what it costs and pays, times a scale, rounded outward to whole numbers.
-- They are this project's own. Amounts are rounded to the cent over all units at once, so what units cost and pay isn't a
-- multiple of what one unit does; the coefficients and a slack enclose it for every number of units.
use Rattle.std.specs.Prelude.{◌≡◌, ℕ, ◌+◌, ◌*◌, ◌/◌, ◌^◌, ◌≤◌, ◌==◌, if◌then◌else◌, List, map}
use Rattle.std.specs.Int.{div_ceil}
use Rattle.std.specs.List.{AllZip}
use Rattle.escrow_units.specs.SlgsTerms.{IsSettlement}
use Rattle.escrow_units.specs.declared.interest.Accrual.{Accrual}
use Rattle.escrow_units.specs.declared.security.Flow.{Flow}
use Rattle.payment_schedule.specs.Schedule.{principal_by}
use Rattle.payment_schedule.specs.declared.schedule.ScheduledPayment.{ScheduledPayment}
use Rattle.market_notes.specs.NoteFlows as notes
use Rattle.offer_book.specs.Book.{IsLine}
use Rattle.offer_book.specs.Portfolio.{line_cost, line_payments}
use Rattle.offer_book.specs.Schedule.{kind_rate, schedule_of}
use Rattle.offer_book.specs.declared.coefficients.PayCoefficients.{PayCoefficients}
use Rattle.offer_book.specs.declared.coefficients.TheConstants.{COEFFICIENT_SCALE}
use Rattle.offer_book.specs.declared.line.Line.{Line}
use Rattle.offer_book.specs.declared.line.LineKind.{LineKind}
use Rattle.offer_book.specs.declared.line.LineKind.TheVariants.{Cash, Market, Security}
use Rattle.offer_book.specs.declared.payment_days.PaymentDays.{PaymentDays}

-- coefficients of one amount: at x units, the scale times the amount lies from low * x - slack to high * x + slack
pub record Enclosure : Type 0 where
  pub low : ℕ
  pub high : ℕ
  pub slack : ℕ

-- an amount of cents at x units is enclosed
pub record Encloses (within : Enclosure) (units cents : ℕ) : Type 0 where
  pub least : within.low * units ≤ COEFFICIENT_SCALE * cents + within.slack
  pub most : COEFFICIENT_SCALE * cents ≤ within.high * units + within.slack

-- the scale times the interest of an accrual on a face, rounded down and up
abbrev pub interest_low : ℕ → ℕ → Accrual → ℕ
interest_low face rate accrual = COEFFICIENT_SCALE * (face * rate * accrual.parts) / (100_000 * accrual.year)

-- interest of a part of a year, scaled and rounded up, with half a cent more where there is a rate
abbrev pub interest_high : ℕ → ℕ → Accrual → ℕ
interest_high face rate accrual = div_ceil (COEFFICIENT_SCALE * (face * rate * accrual.parts)) (100_000 * accrual.year)

-- interest is rounded to the cent once, by at most half a cent; where there is no rate there is none
abbrev pub interest_slack : ℕ → ℕ
interest_slack rate = if rate == 0 then 0 else COEFFICIENT_SCALE / 2

-- what a step pays by a payment: its interest, and the principal exactly
abbrev pub pay_by : ℕ → ℕ → ScheduledPayment → PayCoefficients
pay_by rate step payment = record {
  day = payment.day;
  low = interest_low step rate payment.accrual + COEFFICIENT_SCALE * principal_by payment step;
  high = interest_high step rate payment.accrual + COEFFICIENT_SCALE * principal_by payment step;
  slack = interest_slack rate;
}

-- the coefficients of what a step of a kind costs: opening cash and a SLGS security cost their amount exactly, and a note
-- its price and its accrued interest, each of which is rounded to the cent once
abbrev pub kind_costs : LineKind → ℕ → Enclosure
kind_costs Cash step = record { low = COEFFICIENT_SCALE * step; high = COEFFICIENT_SCALE * step; slack = 0 }
kind_costs (Security security) step = record { low = COEFFICIENT_SCALE * step; high = COEFFICIENT_SCALE * step; slack = 0 }
kind_costs (Market note) step = record {
  low = COEFFICIENT_SCALE * (step * note.price.0) / 10 ^ 10 + interest_low step note.coupon.0 (notes.accrual_of note);
  high = div_ceil (COEFFICIENT_SCALE * (step * note.price.0)) (10 ^ 10) + interest_high step note.coupon.0 (notes.accrual_of note);
  slack = COEFFICIENT_SCALE;
}

-- the coefficients of what a line costs
abbrev pub cost_coefficients : Line → Enclosure
cost_coefficients line = kind_costs line.kind line.step

-- and of what it pays, in order of date: what one unit comes to at par, seen so by the schedule of the line
abbrev pub pay_coefficients : PaymentDays → Line → List PayCoefficients
pay_coefficients days line = map (pay_by (kind_rate line.kind) line.step) (schedule_of days line)

-- an amount of cents that is paid is enclosed, on the same day
pub record EnclosesPayment (units : ℕ) (pay : PayCoefficients) (flow : Flow) : Type 0 where
  pub day : pay.day ≡ flow.day
  pub amount : Encloses (record { low = pay.low; high = pay.high; slack = pay.slack }) units flow.cents.0

-- for every number of units, the coefficients of a line enclose what they cost and each payment
pub record EnclosesUnits (days : PaymentDays) (line : Line) (units : ℕ) : Type 0 where
  pub costs : Encloses (cost_coefficients line) units (line_cost line units)
  pub pays : AllZip (EnclosesPayment units) (pay_coefficients days line) (line_payments days line units)

abbrev pub CoefficientsEnclose : Type 0
CoefficientsEnclose = (days : PaymentDays) (line : Line) → IsSettlement days.settle → IsLine days line → (units : ℕ) → EnclosesUnits days line units
