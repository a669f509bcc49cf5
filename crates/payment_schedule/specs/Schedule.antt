-- Payments by their terms, for which the calendar is read once: when each falls, for which part of a year it bears interest,
-- and whether the principal is paid with it. What an amount at par pays is its schedule, seen by a flow. Interest is rounded
-- to the cent once for each payment (this project's own).
use Rattle.std.specs.Prelude.{ℕ, ◌+◌, ◌*◌, ◌<◌, ◌≤◌, Bool, if◌then◌else◌, ℤ}
use Rattle.escrow_units.specs.Interest.{earned_of}
use Rattle.escrow_units.specs.OpenDays.{Closings, open_day}
use Rattle.escrow_units.specs.declared.interest.Accrual.{Accrual}
use Rattle.payment_schedule.specs.declared.schedule.ScheduledPayment.{ScheduledPayment}
use Rattle.escrow_units.specs.declared.security.Flow.{Flow}

-- the part of a year that the interest of a half-year is for
abbrev pub half_year_accrual : Accrual
half_year_accrual = record { parts = 1; year = 2 }

-- a security's payment of a date falls on the open day of that date
abbrev pub due_on : Closings → ℤ → Accrual → Bool → ScheduledPayment
due_on closed date accrual principal = record { day = open_day closed date; accrual = accrual; principal = principal }

-- the interest that an amount at par earns to a payment, at a rate
abbrev pub interest_by : ℕ → ℕ → ScheduledPayment → ℕ
interest_by rate amount payment = earned_of amount rate payment.accrual.parts payment.accrual.year

-- what is paid back of an amount at par with a payment: all of it, or nothing
abbrev pub principal_by : ScheduledPayment → ℕ → ℕ
principal_by payment amount = if payment.principal then amount else 0

-- what an amount at par pays: interest and principal
abbrev pub flow_by : ℕ → ℕ → ScheduledPayment → Flow
flow_by rate amount payment =
    record { day = payment.day; cents = record { 0 = interest_by rate amount payment + principal_by payment amount } }

-- an accrual is of at most sixteen months
pub record IsShort (accrual : Accrual) : Type 0 where
  pub year : 0 < accrual.year
  pub parts : 3 * accrual.parts ≤ 4 * accrual.year
  pub days : accrual.parts ≤ 732
