-- What a marketable Treasury note costs and pays. A buyer pays the price and the accrued interest: the half-coupon, by
-- the days elapsed of the days of its half-year (31 CFR part 356). Rounding to the cent is this project's own.
use Rattle.std.specs.Prelude.{ℕ, ◌+◌, ◌*◌, List, map, ℤ}
use Rattle.std.specs.Ordering.{int_eq}
use Rattle.escrow_units.specs.Interest.{earned_of, face_price_of}
use Rattle.escrow_units.specs.OpenDays.{Closings}
use Rattle.escrow_units.specs.Series.{dates_after_of, days_between_of, next_date_of, previous_date_of}
use Rattle.escrow_units.specs.declared.interest.Accrual.{Accrual}
use Rattle.escrow_units.specs.declared.security.StepRule.TheVariants as rule
use Rattle.payment_schedule.specs.Schedule.{due_on, half_year_accrual}
use Rattle.payment_schedule.specs.declared.schedule.ScheduledPayment.{ScheduledPayment}
use Rattle.market_notes.specs.declared.note.Note.{Note}

-- a note pays on the dates of its series after settlement
abbrev pub payment_dates : Note → List ℤ
payment_dates note = dates_after_of note.maturity rule.MonthEnd note.settle

-- the date of the series before its payments, which is the last up to settlement
abbrev pub previous_date : Note → ℤ
previous_date note = previous_date_of note.maturity rule.MonthEnd note.settle

-- the date of the series after that one, which is its first payment's
abbrev pub next_date : Note → ℤ
next_date note = next_date_of note.maturity rule.MonthEnd note.settle

-- the part of a year for which interest has been earned by settlement. A year is twice the half-year of settlement
abbrev pub accrual_of : Note → Accrual
accrual_of note = record {
  parts = days_between_of (previous_date note) note.settle;
  year = 2 * days_between_of (previous_date note) (next_date note);
}

-- the interest that a face has earned by settlement
unfoldable pub accrued_interest : Note → ℕ → ℕ
accrued_interest note face = earned_of face note.coupon.0 (accrual_of note).parts (accrual_of note).year

-- what a face of so many cents costs
abbrev pub cost_of : Note → ℕ → ℕ
cost_of note face = face_price_of face note.price.0 + accrued_interest note face

-- the payment of a date: half a year's interest, and the face at maturity
abbrev pub payment_on : Note → Closings → ℤ → ScheduledPayment
payment_on note closed date = due_on closed date half_year_accrual (int_eq date note.maturity)

-- the payments of a note by their terms, in order of date
unfoldable pub note_schedule : Note → Closings → List ScheduledPayment
note_schedule note closed = map (payment_on note closed) (payment_dates note)
