-- The schedule of a line: its payments by their terms. What units of a line pay, and its coefficients, are this schedule, seen
-- by a flow and by enclosures.
use Rattle.std.specs.Prelude.{ℕ, true, List, [], ◌∷◌, ℤ}
use Rattle.escrow_units.specs.declared.interest.Accrual.{Accrual}
use Rattle.payment_schedule.specs.Schedule.{half_year_accrual}
use Rattle.payment_schedule.specs.declared.schedule.ScheduledPayment.{ScheduledPayment}
use Rattle.market_notes.specs.NoteFlows.{accrual_of, note_schedule}
use Rattle.slgs_interest.specs.Payments.{slgs_schedule}
use Rattle.offer_book.specs.declared.line.Line.{Line}
use Rattle.offer_book.specs.declared.payment_days.PaymentDays.{PaymentDays}
use Rattle.offer_book.specs.declared.line.LineKind.{LineKind}
use Rattle.offer_book.specs.declared.line.LineKind.TheVariants.{Cash, Market, Security}

-- opening cash bears no interest, a SLGS security its rate, and a note its coupon
abbrev pub kind_rate : LineKind → ℕ
kind_rate Cash = 0
kind_rate (Security security) = security.rate.0
kind_rate (Market note) = note.coupon.0

-- opening cash is there on the settlement day
abbrev pub cash_due : ℤ → ScheduledPayment
cash_due settle = record { day = settle; accrual = half_year_accrual; principal = true }

-- when a kind pays, for which part of a year it bears interest, and when its principal is paid: opening cash is there on the
-- settlement day, and a SLGS security and a note pay by their terms, on open days
abbrev pub kind_schedule : PaymentDays → LineKind → List ScheduledPayment
kind_schedule days Cash = cash_due days.settle ∷ []
kind_schedule days (Security security) = slgs_schedule security days.closed
kind_schedule days (Market note) = note_schedule note days.closed

-- the payments of a line by their terms, in order of date
abbrev pub schedule_of : PaymentDays → Line → List ScheduledPayment
schedule_of days line = kind_schedule days line.kind

-- the part of a year for which a buyer pays the interest that has accrued: none but that of a note
abbrev pub kind_accrued : LineKind → Accrual
kind_accrued Cash = record { parts = 0; year = 1 }
kind_accrued (Security security) = record { parts = 0; year = 1 }
kind_accrued (Market note) = accrual_of note
