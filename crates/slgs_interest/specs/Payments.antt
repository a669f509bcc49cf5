-- The payments of SLGS time deposit securities. Kinds and semiannual interest are those of 31 CFR part 344; the basis of a
-- certificate, the interest of short and long first periods and the rounding of each payment are this project's own.
use Rattle.std.specs.Prelude.{ℕ, zero, suc, ◌+◌, ◌*◌, ◌==◌, Bool, false, ◌&&◌, ◌||◌, if◌then◌else◌, List, map, filter, length, ℤ, pos, ◌+ℤ◌, int_lt, int_le}
use Rattle.std.specs.Ordering.{int_eq}
use Rattle.escrow_units.specs.Calendar.{date_of, half_back_of}
use Rattle.escrow_units.specs.OpenDays.{Closings}
use Rattle.escrow_units.specs.Series.{days_between_of, series_of}
use Rattle.escrow_units.specs.declared.interest.Accrual.{Accrual}
use Rattle.escrow_units.specs.declared.security.Slgs.{Slgs}
use Rattle.escrow_units.specs.declared.security.SlgsKind.{SlgsKind}
use Rattle.escrow_units.specs.declared.security.SlgsKind.TheVariants as kind
use Rattle.escrow_units.specs.declared.security.StepRule.TheVariants as rule
use Rattle.payment_schedule.specs.Schedule.{due_on, half_year_accrual}
use Rattle.payment_schedule.specs.declared.schedule.ScheduledPayment.{ScheduledPayment}

-- a day, by its number, is a 29 February
abbrev pub is_leap_day : ℤ → Bool
is_leap_day day = ((date_of day).month == 2) && ((date_of day).day == 29)

-- whether a 29 February is among so many days after a day
unfoldable pub has_leap_day : ℤ → ℕ → Bool
has_leap_day day zero = false
has_leap_day day (suc n) = is_leap_day (day +ℤ pos (n + 1)) || has_leap_day day n

-- the days of a certificate's year: 366 where a 29 February lies after settlement and not after maturity
abbrev pub basis_of : ℤ → ℤ → ℕ
basis_of settle maturity = if has_leap_day settle (days_between_of settle maturity) then 366 else 365

-- a security pays on the dates of its series that are not before its first payment date
unfoldable pub payment_dates : Slgs → List ℤ
payment_dates slgs = filter (int_le slgs.first) (series_of slgs.maturity rule.SameDay)

-- the date of the series before the first payment, and the one before that
abbrev pub before_first : Slgs → ℤ
before_first slgs = half_back_of slgs.maturity (length (payment_dates slgs)) rule.SameDay

-- the date of the series two before the first payment
abbrev pub second_before_first : Slgs → ℤ
second_before_first slgs = half_back_of slgs.maturity (length (payment_dates slgs) + 1) rule.SameDay

-- a certificate earns interest for its days of a year of 365 or 366
abbrev pub certificate_accrual : Slgs → Accrual
certificate_accrual slgs =
    record { parts = days_between_of slgs.settle slgs.maturity; year = basis_of slgs.settle slgs.maturity }

-- the accrual to a first payment date, where `before` is the date of the series before it and `second` the one before that:
-- a short period earns its days of a half-year, and a long one a half-year and its days of the half-year before that. A year
-- is twice that half-year
abbrev pub accrual_to : ℤ → ℤ → ℤ → ℤ → Accrual
accrual_to settle first before second =
    if int_lt settle before
    then record { parts = days_between_of second before + days_between_of settle before; year = 2 * days_between_of second before }
    else record { parts = days_between_of settle first; year = 2 * days_between_of before first }

-- the first accrual of a note or bond
abbrev pub first_period_accrual : Slgs → Accrual
first_period_accrual slgs = accrual_to slgs.settle slgs.first (before_first slgs) (second_before_first slgs)

-- the accrual that a first payment is of: a certificate's, or that of a note or bond
abbrev pub accrual_of_kind : SlgsKind → Slgs → Accrual
accrual_of_kind kind.Certificate slgs = certificate_accrual slgs
accrual_of_kind kind.Note slgs = first_period_accrual slgs
accrual_of_kind kind.Bond slgs = first_period_accrual slgs

-- the part of a year that the first payment's interest is for
unfoldable pub first_accrual_of : Slgs → Accrual
first_accrual_of slgs = accrual_of_kind slgs.kind slgs

-- the payment of a date: its interest, the first or else half a year's, and the face at maturity
abbrev pub payment_on : Slgs → Closings → ℤ → ScheduledPayment
payment_on slgs closed date =
    due_on closed date (if int_eq date slgs.first then first_accrual_of slgs else half_year_accrual) (int_eq date slgs.maturity)

-- the payments of a security by their terms, in order of date
unfoldable pub slgs_schedule : Slgs → Closings → List ScheduledPayment
slgs_schedule slgs closed = map (payment_on slgs closed) (payment_dates slgs)
