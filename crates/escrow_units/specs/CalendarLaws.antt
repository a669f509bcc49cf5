-- What the definitions of dates, series, years, indices and kinds mean.
use Rattle.std.specs.Prelude.{◌≡◌, ◌↔◌, ℕ, ◌+◌, ◌*◌, ◌<◌, ◌≤◌, min, IsTrue, List, Some, ℤ, pos, ◌+ℤ◌, ◌≤ℤ◌, ◌<ℤ◌}
use Rattle.jiff_core.specs.Calendar.{IsCivilDate, days_in_month}
use Rattle.escrow_units.specs.Calendar.{CivilDate, number_of, date_of, half_back_of, years_after_of, is_month_end, thirty_day_place_of, IsBaseDay}
use Rattle.escrow_units.specs.DateText.{IsFieldDay, day_of, day_text}
use Rattle.escrow_units.specs.DayNumber.{IsDayNumber}
use Rattle.escrow_units.specs.Series.{AreDatesAfter, IsLastBy, dates_after_of, previous_date_of}
use Rattle.escrow_units.specs.SlgsTerms.{IsOfKind, IsSettlement}
use Rattle.escrow_units.specs.declared.limits.TheConstants.{GREATEST_INDEX}
use Rattle.escrow_units.specs.declared.security.SlgsKind.{SlgsKind}
use Rattle.escrow_units.specs.declared.security.StepRule.{StepRule}
use Rattle.escrow_units.specs.declared.security.StepRule.TheVariants as rule

-- each day number is that of its date, which the calendar has
pub record IsDateOf (date : CivilDate) (n : ℤ) : Type 0 where
  pub civil : IsCivilDate date.year date.month date.day
  pub number : number_of date ≡ n

abbrev pub EachDayIsDated : Type 0
EachDayIsDated = (n : ℤ) → IsDayNumber n → IsDateOf (date_of n) n

-- and of no other date
abbrev pub DatesAreUnique : Type 0
DatesAreUnique = (n : ℤ) (date : CivilDate) → IsDayNumber n → IsDateOf date n → date_of n ≡ date

-- bytes spell a day number exactly where it is of the years 1900 to 2199 and they are its date's text
abbrev pub TextsSpellDays : Type 0
TextsSpellDays = (bytes : List ℕ) (n : ℤ) → (day_of bytes ≡ Some n) ↔ (IsFieldDay n × (bytes ≡ day_text n))

-- a series begins at maturity
abbrev pub SeriesStartsAtMaturity : Type 0
SeriesStartsAtMaturity = (maturity : ℤ) (rule : StepRule) → IsDayNumber maturity → half_back_of maturity 0 rule ≡ maturity

-- its dates strictly fall with the step
abbrev pub SeriesFalls : Type 0
SeriesFalls =
    (maturity : ℤ) (rule : StepRule) (j k : ℕ) → IsBaseDay maturity → j < k → k ≤ 84
    → half_back_of maturity k rule <ℤ half_back_of maturity j rule

-- consecutive dates are 181 to 184 days apart
pub record IsHalfYear (from to : ℤ) : Type 0 where
  pub least : (from +ℤ pos 181) ≤ℤ to
  pub most : to ≤ℤ (from +ℤ pos 184)

abbrev pub SeriesStepsByHalfYears : Type 0
SeriesStepsByHalfYears =
    (maturity : ℤ) (rule : StepRule) (k : ℕ) → IsBaseDay maturity → k < 84
    → IsHalfYear (half_back_of maturity (k + 1) rule) (half_back_of maturity k rule)

-- its dates are days
abbrev pub SeriesHasDays : Type 0
SeriesHasDays = (maturity : ℤ) (rule : StepRule) (k : ℕ) → IsBaseDay maturity → k ≤ 84 → IsDayNumber (half_back_of maturity k rule)

-- `SameDay` keeps maturity's day of the month wherever the month has it, and else has the month's last day
abbrev pub SameDayKeepsDay : Type 0
SameDayKeepsDay =
    (maturity : ℤ) (k : ℕ) → IsBaseDay maturity → k ≤ 84
    → let date = date_of (half_back_of maturity k rule.SameDay) in
    date.day ≡ min (date_of maturity).day (days_in_month date.year date.month)

-- `MonthEnd` gives month ends from a month end
abbrev pub MonthEndStays : Type 0
MonthEndStays =
    (maturity : ℤ) (k : ℕ) → IsBaseDay maturity → k ≤ 84 → IsTrue (is_month_end (date_of maturity))
    → IsTrue (is_month_end (date_of (half_back_of maturity k rule.MonthEnd)))

-- and is `SameDay` from any other day
abbrev pub MonthEndIsSameDayElsewhere : Type 0
MonthEndIsSameDayElsewhere =
    (maturity : ℤ) (k : ℕ) → ¬ (IsTrue (is_month_end (date_of maturity)))
    → half_back_of maturity k rule.MonthEnd ≡ half_back_of maturity k rule.SameDay

-- with `SameDay`, the index counts 180 per step from a date whose day of the month is at most 28
abbrev pub StepsCount180 : Type 0
StepsCount180 =
    (maturity : ℤ) (k : ℕ) → IsBaseDay maturity → k ≤ 84 → (date_of maturity).day ≤ 28
    → thirty_day_place_of (half_back_of maturity k rule.SameDay) + 180 * k ≡ thirty_day_place_of maturity

-- the dates after a day are the dates of the series that come after it
abbrev pub DatesAfterAreLater : Type 0
DatesAfterAreLater =
    (maturity : ℤ) (rule : StepRule) (day : ℤ) → IsBaseDay maturity
    → AreDatesAfter maturity rule day (dates_after_of maturity rule day)

-- and the date before them is the last up to the day, where maturity is at most 40 years later
abbrev pub PreviousIsLast : Type 0
PreviousIsLast =
    (maturity : ℤ) (rule : StepRule) (day : ℤ) → IsBaseDay maturity → maturity ≤ℤ (day +ℤ pos 14_640)
    → IsLastBy maturity rule day (previous_date_of maturity rule day)

-- years have 365 or 366 days, so more years lead to a later day
pub record IsYears (years : ℕ) (from to : ℤ) : Type 0 where
  pub least : (from +ℤ pos (365 * years)) ≤ℤ to
  pub most : to ≤ℤ (from +ℤ pos (366 * years))

abbrev pub YearsPass : Type 0
YearsPass =
    (n : ℤ) (j k : ℕ) → IsBaseDay n → j + k ≤ 40 → IsYears k (years_after_of n j) (years_after_of n (j + k))

-- no years later is the day itself
abbrev pub NoYearsPass : Type 0
NoYearsPass = (n : ℤ) → IsDayNumber n → years_after_of n 0 ≡ n

-- years later is a day
abbrev pub YearsLeadToDays : Type 0
YearsLeadToDays = (n : ℤ) (years : ℕ) → IsBaseDay n → years ≤ 40 → IsDayNumber (years_after_of n years)

-- from a settlement, years and half-years can be counted from each day of the next 40 years
abbrev pub SettlementLeadsToBaseDays : Type 0
SettlementLeadsToBaseDays =
    (settle n : ℤ) → IsSettlement settle → settle ≤ℤ n → n ≤ℤ years_after_of settle 40 → IsBaseDay n

-- a later day has no smaller index
abbrev pub IndexRises : Type 0
IndexRises = (a b : ℤ) → IsDayNumber a → IsDayNumber b → a ≤ℤ b → thirty_day_place_of a ≤ thirty_day_place_of b

-- the index of a day up to 40 years later is at most 14,400
abbrev pub IndexIsBounded : Type 0
IndexIsBounded =
    (settle n : ℤ) → IsDayNumber settle → IsDayNumber n → n ≤ℤ years_after_of settle 40
    → thirty_day_place_of n ≤ thirty_day_place_of settle + GREATEST_INDEX

-- each maturity has one kind
abbrev pub KindsAreExclusive : Type 0
KindsAreExclusive =
    (settle maturity : ℤ) (a b : SlgsKind) → IsSettlement settle → IsOfKind a settle maturity → IsOfKind b settle maturity
    → a ≡ b

abbrev pub KindsAreExhaustive : Type 0
KindsAreExhaustive = (settle maturity : ℤ) → (kind : SlgsKind) × IsOfKind kind settle maturity
