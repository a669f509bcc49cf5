-- The days that are counted from a date of the calendar: half-years back, years on, and places by months of thirty days.
use Rattle.std.specs.Prelude.{◌≡◌, ℕ, ◌+◌, ◌-◌, ◌*◌, ◌≤◌, min, if◌then◌else◌, ◌==◌, Bool, ℤ, pos, neg_ℤ, ◌+ℤ◌, ◌*ℤ◌, unsigned_abs}
use Rattle.std.specs.Int.{int_div_euclid, int_rem_euclid}
use Rattle.jiff_core.specs.Calendar.{IsBetween, days_in_month}
pub use Rattle.escrow_units.specs.CivilDates.{CivilDate, number_of}
unfoldable pub use Rattle.escrow_units.specs.ClosedForm.{date_of}
use Rattle.escrow_units.specs.declared.security.StepRule.{StepRule}
use Rattle.escrow_units.specs.declared.security.StepRule.TheVariants as rule

-- months since January of the year 0
abbrev pub month_place : CivilDate → ℤ
month_place date = date.year *ℤ pos 12 +ℤ pos (date.month - 1)

-- the year so many months after a date
abbrev pub later_year : CivilDate → ℤ → ℤ
later_year date months = int_div_euclid (month_place date +ℤ months) (pos 12)

-- the month of the year so many months after a date, from 1 to 12
abbrev pub later_month : CivilDate → ℤ → ℕ
later_month date months = unsigned_abs (int_rem_euclid (month_place date +ℤ months) (pos 12)) + 1

-- the same day of the month so many months later, or the last day of a shorter month
abbrev pub months_later : CivilDate → ℤ → CivilDate
months_later date months = record {
  year = later_year date months;
  month = later_month date months;
  day = min date.day (days_in_month (later_year date months) (later_month date months));
}

-- the last day of its month
abbrev pub month_end : CivilDate → CivilDate
month_end date = record date { day = days_in_month date.year date.month }

-- a date is the last of its month
abbrev pub is_month_end : CivilDate → Bool
is_month_end date = date.day == days_in_month date.year date.month

-- six months back, k times, counted from the date itself
abbrev pub half_years_back : CivilDate → ℕ → StepRule → CivilDate
half_years_back date k rule.SameDay = months_later date (neg_ℤ (pos (6 * k)))
half_years_back date k rule.MonthEnd =
    if is_month_end date then month_end (months_later date (neg_ℤ (pos (6 * k))))
    else months_later date (neg_ℤ (pos (6 * k)))

-- the day k half-years before maturity
abbrev pub half_back_of : ℤ → ℕ → StepRule → ℤ
half_back_of maturity k rule = number_of (half_years_back (date_of maturity) k rule)

-- a date of the series that ends at maturity, at most 42 years before it: no security runs so long
pub record IsSeriesDate (maturity : ℤ) (rule : StepRule) (day : ℤ) : Type 0 where
  pub steps : ℕ
  pub few : steps ≤ 84
  pub back : day ≡ half_back_of maturity steps rule

-- the same month and day so many years later, or 28 February for a 29th that isn't there
abbrev pub years_after_of : ℤ → ℕ → ℤ
years_after_of n years = number_of (months_later (date_of n) (pos (12 * years)))

-- the place of a date in years of twelve months of thirty days, by the 30E/360 convention (the Eurobond basis): a 31st
-- counts as the 30th wherever it stands. 26 CFR 1.148-4(a) permits a year of twelve months of thirty days
abbrev pub thirty_day_place_of_date : CivilDate → ℕ
thirty_day_place_of_date date = 360 * unsigned_abs date.year + 30 * date.month + min date.day 30

-- and that of a day
abbrev pub thirty_day_place_of : ℤ → ℕ
thirty_day_place_of n = thirty_day_place_of_date (date_of n)

-- a day of the years 2000 to 2190, from which half-years and years are counted
abbrev pub IsBaseDay : ℤ → Type 0
IsBaseDay n = IsBetween (pos 10_957) (pos 80_718) n
