-- Dates of the calendar, and the numbers of days.
use Rattle.std.specs.Prelude.{ℕ, ℤ}
use Rattle.jiff_core.specs.Calendar.{days_from_civil}

-- a date of the calendar
pub record CivilDate : Type 0 where
  pub year : ℤ
  pub month : ℕ
  pub day : ℕ

-- the day number of a date, counted from 1970-01-01
abbrev pub number_of : CivilDate → ℤ
number_of date = days_from_civil date.year date.month date.day
