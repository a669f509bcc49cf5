-- The date of a day number, in closed form. What a reader has to believe of it is a law: it is the one date of the calendar
-- that has this number.
use Rattle.std.specs.Prelude.{ℕ, ◌+◌, ◌-◌, ◌*◌, ◌/◌, ◌%◌, nat_lt, if◌then◌else◌, ℤ, pos, ◌+ℤ◌, ◌-ℤ◌, unsigned_abs}
use Rattle.escrow_units.specs.CivilDates.{CivilDate}

-- years that begin on 1 March have their leap day last: the days from 1 March of the year -10000 to a day number
abbrev pub march_count : ℤ → ℕ
march_count n = unsigned_abs (n +ℤ pos 4_371_893)

-- four times the days of its century, by centuries of 36,524.25 days
abbrev pub in_century : ℕ → ℕ
in_century count = (4 * count + 3) % 146_097 / 4 * 4 + 3

-- the year of such a count, by years of 365.25 days in a century
abbrev pub march_year : ℕ → ℕ
march_year count = 100 * ((4 * count + 3) / 146_097) + in_century count / 1461

-- and the days of that year before it
abbrev pub march_day : ℕ → ℕ
march_day count = in_century count % 1461 / 4

-- the month of a day of a year from March, from 3 to 14: five months have 153 days
abbrev pub march_month : ℕ → ℕ
march_month day = (5 * day + 461) / 153

-- and the day of the month
abbrev pub month_day : ℕ → ℕ
month_day day = (5 * day + 461) % 153 / 5 + 1

-- the date of a day of a year from March
abbrev pub march_date : ℕ → ℕ → CivilDate
march_date year day =
    if nat_lt 12 (march_month day)
    then record { year = pos (year + 1) -ℤ pos 10000; month = march_month day - 12; day = month_day day }
    else record { year = pos year -ℤ pos 10000; month = march_month day; day = month_day day }

-- the date of a day number
unfoldable pub date_of : ℤ → CivilDate
date_of n = march_date (march_year (march_count n)) (march_day (march_count n))
