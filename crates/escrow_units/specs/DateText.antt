-- The texts of days.
use Rattle.std.specs.Prelude.{ℕ, ◌+◌, ◌-◌, ◌*◌, nat_le, ◌&&◌, ◌==◌, if◌then◌else◌, List, [], ◌∷◌, ◌++◌, Option, Some, None, option_and_then, ℤ, pos, neg_ℤ, unsigned_abs}
use Rattle.jiff_core.specs.Calendar.{IsBetween, days_in_month, days_from_civil}
use Rattle.escrow_units.specs.Calendar.{CivilDate, date_of}
use Rattle.escrow_units.specs.Digits.{last_digits}

-- the number of two digits
abbrev pub two_digits : ℕ → ℕ → Option ℕ
two_digits tens ones =
    if nat_le 48 tens && nat_le tens 57 && nat_le 48 ones && nat_le ones 57
    then Some (10 * (tens - 48) + (ones - 48)) else None

-- the day number of a date, where the calendar has it and it is of the years 1900 to 2199
abbrev pub date_number : ℕ → ℕ → ℕ → Option ℤ
date_number year month day =
    if nat_le 1900 year && nat_le year 2199 && nat_le 1 month && nat_le month 12
    && nat_le 1 day && nat_le day (days_in_month (pos year) month)
    then Some (days_from_civil (pos year) month day) else None

-- the day number that the ten bytes of YYYY-MM-DD spell
abbrev pub day_of : List ℕ → Option ℤ
day_of (a ∷ b ∷ c ∷ d ∷ p ∷ e ∷ f ∷ q ∷ g ∷ h ∷ []) =
    if (p == 45) && (q == 45)
    then option_and_then (λ century. option_and_then (λ year. option_and_then (λ month. option_and_then (λ day.
    date_number (100 * century + year) month day) (two_digits g h)) (two_digits e f)) (two_digits c d)) (two_digits a b)
    else None
day_of _ = None

-- a date as YYYY-MM-DD
abbrev pub date_text : CivilDate → List ℕ
date_text date =
    last_digits 4 (unsigned_abs date.year) ++ 45 ∷ (last_digits 2 date.month ++ 45 ∷ last_digits 2 date.day)

-- a day number as the date that it is
abbrev pub day_text : ℤ → List ℕ
day_text n = date_text (date_of n)

-- a day of the years 1900 to 2199, which the fields of files have
abbrev pub IsFieldDay : ℤ → Type 0
IsFieldDay n = IsBetween (neg_ℤ (pos 25_567)) (pos 84_005) n
