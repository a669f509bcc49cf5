-- The numbers of days.
use Rattle.std.specs.Prelude.{ℤ, pos, neg_ℤ}
use Rattle.jiff_core.specs.Calendar.{IsBetween}

-- a day number, counted from 1970-01-01, of the years 1900 to 2299
abbrev pub IsDayNumber : ℤ → Type 0
IsDayNumber n = IsBetween (neg_ℤ (pos 25567)) (pos 120529) n
