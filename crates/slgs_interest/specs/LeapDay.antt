-- The 29th of February of a year.
use Rattle.std.specs.Prelude.{◌≡◌, ℤ, ◌≤ℤ◌, ◌<ℤ◌}
use Rattle.jiff_core.specs.Calendar.{days_from_civil, days_in_month}

-- the year has a 29 February, and it lies after one day and not after another
pub record HasLeapDay (year after last : ℤ) : Type 0 where
  pub leap : days_in_month year 2 ≡ 29
  pub late : after <ℤ days_from_civil year 2 29
  pub early : days_from_civil year 2 29 ≤ℤ last
