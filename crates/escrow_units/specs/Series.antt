-- The dates on which a security with semiannual interest pays.
use Rattle.std.specs.Prelude.{ℕ, zero, suc, ◌+◌, ◌-◌, List, [], ◌∷◌, All, AllPairs, Contains, filter, length, ℤ, ◌-ℤ◌, ◌≤ℤ◌, ◌<ℤ◌, int_lt, unsigned_abs}
use Rattle.escrow_units.specs.Calendar.{half_back_of, IsSeriesDate}
use Rattle.escrow_units.specs.declared.security.StepRule.{StepRule}

-- the days from one day to a later one
abbrev pub days_between_of : ℤ → ℤ → ℕ
days_between_of from to = unsigned_abs (to -ℤ from)

-- the dates of the series that ends at maturity, from so many half-years before it on, in order
unfoldable pub series_from : ℤ → StepRule → ℕ → List ℤ
series_from maturity rule zero = half_back_of maturity 0 rule ∷ []
series_from maturity rule (suc k) = half_back_of maturity (k + 1) rule ∷ series_from maturity rule k

-- all its dates, in order: those of the 42 years up to maturity, since no security runs so long
abbrev pub series_of : ℤ → StepRule → List ℤ
series_of maturity rule = series_from maturity rule 84

-- its dates after a day, in order
unfoldable pub dates_after_of : ℤ → StepRule → ℤ → List ℤ
dates_after_of maturity rule day = filter (int_lt day) (series_of maturity rule)

-- the date before these, which is the last up to the day
abbrev pub previous_date_of : ℤ → StepRule → ℤ → ℤ
previous_date_of maturity rule day = half_back_of maturity (length (dates_after_of maturity rule day)) rule

-- and the first of them
abbrev pub next_date_of : ℤ → StepRule → ℤ → ℤ
next_date_of maturity rule day = half_back_of maturity (length (dates_after_of maturity rule day) - 1) rule

-- these are just the dates of the series that come after the day, each once and in order
pub record AreDatesAfter (maturity : ℤ) (rule : StepRule) (day : ℤ) (dates : List ℤ) : Type 0 where
  pub series : All (λ date. IsSeriesDate maturity rule date × (day <ℤ date)) dates
  pub all : (date : ℤ) → IsSeriesDate maturity rule date → day <ℤ date → Contains dates date
  pub rise : AllPairs (λ earlier later. earlier <ℤ later) dates

-- the first date of the series after a day: none comes sooner
pub record IsFirstAfter (maturity : ℤ) (rule : StepRule) (day date : ℤ) : Type 0 where
  pub series : IsSeriesDate maturity rule date
  pub after : day <ℤ date
  pub first : (other : ℤ) → IsSeriesDate maturity rule other → day <ℤ other → date ≤ℤ other

-- the last date of the series up to a day: none comes later
pub record IsLastBy (maturity : ℤ) (rule : StepRule) (day date : ℤ) : Type 0 where
  pub series : IsSeriesDate maturity rule date
  pub by : date ≤ℤ day
  pub last : (other : ℤ) → IsSeriesDate maturity rule other → other ≤ℤ day → other ≤ℤ date
