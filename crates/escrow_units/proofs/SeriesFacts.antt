-- Half-years and years in days.
use borrow.Author.Differences.{up, down}
use Rattle.std.proofs.Common.{IsTrue, eq-eqb, ◌==◌, Bool, true, false, if◌then◌else◌, zero, suc, ◌≡◌, ◌∙◌, ℕ, ◌+◌, ◌-◌, ◌*◌, ◌<◌, ◌≤◌, min, refl, sym, ap, arith, ℤ, pos, neg_ℤ, ◌+ℤ◌, ◌*ℤ◌, ◌≤ℤ◌, ◌<ℤ◌, inl, inr}
use Rattle.std.proofs.lemmas.Bool.{cases_lt}
use Rattle.std.proofs.lemmas.Bool.Decides.{nat_tests}
use Rattle.escrow_units.specs.Calendar.{CivilDate, number_of, date_of, later_year, later_month, months_later, month_end, is_month_end, half_years_back, half_back_of, years_after_of, thirty_day_place_of, thirty_day_place_of_date, IsBaseDay}
use Rattle.escrow_units.specs.DayNumber.{IsDayNumber}
use Rattle.escrow_units.specs.declared.security.StepRule.{StepRule}
use Rattle.escrow_units.specs.declared.security.StepRule.TheVariants as rule
use Rattle.escrow_units.proofs.DateFacts.{date_of-stands, pos_abs}
use Rattle.escrow_units.proofs.DayFacts.{date_of-number, year_in_base, days_in_years}
use Rattle.escrow_units.specs.CalendarLaws.{IsHalfYear}
use Rattle.jiff_core.specs.Calendar.{days_in_month, days_in_year, days_of_months, day_count, IsCivilDate}
use Rattle.jiff_core.specs.declared.civil.date.Date.{Date}
use Rattle.jiff_core.proofs.SignedLemmas.{signed_arith}
use Rattle.jiff_core.proofs.MarchLemmas.{leap_day, days_in_year-leap_day}
use Rattle.jiff_core.proofs.CalendarLemmas.{days_from_civil-day_count, days_of_months_table, day_count-day_of_year, day_count-next_year, days_in_month_bounds}

pub leap_day_bound : (y : ℤ) → leap_day y ≤ 1
leap_day_bound y = grind arith

pub february : (y : ℤ) → days_in_month y 2 ≡ 28 + leap_day y
february y = grind arith

-- the dates half a year apart in one year, where the later of two short months has its last day
within-year : (y : ℤ) (m d : ℕ) → m < 6 → 1 ≤ d → d ≤ 31
    → (days_of_months y m + min d (days_in_month y (m + 1)) + 181 ≤ days_of_months y (m + 6) + min d (days_in_month y (m + 7)))
    × (days_of_months y (m + 6) + min d (days_in_month y (m + 7)) ≤ days_of_months y m + min d (days_in_month y (m + 1)) + 184)
within-year y zero d h a b = omega (arith, leap_day_bound y, february y, days_of_months_table y 0 (omega arith), days_of_months_table y 6 (omega arith))
within-year y (suc zero) d h a b = omega (arith, leap_day_bound y, february y, days_of_months_table y 1 (omega arith), days_of_months_table y 7 (omega arith))
within-year y (suc (suc zero)) d h a b = omega (arith, leap_day_bound y, february y, days_of_months_table y 2 (omega arith), days_of_months_table y 8 (omega arith))
within-year y (suc (suc (suc zero))) d h a b = omega (arith, leap_day_bound y, february y, days_of_months_table y 3 (omega arith), days_of_months_table y 9 (omega arith))
within-year y (suc (suc (suc (suc zero)))) d h a b = omega (arith, leap_day_bound y, february y, days_of_months_table y 4 (omega arith), days_of_months_table y 10 (omega arith))
within-year y (suc (suc (suc (suc (suc zero))))) d h a b = omega (arith, leap_day_bound y, february y, days_of_months_table y 5 (omega arith), days_of_months_table y 11 (omega arith))
within-year y (suc (suc (suc (suc (suc (suc m)))))) d h a b = absurd (omega arith)

-- and those on both sides of a new year
across-years : (y z : ℤ) (m d : ℕ) → m < 6 → 1 ≤ d → d ≤ 31
    → (days_of_months y (m + 6) + min d (days_in_month y (m + 7)) + 181 ≤ days_in_year y + days_of_months z m + min d (days_in_month z (m + 1)))
    × (days_in_year y + days_of_months z m + min d (days_in_month z (m + 1)) ≤ days_of_months y (m + 6) + min d (days_in_month y (m + 7)) + 184)
across-years y z zero d h a b = omega (arith, leap_day_bound y, leap_day_bound z, february z, days_in_year-leap_day y, days_of_months_table z 0 (omega arith), days_of_months_table y 6 (omega arith))
across-years y z (suc zero) d h a b = omega (arith, leap_day_bound y, leap_day_bound z, february z, days_in_year-leap_day y, days_of_months_table z 1 (omega arith), days_of_months_table y 7 (omega arith))
across-years y z (suc (suc zero)) d h a b = omega (arith, leap_day_bound y, leap_day_bound z, february z, days_in_year-leap_day y, days_of_months_table z 2 (omega arith), days_of_months_table y 8 (omega arith))
across-years y z (suc (suc (suc zero))) d h a b = omega (arith, leap_day_bound y, leap_day_bound z, february z, days_in_year-leap_day y, days_of_months_table z 3 (omega arith), days_of_months_table y 9 (omega arith))
across-years y z (suc (suc (suc (suc zero)))) d h a b = omega (arith, leap_day_bound y, leap_day_bound z, february z, days_in_year-leap_day y, days_of_months_table z 4 (omega arith), days_of_months_table y 10 (omega arith))
across-years y z (suc (suc (suc (suc (suc zero))))) d h a b = omega (arith, leap_day_bound y, leap_day_bound z, february z, days_in_year-leap_day y, days_of_months_table z 5 (omega arith), days_of_months_table y 11 (omega arith))
across-years y z (suc (suc (suc (suc (suc (suc m)))))) d h a b = absurd (omega arith)

-- the day of this number of the month, or the last of a shorter month
abbrev pub clamped : ℤ → ℕ → ℕ → CivilDate
clamped y m d = record { year = y; month = m; day = min d (days_in_month y m) }

clamped_day : (y : ℤ) (m d : ℕ) → 1 ≤ d → 1 ≤ min d (days_in_month y m)
clamped_day y m d h = let long = days_in_month_bounds y m in omega arith

-- the days up to it are those of the years, of the months and of its month
pub count-clamped : (y : ℤ) (k d : ℕ) → 1 ≤ d
    → day_count y (k + 1) (min d (days_in_month y (k + 1))) + 1 ≡ day_count y 1 1 + (days_of_months y k + min d (days_in_month y (k + 1)))
count-clamped y k d h =
    let back : k + 1 - 1 ≡ k = omega arith in
    rw back at (day_count-day_of_year y (k + 1) (min d (days_in_month y (k + 1))) (clamped_day y (k + 1) d h))

difference-within : (base before day before₂ day₂ from to : ℕ) → from + 1 ≡ base + (before + day) → to + 1 ≡ base + (before₂ + day₂)
    → before + day + 181 ≤ before₂ + day₂ → before₂ + day₂ ≤ before + day + 184 → (from + 181 ≤ to) × (to ≤ from + 184)
difference-within base before day before₂ day₂ from to e f low high = omega arith

difference-across : (base years before day before₂ day₂ from to : ℕ) → from + 1 ≡ base + (before + day) → to + 1 ≡ base + years + (before₂ + day₂)
    → before + day + 181 ≤ years + before₂ + day₂ → years + before₂ + day₂ ≤ before + day + 184 → (from + 181 ≤ to) × (to ≤ from + 184)
difference-across base years before day before₂ day₂ from to e f low high = omega arith

half_year-counts : (a b : ℤ) (from to : ℕ) → up a + 4_371_953 ≡ down a + from → up b + 4_371_953 ≡ down b + to
    → from + 181 ≤ to → to ≤ from + 184 → IsHalfYear a b
half_year-counts a b from to e f low high = record { least = omega (arith, signed_arith); most = omega (arith, signed_arith) }

pub half_year-within : (y : ℤ) (k d : ℕ) → k < 6 → 1 ≤ d → d ≤ 31 → IsHalfYear (number_of (clamped y (k + 1) d)) (number_of (clamped y (k + 7) d))
half_year-within y k d h low high =
    let more : k + 6 + 1 ≡ k + 7 = omega arith in
    let within = within-year y k d h low high in
    let from = count-clamped y k d low in
    let to = rw more at (count-clamped y (k + 6) d low) in
    let apart = difference-within (day_count y 1 1) _ _ _ _ _ _ from to within.0 within.1 in
    half_year-counts _ _ _ _ (days_from_civil-day_count y (k + 1) (min d (days_in_month y (k + 1)))) (days_from_civil-day_count y (k + 7) (min d (days_in_month y (k + 7)))) apart.0 apart.1

pub half_year-across : (z y : ℤ) (k d : ℕ) → neg_ℤ (pos 10000) ≤ℤ z → y ≡ z +ℤ pos 1 → k < 6 → 1 ≤ d → d ≤ 31
    → IsHalfYear (number_of (clamped z (k + 7) d)) (number_of (clamped y (k + 1) d))
half_year-across z y k d year next h low high =
    let more : k + 6 + 1 ≡ k + 7 = omega arith in
    let across = across-years z y k d h low high in
    let from = rw more at (count-clamped z (k + 6) d low) in
    let to = count-clamped y k d low in
    let years = day_count-next_year z y year next in
    let apart = difference-across (day_count z 1 1) (days_in_year z) _ _ _ _ _ _ from (rw years at to) across.0 across.1 in
    half_year-counts _ _ _ _ (days_from_civil-day_count z (k + 7) (min d (days_in_month z (k + 7)))) (days_from_civil-day_count y (k + 1) (min d (days_in_month y (k + 1)))) apart.0 apart.1

-- half a year earlier, by the place of the month
half_year-clamped : (z y : ℤ) (n m d : ℕ) → pos 0 ≤ℤ z → 1 ≤ n → n ≤ 12 → 1 ≤ m → m ≤ 12 → 1 ≤ d → d ≤ 31
    → z *ℤ pos 12 +ℤ pos (n + 6) ≡ y *ℤ pos 12 +ℤ pos m → IsHalfYear (number_of (clamped z n d)) (number_of (clamped y m d))
half_year-clamped z y n m d year n_low n_high m_low m_high low high place =
    elim (cases_lt 6 m) [
      | inl late ↦
          let same : z ≡ y = omega (arith, signed_arith) in
          let from : n ≡ n - 1 + 1 = omega arith in
          let to : m ≡ n - 1 + 7 = omega (arith, signed_arith) in
          half_year-late z y n m (n - 1) d same from to (omega (arith, signed_arith)) low high
      | inr early ↦
          let next : y ≡ z +ℤ pos 1 = omega (arith, signed_arith) in
          let to : m ≡ m - 1 + 1 = omega arith in
          let from : n ≡ m - 1 + 7 = omega (arith, signed_arith) in
          half_year-early z y n m (m - 1) d (omega (arith, signed_arith)) next from to (omega arith) low high
    ]
  where
    half_year-late : (z y : ℤ) (n m k d : ℕ) → z ≡ y → n ≡ k + 1 → m ≡ k + 7 → k < 6 → 1 ≤ d → d ≤ 31 → IsHalfYear (number_of (clamped z n d)) (number_of (clamped y m d))
    half_year-late z y n m k d same from to h low high = rw (same, from, to) (half_year-within y k d h low high)

    half_year-early : (z y : ℤ) (n m k d : ℕ) → neg_ℤ (pos 10000) ≤ℤ z → y ≡ z +ℤ pos 1 → n ≡ k + 7 → m ≡ k + 1 → k < 6 → 1 ≤ d → d ≤ 31 → IsHalfYear (number_of (clamped z n d)) (number_of (clamped y m d))
    half_year-early z y n m k d year next from to h low high = rw (from, to) (half_year-across z y k d year next h low high)

-- the day of the month that a series seeks: from a month end `MonthEnd` seeks the 31st
abbrev pub sought : CivilDate → StepRule → ℕ
sought date rule.SameDay = date.day
sought date rule.MonthEnd = if is_month_end date then 31 else date.day

ended_or_not : (b : Bool) (date : CivilDate) (k : ℤ)
    → (if b then month_end (months_later date k) else months_later date k) ≡ clamped (later_year date k) (later_month date k) (if b then 31 else date.day)
ended_or_not true date k =
    let long = days_in_month_bounds (later_year date k) (later_month date k) in
    let e : days_in_month (later_year date k) (later_month date k) ≡ min 31 (days_in_month (later_year date k) (later_month date k)) = omega arith in
    λ i. record { year = later_year date k; month = later_month date k; day = e i }
ended_or_not false date k = refl

half_years_back-clamped : (date : CivilDate) (k : ℕ) (r : StepRule)
    → half_years_back date k r ≡ clamped (later_year date (neg_ℤ (pos (6 * k)))) (later_month date (neg_ℤ (pos (6 * k)))) (sought date r)
half_years_back-clamped date k rule.SameDay = refl
half_years_back-clamped date k rule.MonthEnd = ended_or_not (is_month_end date) date (neg_ℤ (pos (6 * k)))

-- the date of a day of the years 2000 to 2190
pub record IsBaseDate (date : CivilDate) : Type 0 where
  pub low_year : pos 2000 ≤ℤ date.year
  pub high_year : date.year <ℤ pos 2191
  pub low_month : 1 ≤ date.month
  pub high_month : date.month ≤ 12
  pub low_day : 1 ≤ date.day
  pub high_day : date.day ≤ days_in_month date.year date.month

pub base_date : (n : ℤ) → IsBaseDay n → IsBaseDate (date_of n)
base_date n h =
    let own : IsDayNumber n = (omega (arith, signed_arith), omega (arith, signed_arith)) in
    let s = date_of-stands n own in
    let found : Date = record { year = (date_of n).year; month = (date_of n).month; day = (date_of n).day; year_in = s.0.0; month_in = s.0.1; day_in = s.0.2 } in
    let years = year_in_base found (rw s.1 h) in
    record { low_year = years.0; high_year = years.1; low_month = s.0.1.0; high_month = s.0.1.1; low_day = s.0.2.0; high_day = s.0.2.1 }

sought_bounds : (date : CivilDate) (r : StepRule) → IsBaseDate date → (1 ≤ sought date r) × (sought date r ≤ 31)
sought_bounds date rule.SameDay h = let long = days_in_month_bounds date.year date.month in (h.low_day, omega (arith, h.high_day))
sought_bounds date rule.MonthEnd h = by_test (is_month_end date) date.day h.low_day (let long = days_in_month_bounds date.year date.month in omega (arith, h.high_day))
  where
    by_test : (b : Bool) (d : ℕ) → 1 ≤ d → d ≤ 31 → (1 ≤ (if b then 31 else d)) × ((if b then 31 else d) ≤ 31)
    by_test true d low high = (omega arith, omega arith)
    by_test false d low high = (low, high)

-- the month so many half-years back
record IsBack (date : CivilDate) (months : ℕ) (y : ℤ) (m : ℕ) : Type 0 where
  low_year : pos 1900 ≤ℤ y
  high_year : y <ℤ pos 2191
  low_month : 1 ≤ m
  high_month : m ≤ 12
  place : y *ℤ pos 12 +ℤ pos (m + months) ≡ date.year *ℤ pos 12 +ℤ pos date.month

back : (date : CivilDate) (months : ℕ) → IsBaseDate date → months ≤ 600 → IsBack date months (later_year date (neg_ℤ (pos months))) (later_month date (neg_ℤ (pos months)))
back date months h few = record {
  low_year = omega (arith, signed_arith, h.low_year, h.low_month);
  high_year = omega (arith, signed_arith, h.high_year, h.high_month);
  low_month = omega arith;
  high_month = omega (arith, signed_arith);
  place = omega (arith, signed_arith, h.low_month);
}

along : (a b c d : ℤ) → a ≡ c → b ≡ d → IsHalfYear c d → IsHalfYear a b
along a b c d e f h = rw (e, f) h

pub half_back_of-steps : (maturity : ℤ) (r : StepRule) (k : ℕ) → IsBaseDay maturity → k < 84
    → IsHalfYear (half_back_of maturity (k + 1) r) (half_back_of maturity k r)
half_back_of-steps maturity r k h few =
    let base = base_date maturity h in
    let day = sought_bounds (date_of maturity) r base in
    let from = back (date_of maturity) (6 * (k + 1)) base (omega arith) in
    let to = back (date_of maturity) (6 * k) base (omega arith) in
    let step = half_year-clamped _ _ _ _ (sought (date_of maturity) r) (omega (arith, signed_arith, from.low_year)) from.low_month from.high_month to.low_month to.high_month day.0 day.1 (omega (arith, signed_arith, from.place, to.place)) in
    along _ _ _ _ (ap number_of (half_years_back-clamped (date_of maturity) (k + 1) r)) (ap number_of (half_years_back-clamped (date_of maturity) k r)) step

-- the dates of a series fall by step
pub half_back_of-falls : (maturity : ℤ) (r : StepRule) (j k : ℕ) → IsBaseDay maturity → j < k → k ≤ 84
    → half_back_of maturity k r <ℤ half_back_of maturity j r
half_back_of-falls maturity r j zero h lt few = absurd (omega arith)
half_back_of-falls maturity r j (suc k) h lt few =
    let more : k + 1 ≡ suc k = omega arith in
    let step = rw more at (half_back_of-steps maturity r k h (omega arith)) in
    elim (cases_lt j k) [
      | inl later ↦ omega (arith, signed_arith, step.least, half_back_of-falls maturity r j k h later (omega arith))
      | inr last ↦
          let same : j ≡ k = omega arith in
          rw same (omega (arith, signed_arith, step.least))
    ]

clamped-civil : (y : ℤ) (m d : ℕ) → pos 1900 ≤ℤ y → y <ℤ pos 2300 → 1 ≤ m → m ≤ 12 → 1 ≤ d → IsCivilDate y m (min d (days_in_month y m))
clamped-civil y m d low high first last day =
    let long = days_in_month_bounds y m in
    ((omega (arith, signed_arith), omega (arith, signed_arith)), (first, last), (omega arith, omega arith))

pub clamped-day : (y : ℤ) (m d : ℕ) → pos 1900 ≤ℤ y → y <ℤ pos 2300 → 1 ≤ m → m ≤ 12 → 1 ≤ d → IsDayNumber (number_of (clamped y m d))
clamped-day y m d low high first last day =
    days_in_years y m (min d (days_in_month y m)) (clamped-civil y m d low high first last day) low high

-- the date of a date of a series
date_of-half_back_of : (maturity : ℤ) (r : StepRule) (k : ℕ) → IsBaseDay maturity → k ≤ 84
    → IsDayNumber (half_back_of maturity k r)
    × (date_of (half_back_of maturity k r)
    ≡ clamped (later_year (date_of maturity) (neg_ℤ (pos (6 * k)))) (later_month (date_of maturity) (neg_ℤ (pos (6 * k)))) (sought (date_of maturity) r))
date_of-half_back_of maturity r k h few =
    let base = base_date maturity h in
    let day = sought_bounds (date_of maturity) r base in
    let to = back (date_of maturity) (6 * k) base (omega arith) in
    let high : later_year (date_of maturity) (neg_ℤ (pos (6 * k))) <ℤ pos 2300 = omega (arith, signed_arith, to.high_year) in
    let civ = clamped-civil _ _ (sought (date_of maturity) r) to.low_year high to.low_month to.high_month day.0 in
    let own = clamped-day _ _ (sought (date_of maturity) r) to.low_year high to.low_month to.high_month day.0 in
    let same : half_back_of maturity k r ≡ number_of (clamped (later_year (date_of maturity) (neg_ℤ (pos (6 * k)))) (later_month (date_of maturity) (neg_ℤ (pos (6 * k)))) (sought (date_of maturity) r)) = ap number_of (half_years_back-clamped (date_of maturity) k r) in
    (rw same own, date_of-number (half_back_of maturity k r) (clamped (later_year (date_of maturity) (neg_ℤ (pos (6 * k)))) (later_month (date_of maturity) (neg_ℤ (pos (6 * k)))) (sought (date_of maturity) r)) (rw same own) civ (sym same))

pub half_back_of-day : (maturity : ℤ) (r : StepRule) (k : ℕ) → IsBaseDay maturity → k ≤ 84 → IsDayNumber (half_back_of maturity k r)
half_back_of-day maturity r k h few = (date_of-half_back_of maturity r k h few).0

pub half_back_of-same_day : (maturity : ℤ) (k : ℕ) → IsBaseDay maturity → k ≤ 84
    → (date_of (half_back_of maturity k rule.SameDay)).day
    ≡ min (date_of maturity).day (days_in_month (date_of (half_back_of maturity k rule.SameDay)).year (date_of (half_back_of maturity k rule.SameDay)).month)
half_back_of-same_day maturity k h few = rw (date_of-half_back_of maturity rule.SameDay k h few).1 refl

month_end_kept : (n : ℤ) (b : Bool) (y : ℤ) (m d : ℕ) → IsTrue b → date_of n ≡ clamped y m (if b then 31 else d) → IsTrue (is_month_end (date_of n))
month_end_kept n true y m d t e =
    let long = days_in_month_bounds y m in
    rw e (eq-eqb (min 31 (days_in_month y m)) (days_in_month y m) (omega arith))
month_end_kept n false y m d t e = cc t

pub half_back_of-month_end : (maturity : ℤ) (k : ℕ) → IsBaseDay maturity → k ≤ 84 → IsTrue (is_month_end (date_of maturity))
    → IsTrue (is_month_end (date_of (half_back_of maturity k rule.MonthEnd)))
half_back_of-month_end maturity k h few end =
    month_end_kept (half_back_of maturity k rule.MonthEnd) (is_month_end (date_of maturity)) _ _ (date_of maturity).day end (date_of-half_back_of maturity rule.MonthEnd k h few).1

index_of_back : (date : CivilDate) (months : ℕ) (y : ℤ) (m : ℕ) → IsBaseDate date → IsBack date months y m → date.day ≤ 28
    → thirty_day_place_of_date (clamped y m date.day) + 30 * months ≡ thirty_day_place_of_date date
index_of_back date months y m base to short =
    let long = days_in_month_bounds y m in
    let day : min date.day (days_in_month y m) ≡ date.day = omega arith in
    let from = pos_abs y (omega (arith, signed_arith, to.low_year)) in
    let at = pos_abs date.year (omega (arith, signed_arith, base.low_year)) in
    rw day (omega (arith, signed_arith, from, at, to.place))

pub half_back_of-index : (maturity : ℤ) (k : ℕ) → IsBaseDay maturity → k ≤ 84 → (date_of maturity).day ≤ 28
    → thirty_day_place_of (half_back_of maturity k rule.SameDay) + 180 * k ≡ thirty_day_place_of maturity
half_back_of-index maturity k h few short =
    let base = base_date maturity h in
    let to = back (date_of maturity) (6 * k) base (omega arith) in
    let same = ap thirty_day_place_of_date (date_of-half_back_of maturity rule.SameDay k h few).1 in
    omega (arith, same, index_of_back (date_of maturity) (6 * k) _ _ base to short)

-- a date no months later
no_months : (date : CivilDate) (k : ℤ) (d : ℕ) → k ≡ pos 0 → 1 ≤ date.month → date.month ≤ 12 → min d (days_in_month date.year date.month) ≡ date.day
    → clamped (later_year date k) (later_month date k) d ≡ date
no_months date k d none low high day =
    let year : later_year date k ≡ date.year = rw none (omega (arith, signed_arith)) in
    let month : later_month date k ≡ date.month = rw none (omega (arith, signed_arith)) in
    let kept : min d (days_in_month (later_year date k) (later_month date k)) ≡ date.day = rw (year, month) day in
    λ i. record { year = year i; month = month i; day = kept i }

sought-day : (date : CivilDate) (r : StepRule) → date.day ≤ days_in_month date.year date.month → min (sought date r) (days_in_month date.year date.month) ≡ date.day
sought-day date rule.SameDay h = omega arith
sought-day date rule.MonthEnd h = by_test (is_month_end date) date.day (days_in_month date.year date.month) refl h (days_in_month_bounds date.year date.month).0
  where
    by_test : (b : Bool) (d long : ℕ) → (d == long) ≡ b → d ≤ long → long ≤ 31 → min (if b then 31 else d) long ≡ d
    by_test true d long t h most = let same : d ≡ long = grind (arith, nat_tests) in omega arith
    by_test false d long t h most = omega arith

pub half_back_of-start : (maturity : ℤ) (r : StepRule) → IsDayNumber maturity → half_back_of maturity 0 r ≡ maturity
half_back_of-start maturity r h =
    let s = date_of-stands maturity h in
    let same = no_months (date_of maturity) (neg_ℤ (pos (6 * 0))) (sought (date_of maturity) r) refl s.0.1.0 s.0.1.1 (sought-day (date_of maturity) r s.0.2.1) in
    ap number_of (half_years_back-clamped (date_of maturity) 0 r) ∙ (ap number_of same ∙ s.1)

pub years_after_of-none : (n : ℤ) → IsDayNumber n → years_after_of n 0 ≡ n
years_after_of-none n h =
    let s = date_of-stands n h in
    let day : min (date_of n).day (days_in_month (date_of n).year (date_of n).month) ≡ (date_of n).day = omega (arith, s.0.2.1) in
    ap number_of (no_months (date_of n) (pos (12 * 0)) (date_of n).day refl s.0.1.0 s.0.1.1 day) ∙ s.1
