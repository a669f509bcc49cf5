-- Days some years later.
use borrow.Author.Differences.{up, down}
use Rattle.std.proofs.Common.{refl, ◌<ℤ◌, zero, suc, ◌≡◌, ℕ, ◌+◌, ◌-◌, ◌*◌, ◌<◌, ◌≤◌, min, arith, ℤ, pos, neg_ℤ, ◌+ℤ◌, ◌≤ℤ◌}
use Rattle.std.proofs.lemmas.Bool.Decides.{nat_tests}
use Rattle.std.proofs.lemmas.Int.{by_lt_z}
use Rattle.jiff_core.specs.Calendar.{days_in_month, days_in_year, days_of_months, day_count}
use Rattle.jiff_core.proofs.SignedLemmas.{signed_arith}
use Rattle.jiff_core.proofs.MarchLemmas.{days_in_year-leap_day, days_of_months-late}
use Rattle.jiff_core.proofs.CalendarLemmas.{days_from_civil-day_count, days_of_months_table, day_count-next_year}
use Rattle.escrow_units.specs.Calendar.{CivilDate, number_of, date_of, later_year, later_month, years_after_of, IsBaseDay}
use Rattle.escrow_units.specs.CalendarLaws.{IsYears}
use Rattle.escrow_units.specs.DayNumber.{IsDayNumber}
use Rattle.escrow_units.specs.SlgsTerms.{IsOfKind, IsSettlement}
use Rattle.escrow_units.specs.declared.security.SlgsKind.{SlgsKind}
use Rattle.escrow_units.specs.declared.security.SlgsKind.TheVariants as kind
use Rattle.escrow_units.proofs.SeriesFacts.{clamped, count-clamped, leap_day_bound, february, clamped-day, IsBaseDate, base_date, years_after_of-none}

month-later : (y z : ℤ) (m : ℕ) → 2 < m → days_in_month y m ≡ days_in_month z m
month-later y z m h = grind (arith, nat_tests)

-- the same day of the month a year later comes 365 or 366 days later
year-days : (y z : ℤ) (k d : ℕ) → k < 12 → 1 ≤ d
    → (days_of_months y k + min d (days_in_month y (k + 1)) + 365 ≤ days_in_year y + (days_of_months z k + min d (days_in_month z (k + 1))))
    × (days_in_year y + (days_of_months z k + min d (days_in_month z (k + 1))) ≤ days_of_months y k + min d (days_in_month y (k + 1)) + 366)
year-days y z zero d h a = omega (arith, leap_day_bound y, days_in_year-leap_day y, days_of_months_table y 0 (omega arith), days_of_months_table z 0 (omega arith))
year-days y z (suc zero) d h a = omega (arith, leap_day_bound y, leap_day_bound z, february y, february z, days_in_year-leap_day y, days_of_months_table y 1 (omega arith), days_of_months_table z 1 (omega arith))
year-days y z (suc (suc k)) d h a =
    let back : suc (suc k) + 1 - 1 ≡ suc (suc k) = omega arith in
    let from = rw back at (days_of_months-late y (suc (suc k) + 1) (omega arith) (omega arith)) in
    let to = rw back at (days_of_months-late z (suc (suc k) + 1) (omega arith) (omega arith)) in
    rw (month-later y z (suc (suc k) + 1) (omega arith)) (omega (arith, leap_day_bound y, leap_day_bound z, days_in_year-leap_day y, from, to))

difference : (base years part part₂ from to : ℕ) → from + 1 ≡ base + part → to + 1 ≡ base + years + part₂
    → part + 365 ≤ years + part₂ → years + part₂ ≤ part + 366 → (from + 365 ≤ to) × (to ≤ from + 366)
difference base years part part₂ from to e f low high = omega arith

year-counts : (a b : ℤ) (from to : ℕ) → up a + 4_371_953 ≡ down a + from → up b + 4_371_953 ≡ down b + to
    → from + 365 ≤ to → to ≤ from + 366 → IsYears 1 a b
year-counts a b from to e f low high = record { least = omega (arith, signed_arith); most = omega (arith, signed_arith) }

year-clamped : (y z : ℤ) (k d : ℕ) → neg_ℤ (pos 10000) ≤ℤ y → z ≡ y +ℤ pos 1 → k < 12 → 1 ≤ d → IsYears 1 (number_of (clamped y (k + 1) d)) (number_of (clamped z (k + 1) d))
year-clamped y z k d year next h low =
    let days = year-days y z k d h low in
    let from = count-clamped y k d low in
    let to = count-clamped z k d low in
    let years = day_count-next_year y z year next in
    let apart = difference (day_count y 1 1) (days_in_year y) _ _ _ _ from (rw years at to) days.0 days.1 in
    year-counts _ _ _ _ (days_from_civil-day_count y (k + 1) (min d (days_in_month y (k + 1)))) (days_from_civil-day_count z (k + 1) (min d (days_in_month z (k + 1)))) apart.0 apart.1

year-clamped_month : (y z : ℤ) (m n d : ℕ) → neg_ℤ (pos 10000) ≤ℤ y → z ≡ y +ℤ pos 1 → 1 ≤ m → m ≤ 12 → n ≡ m → 1 ≤ d → IsYears 1 (number_of (clamped y m d)) (number_of (clamped z n d))
year-clamped_month y z m n d year next first last same low =
    by_place y z m n (m - 1) d year next (omega arith) (omega arith) (omega arith) low
  where
    by_place : (y z : ℤ) (m n k d : ℕ) → neg_ℤ (pos 10000) ≤ℤ y → z ≡ y +ℤ pos 1 → m ≡ k + 1 → n ≡ k + 1 → k < 12 → 1 ≤ d → IsYears 1 (number_of (clamped y m d)) (number_of (clamped z n d))
    by_place y z m n k d year next e f h low = rw (e, f) (year-clamped y z k d year next h low)

-- the month so many years later
record IsLater (date : CivilDate) (years : ℕ) (y : ℤ) (m : ℕ) : Type 0 where
  year : y ≡ date.year +ℤ pos years
  month : m ≡ date.month

later : (date : CivilDate) (years : ℕ) → IsBaseDate date → IsLater date years (later_year date (pos (12 * years))) (later_month date (pos (12 * years)))
later date years h = record {
  year = omega (arith, signed_arith, h.low_month, h.high_month, h.low_year);
  month = omega (arith, signed_arith, h.low_month, h.high_month, h.low_year);
}

next_year : (n : ℤ) (years : ℕ) → IsBaseDay n → years < 40 → IsYears 1 (years_after_of n years) (years_after_of n (years + 1))
next_year n years h few =
    let base = base_date n h in
    let from = later (date_of n) years base in
    let to = later (date_of n) (years + 1) base in
    year-clamped_month _ _ _ _ (date_of n).day (omega (arith, signed_arith, from.year, base.low_year)) (omega (arith, signed_arith, from.year, to.year)) (omega (arith, from.month, base.low_month)) (omega (arith, from.month, base.high_month)) (omega (arith, from.month, to.month)) base.low_day

pub years_after_of-passes : (n : ℤ) (j k : ℕ) → IsBaseDay n → j + k ≤ 40 → IsYears k (years_after_of n j) (years_after_of n (j + k))
years_after_of-passes n j zero h few =
    let same : j + 0 ≡ j = omega arith in
    rw same (record { least = omega (arith, signed_arith); most = omega (arith, signed_arith) })
years_after_of-passes n j (suc k) h few =
    let more : j + k + 1 ≡ j + suc k = omega arith in
    let last = rw more at (next_year n (j + k) h (omega arith)) in
    let before = years_after_of-passes n j k h (omega arith) in
    record { least = omega (arith, signed_arith, last.least, before.least); most = omega (arith, signed_arith, last.most, before.most) }

pub years_after_of-day : (n : ℤ) (years : ℕ) → IsBaseDay n → years ≤ 40 → IsDayNumber (years_after_of n years)
years_after_of-day n years h few =
    let base = base_date n h in
    let to = later (date_of n) years base in
    clamped-day _ _ (date_of n).day (omega (arith, signed_arith, to.year, base.low_year)) (omega (arith, signed_arith, to.year, base.high_year)) (omega (arith, to.month, base.low_month)) (omega (arith, to.month, base.high_month)) base.low_day

pub settlement-base : (settle n : ℤ) → IsSettlement settle → settle ≤ℤ n → n ≤ℤ years_after_of settle 40 → IsBaseDay n
settlement-base settle n h after within =
    let base : IsBaseDay settle = (h.0, omega (arith, signed_arith, h.1)) in
    let own : IsDayNumber settle = (omega (arith, signed_arith, h.0), omega (arith, signed_arith, h.1)) in
    let years = years_after_of-passes settle 0 40 base (omega arith) in
    let none = years_after_of-none settle own in
    (omega (arith, signed_arith, h.0), omega (arith, signed_arith, h.1, years.most, none))

ten_years : (settle : ℤ) → IsSettlement settle → years_after_of settle 1 <ℤ years_after_of settle 10
ten_years settle h =
    let base : IsBaseDay settle = (h.0, omega (arith, signed_arith, h.1)) in
    omega (arith, signed_arith, (years_after_of-passes settle 1 9 base (omega arith)).least)

-- 40 years after settlement come later
pub years-follow : (settle : ℤ) → IsSettlement settle → settle ≤ℤ years_after_of settle 40
years-follow settle h =
    let own : IsDayNumber settle = (omega (arith, signed_arith, h.0), omega (arith, signed_arith, h.1)) in
    let years = years_after_of-passes settle 0 40 (h.0, omega (arith, signed_arith, h.1)) (omega arith) in
    omega (arith, signed_arith, years.least, years_after_of-none settle own)

pub kinds-exclusive : (settle maturity : ℤ) (a b : SlgsKind) → IsSettlement settle → IsOfKind a settle maturity → IsOfKind b settle maturity → a ≡ b
kinds-exclusive settle maturity kind.Certificate kind.Certificate h p q = refl
kinds-exclusive settle maturity kind.Certificate kind.Note h p q = absurd (omega (arith, signed_arith, p, q.0))
kinds-exclusive settle maturity kind.Certificate kind.Bond h p q = absurd (omega (arith, signed_arith, p, q, ten_years settle h))
kinds-exclusive settle maturity kind.Note kind.Certificate h p q = absurd (omega (arith, signed_arith, q, p.0))
kinds-exclusive settle maturity kind.Note kind.Note h p q = refl
kinds-exclusive settle maturity kind.Note kind.Bond h p q = absurd (omega (arith, signed_arith, p.1, q))
kinds-exclusive settle maturity kind.Bond kind.Certificate h p q = absurd (omega (arith, signed_arith, q, p, ten_years settle h))
kinds-exclusive settle maturity kind.Bond kind.Note h p q = absurd (omega (arith, signed_arith, q.1, p))
kinds-exclusive settle maturity kind.Bond kind.Bond h p q = refl

pub kinds-exhaustive : (settle maturity : ℤ) → (kind : SlgsKind) × IsOfKind kind settle maturity
kinds-exhaustive settle maturity =
    by_lt_z (years_after_of settle 1) maturity
    (λ past. by_lt_z (years_after_of settle 10) maturity
    (λ long. (kind.Bond, long))
    (λ within. (kind.Note, (past, within))))
    (λ within. (kind.Certificate, within))
