-- The date of a day number has that day number.
use Rattle.std.proofs.Common.{suc, negsuc, ◌≤ℤ◌, ◌≡◌, ℕ, ◌+◌, ◌-◌, ◌<◌, ◌≤◌, Bool, true, false, cond, nat_lt, refl, arith, ℤ, pos, ◌+ℤ◌, ◌-ℤ◌, unsigned_abs}
use Rattle.std.proofs.lemmas.Bool.Decides.{nat_tests}
use Rattle.jiff_core.specs.March.{march_days}
use Rattle.jiff_core.specs.Calendar.{IsCivilDate, day_count}
use Rattle.jiff_core.proofs.SignedLemmas.{signed_arith}
use Rattle.jiff_core.proofs.MarchLemmas.{day_count-early, day_count-late, month_and_day, day_in_month, day_in_early_month, leap_day, leap_day-shift, march_days-suc}
use Rattle.jiff_core.proofs.CalendarLemmas.{days_from_civil-day_count}
use Rattle.escrow_units.specs.CivilDates.{CivilDate, number_of}
use Rattle.escrow_units.specs.ClosedForm.{march_count, march_year, march_day, march_month, month_day, march_date, date_of}
use Rattle.escrow_units.specs.DayNumber.{IsDayNumber}

march_parts : (k : ℕ) → k < 7_400_000 → (march_days (march_year k) + march_day k ≡ k) × (k < march_days (march_year k + 1)) × (march_day k < 366)
march_parts k h = omega arith

-- a number that is not negative
pub pos_abs : (z : ℤ) → pos 0 ≤ℤ z → z ≡ pos (unsigned_abs z)
pos_abs (pos a) h = refl
pos_abs (negsuc a) h = absurd (omega (arith, signed_arith))

-- a date, and how many days lie before it
pub record Stands (c : CivilDate) (count : ℕ) : Type 0 where
  pub civil : IsCivilDate c.year c.month c.day
  pub counted : day_count c.year c.month c.day ≡ count

early : (y p : ℕ) → p < 366 → p < 365 + leap_day (pos (suc y)) → 12 < march_month p → y < 19_000 → 1 ≤ y
    → Stands (record { year = pos (y + 1) -ℤ pos 10000; month = march_month p - 12; day = month_day p }) (march_days y + p + 60)
early y p low fits late top bottom =
    let year : ℤ = pos (y + 1) -ℤ pos 10000 in
    let here : year +ℤ pos 10000 ≡ pos (suc y) = omega (arith, signed_arith) in
    let back : march_month p - 12 + 12 ≡ march_month p = omega arith in
    let count = day_count-early year y (march_month p - 12) (month_day p) here (omega arith) (omega arith) (omega arith) in
    let same = leap_day-shift year (suc y) here in
    record {
      civil = ((omega (arith, signed_arith), omega (arith, signed_arith)), (omega arith, omega arith), (omega arith, day_in_early_month year p late (omega arith)));
      counted = omega (arith, rw back at count, month_and_day p low);
    }

rest_of_year : (y p : ℕ) → p < 366 → march_month p ≤ 12 → y < 19_000 → 1 ≤ y
    → Stands (record { year = pos y -ℤ pos 10000; month = march_month p; day = month_day p }) (march_days y + p + 60)
rest_of_year y p low early top bottom =
    let year : ℤ = pos y -ℤ pos 10000 in
    let here : year +ℤ pos 10000 ≡ pos y = omega (arith, signed_arith) in
    let count = day_count-late year y (march_month p) (month_day p) here (omega arith) (omega arith) (omega arith) in
    record {
      civil = ((omega (arith, signed_arith), omega (arith, signed_arith)), (omega arith, omega arith), (omega arith, day_in_month year p early));
      counted = omega (arith, count, month_and_day p low);
    }

stands_by : (b : Bool) (y p : ℕ) → nat_lt 12 (march_month p) ≡ b → p < 366 → p < 365 + leap_day (pos (suc y)) → y < 19_000 → 1 ≤ y
    → Stands (cond b (record { year = pos (y + 1) -ℤ pos 10000; month = march_month p - 12; day = month_day p })
    (record { year = pos y -ℤ pos 10000; month = march_month p; day = month_day p })) (march_days y + p + 60)
stands_by true y p e low fits top bottom = early y p low fits (grind (arith, nat_tests)) top bottom
stands_by false y p e low fits top bottom = rest_of_year y p low (grind (arith, nat_tests)) top bottom

stands : (k : ℕ) → 400 ≤ k → k < 6_000_000 → Stands (march_date (march_year k) (march_day k)) (k + 60)
stands k bottom top =
    let parts = march_parts k (omega arith) in
    let next = march_days-suc (march_year k) in
    let all = stands_by (nat_lt 12 (march_month (march_day k))) (march_year k) (march_day k) refl (omega arith) (omega (arith, next)) (omega arith) (omega arith) in
    rw parts.0 at all

-- the date of a day number is in the calendar, and has that number
pub date_of-stands : (n : ℤ) → IsDayNumber n → IsCivilDate (date_of n).year (date_of n).month (date_of n).day × (number_of (date_of n) ≡ n)
unfolding date_of
date_of-stands n h =
    let k : ℕ = march_count n in
    let same : n +ℤ pos 4_371_893 ≡ pos k = pos_abs (n +ℤ pos 4_371_893) (omega (arith, signed_arith)) in
    let long : (400 ≤ k) × (k < 6_000_000) = (omega (arith, signed_arith), omega (arith, signed_arith)) in
    let s = stands k long.0 long.1 in
    (s.civil, omega (arith, signed_arith, days_from_civil-day_count (date_of n).year (date_of n).month (date_of n).day, s.counted))
