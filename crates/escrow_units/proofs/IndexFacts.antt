-- Days that are apart have indexes that are apart.
use Rattle.std.proofs.Common.{◌≡◌, ◌+◌, ◌≤◌, refl, arith, ℤ, pos, ◌+ℤ◌, ◌≤ℤ◌, inl, inr}
use Rattle.jiff.specs.Words.{epoch_day}
use Rattle.jiff_core.specs.Calendar.{days_from_civil}
use Rattle.jiff_core.specs.declared.civil.date.Date.{Date}
use Rattle.jiff_core.proofs.SignedLemmas.{signed_arith}
use Rattle.jiff_core.proofs.CalendarLemmas.{days_in_month_bounds}
use Rattle.jiff_core.proofs.DateLemmas.{days_from_civil-day, epoch_day-lt, epoch_day_same, cases_date}
use Rattle.escrow_units.specs.Calendar.{thirty_day_place_of, thirty_day_place_of_date}
use Rattle.escrow_units.specs.DayNumber.{IsDayNumber}
use Rattle.escrow_units.proofs.DateFacts.{pos_abs}
use Rattle.escrow_units.proofs.DayFacts.{parts, year_in_days, date_at, thirty_day_place_of-date}

-- only a 30th and the 31st after it have one place
thirty_day_place_of_date-apart : (a b : Date) → pos 0 ≤ℤ a.year → pos 0 ≤ℤ b.year → (epoch_day a +ℤ pos 2) ≤ℤ epoch_day b → thirty_day_place_of_date (parts a) + 1 ≤ thirty_day_place_of_date (parts b)
thirty_day_place_of_date-apart a b ya yb apart =
    let ua = pos_abs a.year ya in
    let ub = pos_abs b.year yb in
    elim (cases_date a b) [
      | inl (inl year) ↦ omega (arith, signed_arith, ua, ub, a.month_in, b.month_in, b.day_in.0)
      | inl (inr (year, inl month)) ↦ omega (arith, signed_arith, ua, ub, year, month, a.day_in.0, b.day_in.0)
      | inl (inr (year, inr day)) ↦
          (let same = days_from_civil-day a.year a.month a.day b.day a.day_in.0 b.day_in.0 in
          let same_date : epoch_day b ≡ days_from_civil a.year a.month b.day = rw (year, day.0) refl in
          omega (arith, signed_arith, ua, ub, year, day, same, same_date, apart, b.day_in.1, (days_in_month_bounds b.year b.month).0))
      | inr (inl gt) ↦ absurd (omega (arith, signed_arith, epoch_day-lt b a gt, apart))
      | inr (inr same) ↦ absurd (omega (arith, signed_arith, epoch_day_same a b same.0 same.1 same.2, apart))
    ]

pub thirty_day_place_of-apart : (a b : ℤ) → IsDayNumber a → IsDayNumber b → (a +ℤ pos 2) ≤ℤ b → thirty_day_place_of a + 1 ≤ thirty_day_place_of b
thirty_day_place_of-apart a b ha hb apart =
    let da = date_at a ha in
    let db = date_at b hb in
    let in_a : IsDayNumber (epoch_day da.0) = rw da.1 ha in
    let in_b : IsDayNumber (epoch_day db.0) = rw db.1 hb in
    let ya = year_in_days da.0 in_a in
    let yb = year_in_days db.0 in_b in
    let later = thirty_day_place_of_date-apart da.0 db.0 (omega (arith, signed_arith, ya)) (omega (arith, signed_arith, yb)) (rw (da.1, db.1) apart) in
    let same_a : thirty_day_place_of a ≡ thirty_day_place_of_date (parts da.0) = rw da.1 at (thirty_day_place_of-date da.0 in_a) in
    let same_b : thirty_day_place_of b ≡ thirty_day_place_of_date (parts db.0) = rw db.1 at (thirty_day_place_of-date db.0 in_b) in
    rw (same_a, same_b) later
