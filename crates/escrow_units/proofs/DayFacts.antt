-- Dates, their numbers, and moving by months.
use Rattle.std.proofs.Common.{Bool, zero, true, false, eq-eqb, of_z, w8, ◌==◌, ◌≡◌, ◌∙◌, ℕ, suc, ◌+◌, ◌<◌, ◌≤◌, refl, sym, ap, arith, ℤ, pos, neg_ℤ, ◌+ℤ◌, ◌≤ℤ◌, ◌<ℤ◌, unsigned_abs, inl, inr}
use Rattle.std.proofs.lemmas.Int.{by_lt_z}
use Rattle.std.proofs.lemmas.Bool.Decides.{nat_tests}
use Rattle.jiff.specs.Words.{epoch_day, days_in_month, IsOnly, magnitude, span_months, span_days, date_add, add_months, IsShiftable, shifted_year, shifted_month, CanAddToDate}
use Rattle.jiff_span.specs.Months.{shifted_day}
use Rattle.jiff_core.specs.Calendar.{IsCivilDate, days_from_civil, day_count}
use Rattle.jiff_core.specs.Span.{clock_days}
use Rattle.jiff_core.specs.declared.civil.date.Date.{Date}
use Rattle.jiff_core.specs.declared.span.Span.{Span}
use Rattle.jiff_core.specs.declared.unit.Unit.TheVariants.{Month, Hour, Minute, Second, Millisecond, Microsecond, Nanosecond}
use Rattle.jiff_core.proofs.SignedLemmas.{signed_casts, signed_arith, unsigned_abs-parts}
use Rattle.jiff_core.proofs.MarchLemmas.{day_count-early}
use Rattle.jiff_core.proofs.CalendarLemmas.{days_from_civil-day_count, day_count-lt_year, day_count-later_year, day_count-day_of_year}
use Rattle.jiff_core.proofs.DateLemmas.{civil, epoch_day_injective, epoch_day-lt, cases_date}
use Rattle.jiff_span.proofs.MonthLemmas.{shifted_civil}
use Rattle.jiff_span.proofs.DifferenceLemmas.{signed_zero}
use Rattle.escrow_units.specs.Calendar.{CivilDate, number_of, date_of, IsBaseDay, months_later, month_end, is_month_end, thirty_day_place_of, thirty_day_place_of_date, years_after_of}
use Rattle.escrow_units.specs.DateText.{IsFieldDay}
use Rattle.escrow_units.specs.DayNumber.{IsDayNumber}
use Rattle.escrow_units.proofs.DateFacts.{date_of-stands, pos_abs}

-- a date by its parts
abbrev pub parts : Date → CivilDate
parts d = record { year = d.year; month = d.month; day = d.day }

-- a date of the calendar with a day number is the date of that number
pub date_of-number : (n : ℤ) (date : CivilDate) → IsDayNumber n → IsCivilDate date.year date.month date.day → number_of date ≡ n → date_of n ≡ date
date_of-number n date h civ e =
    let s = date_of-stands n h in
    let found : Date = record { year = (date_of n).year; month = (date_of n).month; day = (date_of n).day; year_in = s.0.0; month_in = s.0.1; day_in = s.0.2 } in
    let given : Date = record { year = date.year; month = date.month; day = date.day; year_in = civ.0; month_in = civ.1; day_in = civ.2 } in
    let same = epoch_day_injective found given (s.1 ∙ sym e) in
    λ i. record { year = same.0 i; month = same.1 i; day = same.2 i }

-- the date of a date's day number
pub date_of-date : (d : Date) → IsDayNumber (epoch_day d) → date_of (epoch_day d) ≡ parts d
date_of-date d h = date_of-number (epoch_day d) (parts d) h (civil d) refl

start_1900 : day_count (pos 1900) 1 1 ≡ 4_346_386
start_1900 = day_count-early (pos 1900) 11_899 1 1 refl (omega arith) (omega arith) (omega arith)

start_2000 : day_count (pos 2000) 1 1 ≡ 4_382_910
start_2000 = day_count-early (pos 2000) 11_999 1 1 refl (omega arith) (omega arith) (omega arith)

start_2191 : day_count (pos 2191) 1 1 ≡ 4_452_672
start_2191 = day_count-early (pos 2191) 12_190 1 1 refl (omega arith) (omega arith) (omega arith)

start_2200 : day_count (pos 2200) 1 1 ≡ 4_455_959
start_2200 = day_count-early (pos 2200) 12_199 1 1 refl (omega arith) (omega arith) (omega arith)

start_2300 : day_count (pos 2300) 1 1 ≡ 4_492_483
start_2300 = day_count-early (pos 2300) 12_299 1 1 refl (omega arith) (omega arith) (omega arith)

-- a date on or after the first of January of a year is of that year or later
not_before : (d : Date) (y : ℕ) → day_count (pos y) 1 1 ≤ day_count d.year d.month d.day → pos y ≤ℤ d.year
not_before d y h =
    by_lt_z d.year (pos y)
    (λ lt. absurd (omega (arith, day_count-lt_year d.year d.month d.day (pos y) 1 1 (civil d) (omega arith) lt)))
    (λ ge. ge)

before : (d : Date) (y : ℕ) → day_count d.year d.month d.day < day_count (pos y) 1 1 → d.year <ℤ pos y
before d y h =
    by_lt_z d.year (pos y) (λ lt. lt)
    (λ ge. by_lt_z (pos y) d.year
    (λ gt. absurd (omega (arith, day_count-later_year (pos y) d.year (omega (arith, signed_arith)) gt, day_count-day_of_year d.year d.month d.day d.day_in.0)))
    (λ le. let same : d.year ≡ pos y = omega (arith, signed_arith) in
    absurd (omega (arith, day_count-day_of_year d.year d.month d.day d.day_in.0, ap (λ z. day_count z 1 1) same))))

pub year_in_days : (d : Date) → IsDayNumber (epoch_day d) → (pos 1900 ≤ℤ d.year) × (d.year <ℤ pos 2300)
year_in_days d h =
    let count = days_from_civil-day_count d.year d.month d.day in
    (not_before d 1900 (omega (arith, signed_arith, count, start_1900)), before d 2300 (omega (arith, signed_arith, count, start_2300)))

pub year_in_base : (d : Date) → IsBaseDay (epoch_day d) → (pos 2000 ≤ℤ d.year) × (d.year <ℤ pos 2191)
year_in_base d h =
    let count = days_from_civil-day_count d.year d.month d.day in
    (not_before d 2000 (omega (arith, signed_arith, count, start_2000)), before d 2191 (omega (arith, signed_arith, count, start_2191)))

pub year_in_field : (d : Date) → IsFieldDay (epoch_day d) → (pos 1900 ≤ℤ d.year) × (d.year <ℤ pos 2200)
year_in_field d h =
    let count = days_from_civil-day_count d.year d.month d.day in
    (not_before d 1900 (omega (arith, signed_arith, count, start_1900)), before d 2200 (omega (arith, signed_arith, count, start_2200)))

-- a date of these years has a day number of these years
pub days_in_years : (y : ℤ) (m d : ℕ) → IsCivilDate y m d → pos 1900 ≤ℤ y → y <ℤ pos 2300 → IsDayNumber (days_from_civil y m d)
days_in_years y m d h low high =
    let count = days_from_civil-day_count y m d in
    let top = day_count-lt_year y m d (pos 2300) 1 1 h (omega arith) high in
    by_lt_z (pos 1900) y
    (λ lt. let bottom = day_count-later_year (pos 1900) y (omega (arith, signed_arith)) lt in
    (omega (arith, signed_arith, count, start_1900, bottom, day_count-day_of_year y m d h.2.0), omega (arith, signed_arith, count, top, start_2300)))
    (λ ge. let same : y ≡ pos 1900 = omega (arith, signed_arith) in
    (omega (arith, signed_arith, count, start_1900, ap (λ z. day_count z 1 1) same, day_count-day_of_year y m d h.2.0), omega (arith, signed_arith, count, top, start_2300)))

-- and one of the years of fields is a day of fields
pub days_in_field : (y : ℤ) (m d : ℕ) → IsCivilDate y m d → pos 1900 ≤ℤ y → y <ℤ pos 2200 → IsFieldDay (days_from_civil y m d)
days_in_field y m d h low high =
    let count = days_from_civil-day_count y m d in
    let top = day_count-lt_year y m d (pos 2200) 1 1 h (omega arith) high in
    ((days_in_years y m d h low (omega (arith, signed_arith, high))).0, omega (arith, signed_arith, count, top, start_2200))

no_clock : (s : Span) → magnitude Hour s ≡ 0 → magnitude Minute s ≡ 0 → magnitude Second s ≡ 0 → magnitude Millisecond s ≡ 0 → magnitude Microsecond s ≡ 0 → magnitude Nanosecond s ≡ 0 → clock_days s ≡ pos 0
no_clock s a b c d e f = signed_zero s.negative _ (omega arith)

-- a span of months moves the date by that many months
pub date_add-months : (a : Date) (n : ℤ) (s : Span) → IsOnly Month n s → date_add a s ≡ add_months a n
date_add-months a n s h =
    let d : span_days s ≡ pos 0 = omega (arith, signed_arith, h.days) in
    let m : span_months s ≡ n = omega (arith, signed_arith, h.months) in
    let k : clock_days s ≡ pos 0 = no_clock s (h.others Hour (omega arith)) (h.others Minute (omega arith)) (h.others Second (omega arith)) (h.others Millisecond (omega arith)) (h.others Microsecond (omega arith)) (h.others Nanosecond (omega arith)) in
    rw (m, d, k) (omega (arith, signed_arith))

-- from a base day, up to fifty years of months lead to a day that a `Day` has
pub months_lead : (a : Date) (k : ℤ) → IsBaseDay (epoch_day a) → unsigned_abs k ≤ 600 → IsShiftable a k × IsDayNumber (add_months a k)
months_lead a k h few =
    let y = year_in_base a h in
    let small = unsigned_abs-parts k in
    let low : pos 1900 ≤ℤ shifted_year a k = omega (arith, signed_arith, y, small, a.month_in) in
    let high : shifted_year a k <ℤ pos 2300 = omega (arith, signed_arith, y, small, a.month_in) in
    let can : IsShiftable a k = (omega (arith, signed_arith), omega (arith, signed_arith)) in
    (can, days_in_years _ _ _ (shifted_civil a k can) low high)

pub can_add-months : (a : Date) (n : ℤ) (s : Span) → IsOnly Month n s → IsBaseDay (epoch_day a) → unsigned_abs n ≤ 600 → CanAddToDate a s
can_add-months a n s h base few =
    let m : span_months s ≡ n = omega (arith, signed_arith, h.months) in
    let lead = months_lead a n base few in
    (rw m lead.0, rw (date_add-months a n s h) (omega (arith, signed_arith, lead.1)))

-- what the crate and the definition here make of a shift are one
pub add_months-later : (a : Date) (k : ℤ) → IsDayNumber (epoch_day a) → add_months a k ≡ number_of (months_later (date_of (epoch_day a)) k)
add_months-later a k h = rw (date_of-date a h) refl

-- the place of a date in years of 360 days
pub thirty_day_place_of-date : (d : Date) → IsDayNumber (epoch_day d) → thirty_day_place_of (epoch_day d) ≡ thirty_day_place_of_date (parts d)
thirty_day_place_of-date d h = rw (date_of-date d h) refl

-- a later date has no smaller place
thirty_day_place_of_date-mono : (a b : Date) → pos 0 ≤ℤ a.year → pos 0 ≤ℤ b.year → epoch_day a ≤ℤ epoch_day b → thirty_day_place_of_date (parts a) ≤ thirty_day_place_of_date (parts b)
thirty_day_place_of_date-mono a b ya yb le =
    let ua = pos_abs a.year ya in
    let ub = pos_abs b.year yb in
    elim (cases_date a b) [
      | inl (inl year) ↦ omega (arith, signed_arith, ua, ub, a.month_in, b.month_in, b.day_in.0)
      | inl (inr (year, inl month)) ↦ omega (arith, signed_arith, ua, ub, year, month, a.day_in.0, b.day_in.0)
      | inl (inr (year, inr day)) ↦ omega (arith, signed_arith, ua, ub, year, day)
      | inr (inl gt) ↦ absurd (omega (arith, signed_arith, epoch_day-lt b a gt))
      | inr (inr same) ↦ omega (arith, signed_arith, ua, ub, same)
    ]

-- the date of a day number, as the calendar's crate has it
pub date_at : (n : ℤ) → IsDayNumber n → (d : Date) × (epoch_day d ≡ n)
date_at n h =
    let s = date_of-stands n h in
    (record { year = (date_of n).year; month = (date_of n).month; day = (date_of n).day; year_in = s.0.0; month_in = s.0.1; day_in = s.0.2 }, s.1)

-- the same of day numbers
pub thirty_day_place_of-mono : (a b : ℤ) → IsDayNumber a → IsDayNumber b → a ≤ℤ b → thirty_day_place_of a ≤ thirty_day_place_of b
thirty_day_place_of-mono a b ha hb le =
    let da = date_at a ha in
    let db = date_at b hb in
    let in_a : IsDayNumber (epoch_day da.0) = rw da.1 ha in
    let in_b : IsDayNumber (epoch_day db.0) = rw db.1 hb in
    let ya = year_in_days da.0 in_a in
    let yb = year_in_days db.0 in_b in
    let later = thirty_day_place_of_date-mono da.0 db.0 (omega (arith, signed_arith, ya)) (omega (arith, signed_arith, yb)) (rw (da.1, db.1) le) in
    let same_a : thirty_day_place_of a ≡ thirty_day_place_of_date (parts da.0) = rw da.1 at (thirty_day_place_of-date da.0 in_a) in
    let same_b : thirty_day_place_of b ≡ thirty_day_place_of_date (parts db.0) = rw db.1 at (thirty_day_place_of-date db.0 in_b) in
    rw (same_a, same_b) later

-- a day up to 40 years later has a place that is at most 40 times 360 greater
pub thirty_day_place_of-years : (s n : ℤ) → IsDayNumber s → IsDayNumber n → n ≤ℤ years_after_of s 40 → thirty_day_place_of n ≤ thirty_day_place_of s + 14_400
thirty_day_place_of-years s n hs hn near =
    let from = date_at s hs in
    let to = date_at n hn in
    let in_from : IsDayNumber (epoch_day from.0) = rw from.1 hs in
    let in_to : IsDayNumber (epoch_day to.0) = rw to.1 hn in
    let yf = year_in_days from.0 in_from in
    let yt = year_in_days to.0 in_to in
    let can : IsShiftable from.0 (pos 480) = (omega (arith, signed_arith, yf, from.0.month_in), omega (arith, signed_arith, yf, from.0.month_in)) in
    let civ = shifted_civil from.0 (pos 480) can in
    let end : Date = record { year = shifted_year from.0 (pos 480); month = shifted_month from.0 (pos 480); day = shifted_day from.0 (pos 480); year_in = civ.0; month_in = civ.1; day_in = civ.2 } in
    let year : end.year ≡ from.0.year +ℤ pos 40 = omega (arith, signed_arith, from.0.month_in) in
    let month : end.month ≡ from.0.month = omega (arith, signed_arith, from.0.month_in) in
    let at_end : epoch_day end ≡ years_after_of s 40 = rw from.1 at (add_months-later from.0 (pos 480) in_from) in
    let later = thirty_day_place_of_date-mono to.0 end (omega (arith, signed_arith, yt)) (omega (arith, signed_arith, yf, year)) (rw (to.1, at_end) near) in
    let same_from : thirty_day_place_of s ≡ thirty_day_place_of_date (parts from.0) = rw from.1 at (thirty_day_place_of-date from.0 in_from) in
    let same_to : thirty_day_place_of n ≡ thirty_day_place_of_date (parts to.0) = rw to.1 at (thirty_day_place_of-date to.0 in_to) in
    let uf = pos_abs from.0.year (omega (arith, signed_arith, yf)) in
    let ue = pos_abs end.year (omega (arith, signed_arith, yf, year)) in
    let day : end.day ≤ from.0.day = omega arith in
    let top : thirty_day_place_of_date (parts end) ≤ thirty_day_place_of_date (parts from.0) + 14_400 = omega (arith, signed_arith, uf, ue, year, month, day) in
    rw (same_from, same_to) (omega (arith, later, top))

-- a date that a shift by months gave
pub moved : (n : ℤ) (a b : Date) (k : ℤ) → IsBaseDay n → epoch_day a ≡ n → epoch_day b ≡ add_months a k → unsigned_abs k ≤ 600
    → (epoch_day b ≡ number_of (months_later (date_of n) k)) × IsDayNumber (epoch_day b)
moved n a b k h e f few =
    let base : IsBaseDay (epoch_day a) = rw e h in
    let own : IsDayNumber (epoch_day a) = (omega (arith, signed_arith, base), omega (arith, signed_arith, base)) in
    (rw (← e) (f ∙ add_months-later a k own), rw f (months_lead a k base few).1)

-- the last of its month
pub ended : (n : ℤ) (a b e : Date) (k : ℤ) → IsBaseDay n → epoch_day a ≡ n → epoch_day b ≡ add_months a k → unsigned_abs k ≤ 600
    → e.year ≡ b.year → e.month ≡ b.month → e.day ≡ days_in_month b.year b.month
    → (epoch_day e ≡ number_of (month_end (months_later (date_of n) k))) × IsDayNumber (epoch_day e)
ended n a b e k h ea eb few y m d =
    let base : IsBaseDay (epoch_day a) = rw ea h in
    let own : IsDayNumber (epoch_day a) = (omega (arith, signed_arith, base), omega (arith, signed_arith, base)) in
    let at_a : date_of n ≡ parts a = rw ea at (date_of-date a own) in
    let lead = months_lead a k base few in
    let civ = shifted_civil a k lead.0 in
    let made : Date = record { year = shifted_year a k; month = shifted_month a k; day = shifted_day a k; year_in = civ.0; month_in = civ.1; day_in = civ.2 } in
    let same = epoch_day_injective b made eb in
    let at_b = year_in_days b (rw eb lead.1) in
    (rw (at_a, y, m, d, same.0, same.1) refl, days_in_years e.year e.month e.day (civil e) (rw y at_b.0) (rw y at_b.1))

-- whether a day is the last of its month
pub month_end_test : (n : ℤ) (a : Date) (b : Bool) → IsDayNumber n → epoch_day a ≡ n → (a.day == days_in_month a.year a.month) ≡ b → is_month_end (date_of n) ≡ b
month_end_test n a b h e t =
    let at_a : date_of n ≡ parts a = rw e at (date_of-date a (rw e h)) in
    rw at_a t

-- a base day is a day that a `Day` has
pub base_number : (n : ℤ) → IsBaseDay n → IsDayNumber n
base_number n base = (omega (arith, signed_arith, base), omega (arith, signed_arith, base))

pub abs-neg : (n : ℕ) → unsigned_abs (neg_ℤ (pos n)) ≡ n
abs-neg zero = refl
abs-neg (suc n) = refl

-- a day's number and its month's length in the program's small integers
pub test_true : (a b : ℕ) → a ≤ 31 → b ≤ 31 → of_z w8 (pos a) ≡ of_z w8 (pos b) → (a == b) ≡ true
test_true a b ha hb e =
    let same : a ≡ b = omega (arith, signed_casts, e) in
    eq-eqb a b same

pub test_false : (a b : ℕ) → a ≤ 31 → b ≤ 31 → (of_z w8 (pos a) ≡ of_z w8 (pos b) → ⊥) → (a == b) ≡ false
test_false a b ha hb e = grind (arith, nat_tests, e)
