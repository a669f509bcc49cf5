-- Which days are a 29 February.
use Rattle.std.proofs.Common.{◌≡◌, ◌∙◌, ℕ, ◌+◌, ◌≤◌, ◌==◌, ◌&&◌, ◌||◌, min, zero, suc, refl, sym, ap, arith, ℤ, pos, ◌+ℤ◌, ◌-ℤ◌, ◌≤ℤ◌, ◌<ℤ◌, inl, inr, ◌⊎◌, Bool, true, false, eq-eqb, eqb-true, if◌then◌else◌}
use Rattle.std.proofs.lemmas.Bool.{cases_lt}
use Rattle.std.proofs.lemmas.Int.{by_lt_z}
use Rattle.jiff_core.specs.Calendar.{IsYear, IsCivilDate, days_from_civil, days_in_month}
use Rattle.jiff_core.specs.Date.{epoch_day}
use Rattle.jiff_core.specs.declared.civil.date.Date.{Date}
use Rattle.jiff_core.proofs.SignedLemmas.{signed_arith}
use Rattle.jiff_core.proofs.CalendarLemmas.{days_in_month_bounds}
use Rattle.escrow_units.specs.Calendar.{CivilDate, date_of, number_of, later_year, later_month, months_later, years_after_of, thirty_day_place_of_date, IsBaseDay}
use Rattle.escrow_units.specs.DayNumber.{IsDayNumber}
use Rattle.escrow_units.specs.SlgsTerms.{IsSettlement}
use Rattle.escrow_units.proofs.DateFacts.{date_of-stands, pos_abs}
use Rattle.escrow_units.proofs.DayFacts.{date_of-number, thirty_day_place_of-mono}
use Rattle.escrow_units.proofs.SeriesFacts.{base_date, IsBaseDate, leap_day_bound, february, years_after_of-none}
use Rattle.escrow_units.proofs.YearFacts.{years_after_of-passes, years_after_of-day}
use Rattle.escrow_units.specs.Series.{days_between_of}
use Rattle.slgs_interest.specs.LeapDay.{HasLeapDay}
use Rattle.slgs_interest.specs.PaymentLaws.{IsLeapDayBetween}
use Rattle.slgs_interest.specs.Payments.{is_leap_day, has_leap_day, basis_of}

-- a 29 February among some days after a day
found_by_more : (a b : Bool) → a ≡ true → (a || b) ≡ true
found_by_more true b e = refl
found_by_more false b e = cc e

found_by_rest : (a b : Bool) → b ≡ true → (a || b) ≡ true
found_by_rest true b e = refl
found_by_rest false b e = e

pub has_leap_day-at : (day : ℤ) (n k : ℕ) → 1 ≤ k → k ≤ n → is_leap_day (day +ℤ pos k) ≡ true → has_leap_day day n ≡ true
unfolding has_leap_day
has_leap_day-at day zero k some few leap = absurd (omega arith)
has_leap_day-at day (suc n) k some few leap =
    elim (cases_lt k (n + 1)) [
      | inl before ↦ found_by_rest (is_leap_day (day +ℤ pos (n + 1))) _ (has_leap_day-at day n k some (omega arith) leap)
      | inr last ↦
          let same : k ≡ n + 1 = omega arith in
          found_by_more (is_leap_day (day +ℤ pos (n + 1))) _ (rw same at leap)
    ]

record IsLeapDayAt (day : ℤ) (n : ℕ) : Type 0 where
  place : ℕ
  some : 1 ≤ place
  few : place ≤ n
  leap : is_leap_day (day +ℤ pos place) ≡ true

either : (a b : Bool) → (a || b) ≡ true → (a ≡ true) ⊎ (b ≡ true)
either true b e = inl refl
either false b e = inr e

has_leap_day-found : (day : ℤ) (n : ℕ) → has_leap_day day n ≡ true → IsLeapDayAt day n
unfolding has_leap_day
has_leap_day-found day zero e = cc e
has_leap_day-found day (suc n) e =
    elim (either (is_leap_day (day +ℤ pos (n + 1))) (has_leap_day day n) e) [
      | inl here ↦ record { place = n + 1; some = omega arith; few = omega arith; leap = here }
      | inr before ↦
          let rest = has_leap_day-found day n before in
          record { place = rest.place; some = rest.some; few = omega (arith, rest.few); leap = rest.leap }
    ]

-- the date of a 29 February
both : (a b : Bool) → a ≡ true → b ≡ true → (a && b) ≡ true
both a b e f = rw (e, f) refl

pub leap_day-test : (year : ℤ) → IsYear year → days_in_month year 2 ≡ 29 → IsDayNumber (days_from_civil year 2 29)
    → is_leap_day (days_from_civil year 2 29) ≡ true
leap_day-test year h leap own =
    let civil : IsCivilDate year 2 29 = (h, (omega arith, omega arith), (omega arith, omega (arith, leap))) in
    let date : CivilDate = record { year = year; month = 2; day = 29 } in
    let e = date_of-number (days_from_civil year 2 29) date own civil refl in
    both _ _ (eq-eqb (date_of (days_from_civil year 2 29)).month 2 (ap (λ (d : CivilDate). d.month) e))
    (eq-eqb (date_of (days_from_civil year 2 29)).day 29 (ap (λ (d : CivilDate). d.day) e))

-- a year after a day is in the next year
next_year : (settle : ℤ) → IsSettlement settle → (date_of (years_after_of settle 1)).year ≡ (date_of settle).year +ℤ pos 1
next_year settle h =
    let from : IsBaseDay settle = (h.0, omega (arith, signed_arith, h.1)) in
    let base = base_date settle from in
    let own = years_after_of-day settle 1 from (omega arith) in
    let year : later_year (date_of settle) (pos 12) ≡ (date_of settle).year +ℤ pos 1 = omega (arith, signed_arith, base.low_month, base.high_month, base.low_year) in
    let month : later_month (date_of settle) (pos 12) ≡ (date_of settle).month = omega (arith, signed_arith, base.low_month, base.high_month, base.low_year) in
    let long = days_in_month_bounds (later_year (date_of settle) (pos 12)) (later_month (date_of settle) (pos 12)) in
    let civil : IsCivilDate (later_year (date_of settle) (pos 12)) (later_month (date_of settle) (pos 12))
    (min (date_of settle).day (days_in_month (later_year (date_of settle) (pos 12)) (later_month (date_of settle) (pos 12)))) = (
      (omega (arith, signed_arith, year, base.low_year), omega (arith, signed_arith, year, base.high_year)),
      (omega (arith, month, base.low_month), omega (arith, month, base.high_month)),
      (omega (arith, base.low_day), omega arith),
    ) in
    ap (λ (d : CivilDate). d.year) (date_of-number (years_after_of settle 1) (months_later (date_of settle) (pos 12)) own civil refl) ∙ year

-- days in order have years in order
index-years : (a b : CivilDate) → IsBaseDate a → IsBaseDate b → thirty_day_place_of_date a ≤ thirty_day_place_of_date b → a.year ≤ℤ b.year
index-years a b p q h =
    let from = pos_abs a.year (omega (arith, signed_arith, p.low_year)) in
    let to = pos_abs b.year (omega (arith, signed_arith, q.low_year)) in
    omega (arith, signed_arith, from, to, p.low_month, q.high_month)

-- days of at most a year have at most two years
two-years : (settle maturity : ℤ) → IsSettlement settle → IsBaseDay maturity → maturity ≤ℤ years_after_of settle 1
    → (date_of maturity).year ≤ℤ ((date_of settle).year +ℤ pos 1)
two-years settle maturity h base term =
    let from : IsBaseDay settle = (h.0, omega (arith, signed_arith, h.1)) in
    let own : IsDayNumber settle = (omega (arith, signed_arith, h.0), omega (arith, signed_arith, h.1)) in
    let to : IsDayNumber maturity = (omega (arith, signed_arith, base.0), omega (arith, signed_arith, base.1)) in
    let none = years_after_of-none settle own in
    let year = years_after_of-passes settle 0 1 from (omega arith) in
    let later : IsBaseDay (years_after_of settle 1) = (omega (arith, signed_arith, h.0, year.least, none), omega (arith, signed_arith, h.1, year.most, none)) in
    let rise = thirty_day_place_of-mono maturity (years_after_of settle 1) to (years_after_of-day settle 1 from (omega arith)) term in
    let order = index-years (date_of maturity) (date_of (years_after_of settle 1)) (base_date maturity base) (base_date (years_after_of settle 1) later) rise in
    omega (arith, signed_arith, order, next_year settle h)

-- a 29 February of one of the two years is found among the days
leap-found : (settle maturity year : ℤ) → IsSettlement settle → IsBaseDay maturity → IsYear year → HasLeapDay year settle maturity
    → has_leap_day settle (days_between_of settle maturity) ≡ true
leap-found settle maturity year h base in_range leap =
    let own : IsDayNumber (days_from_civil year 2 29) = (omega (arith, signed_arith, h.0, leap.late), omega (arith, signed_arith, base.1, leap.early)) in
    let whole = count settle maturity (omega (arith, signed_arith, leap.late, leap.early)) in
    let part = count settle (days_from_civil year 2 29) (omega (arith, signed_arith, leap.late)) in
    let test = leap_day-test year in_range leap.leap own in
    has_leap_day-at settle (days_between_of settle maturity) (days_between_of settle (days_from_civil year 2 29))
    (omega (arith, signed_arith, part, leap.late)) (omega (arith, signed_arith, part, whole, leap.early)) (rw part test)
  where
    count : (from to : ℤ) → from ≤ℤ to → from +ℤ pos (days_between_of from to) ≡ to
    count from to order =
        let e = pos_abs (to -ℤ from) (omega (arith, signed_arith, order)) in
        omega (arith, signed_arith, e)

-- and such a day among them is of one of the two years
first_test : (a b : Bool) → (a && b) ≡ true → a ≡ true
first_test true b e = refl
first_test false b e = cc e

last_test : (a b : Bool) → (a && b) ≡ true → b ≡ true
last_test true b e = e
last_test false b e = cc e

leap-year : (settle maturity day : ℤ) → IsSettlement settle → IsBaseDay maturity → maturity ≤ℤ years_after_of settle 1
    → settle <ℤ day → day ≤ℤ maturity → is_leap_day day ≡ true
    → HasLeapDay (date_of settle).year settle maturity ⊎ HasLeapDay (date_of maturity).year settle maturity
leap-year settle maturity day h base term late early leap =
    let from : IsBaseDay settle = (h.0, omega (arith, signed_arith, h.1)) in
    let here : IsBaseDay day = (omega (arith, signed_arith, h.0, late), omega (arith, signed_arith, base.1, early)) in
    let number = (λ (n : ℤ) (b : IsBaseDay n). day_of_base n b) in
    let stands = date_of-stands day (number day here) in
    let month : (date_of day).month ≡ 2 = eqb-true (date_of day).month 2 (first_test ((date_of day).month == 2) ((date_of day).day == 29) leap) in
    let last : (date_of day).day ≡ 29 = eqb-true (date_of day).day 29 (last_test ((date_of day).month == 2) ((date_of day).day == 29) leap) in
    let date = date_of day in
    let at : days_from_civil date.year 2 29 ≡ day = at_number date day month last stands.1 in
    let long = february date.year in
    let bound = leap_day_bound date.year in
    let fits : 29 ≤ days_in_month date.year 2 = fits_month date.year date.month date.day month last stands.0.2.1 in
    let has : HasLeapDay date.year settle maturity = record {
      leap = omega arith;
      late = omega (arith, signed_arith, at, late);
      early = omega (arith, signed_arith, at, early);
    } in
    let after = index-years (date_of settle) date (base_date settle from) (base_date day here) (thirty_day_place_of-mono settle day (number settle from) (number day here) (omega (arith, signed_arith, late))) in
    let before = index-years date (date_of maturity) (base_date day here) (base_date maturity base) (thirty_day_place_of-mono day maturity (number day here) (number maturity base) early) in
    let two = two-years settle maturity h base term in
    by_lt_z (date_of settle).year date.year
    (λ later. inr (along_year _ _ settle maturity (omega (arith, signed_arith, later, before, two)) has))
    (λ first. inl (along_year _ _ settle maturity (omega (arith, signed_arith, first, after)) has))
  where
    day_of_base : (n : ℤ) → IsBaseDay n → IsDayNumber n
    day_of_base n b = (omega (arith, signed_arith, b.0), omega (arith, signed_arith, b.1))

    at_number : (date : CivilDate) (day : ℤ) → date.month ≡ 2 → date.day ≡ 29 → number_of date ≡ day → days_from_civil date.year 2 29 ≡ day
    at_number date day e f g = (λ i. days_from_civil date.year (sym e i) (sym f i)) ∙ g

    fits_month : (year : ℤ) (m d : ℕ) → m ≡ 2 → d ≡ 29 → d ≤ days_in_month year m → 29 ≤ days_in_month year 2
    fits_month year m d e f g = rw (e, f) at g

    along_year : (y z settle maturity : ℤ) → y ≡ z → HasLeapDay y settle maturity → HasLeapDay z settle maturity
    along_year y z settle maturity e g = rw e at g

-- the basis by the leap days of the two years
pub basis-leap : (settle maturity : ℤ) → IsSettlement settle → IsBaseDay maturity
    → HasLeapDay (date_of settle).year settle maturity ⊎ HasLeapDay (date_of maturity).year settle maturity
    → 366 ≡ basis_of settle maturity
basis-leap settle maturity h base leap =
    let from : IsBaseDay settle = (h.0, omega (arith, signed_arith, h.1)) in
    let found : has_leap_day settle (days_between_of settle maturity) ≡ true = elim leap [
      | inl first ↦ leap-found settle maturity (date_of settle).year h base (year_range settle from) first
      | inr last ↦ leap-found settle maturity (date_of maturity).year h base (year_range maturity base) last
    ] in
    rw found refl
  where
    year_range : (n : ℤ) → IsBaseDay n → IsYear (date_of n).year
    year_range n b = let date = base_date n b in (omega (arith, signed_arith, date.low_year), omega (arith, signed_arith, date.high_year))

pub basis-common : (settle maturity : ℤ) → IsSettlement settle → IsBaseDay maturity → settle ≤ℤ maturity → maturity ≤ℤ years_after_of settle 1
    → ¬ (HasLeapDay (date_of settle).year settle maturity ⊎ HasLeapDay (date_of maturity).year settle maturity)
    → 365 ≡ basis_of settle maturity
basis-common settle maturity h base order term none = at (has_leap_day settle (days_between_of settle maturity)) refl
  where
    at : (t : Bool) → has_leap_day settle (days_between_of settle maturity) ≡ t → ◌≡◌ {A = ℕ} 365 (if t then 366 else 365)
    at false e = refl
    at true e =
        let found = has_leap_day-found settle (days_between_of settle maturity) e in
        let whole = pos_abs (maturity -ℤ settle) (omega (arith, signed_arith, order)) in
        absurd (none (leap-year settle maturity (settle +ℤ pos found.place) h base term
        (omega (arith, signed_arith, found.some)) (omega (arith, signed_arith, found.few, whole)) found.leap))

same_day : (date : Date) (year : ℤ) → date.year ≡ year → date.month ≡ 2 → date.day ≡ 29 → days_from_civil year 2 29 ≡ epoch_day date
same_day date year e f g = λ i. days_from_civil (sym e i) (sym f i) (sym g i)

-- the 29 February of a year, where its February ends then
pub leap-end : (year after last : ℤ) (date : Date) → date.year ≡ year → date.month ≡ 2 → date.day ≡ min 29 (days_in_month year 2) → 29 ≤ date.day
    → after <ℤ epoch_day date → epoch_day date ≤ℤ last → HasLeapDay year after last
leap-end year after last date e f g long late early =
    let bound = leap_day_bound year in
    let most = february year in
    let at : days_from_civil year 2 29 ≡ epoch_day date = same_day date year e f (omega arith) in
    record { leap = omega arith; late = omega (arith, signed_arith, at, late); early = omega (arith, signed_arith, at, early) }

pub end-leap : (year after last : ℤ) (date : Date) → date.year ≡ year → date.month ≡ 2 → date.day ≡ min 29 (days_in_month year 2)
    → HasLeapDay year after last → (after <ℤ epoch_day date) × (epoch_day date ≤ℤ last)
end-leap year after last date e f g has =
    let at : days_from_civil year 2 29 ≡ epoch_day date = same_day date year e f (omega (arith, g, has.leap)) in
    (omega (arith, signed_arith, at, has.late), omega (arith, signed_arith, at, has.early))

-- the basis is 366 exactly where one of the days is a 29 February
pub basis-counts : (settle maturity : ℤ) → settle ≤ℤ maturity
    → ((basis_of settle maturity ≡ 366) → ((day : ℤ) × IsLeapDayBetween settle maturity day))
    × (((day : ℤ) × IsLeapDayBetween settle maturity day) → basis_of settle maturity ≡ 366)
basis-counts settle maturity order =
    (λ e. found (has_leap_day settle (days_between_of settle maturity)) refl e, λ leap. counted leap.0 leap.1)
  where
    whole : maturity -ℤ settle ≡ pos (days_between_of settle maturity)
    whole = pos_abs (maturity -ℤ settle) (omega (arith, signed_arith, order))

    found : (t : Bool) → has_leap_day settle (days_between_of settle maturity) ≡ t → ◌≡◌ {A = ℕ} (if t then 366 else 365) 366
        → (day : ℤ) × IsLeapDayBetween settle maturity day
    found false e f = absurd (omega arith)
    found true e f =
        let leap = has_leap_day-found settle (days_between_of settle maturity) e in (
          settle +ℤ pos leap.place,
          record {
            late = omega (arith, signed_arith, leap.some);
            early = omega (arith, signed_arith, leap.few, whole);
            leap = leap.leap;
          },
        )

    choice-366 : (t : Bool) → t ≡ true → ◌≡◌ {A = ℕ} (if t then 366 else 365) 366
    choice-366 t e = rw e refl

    counted : (day : ℤ) → IsLeapDayBetween settle maturity day → basis_of settle maturity ≡ 366
    counted day leap =
        let part = pos_abs (day -ℤ settle) (omega (arith, signed_arith, leap.late)) in
        let at : settle +ℤ pos (days_between_of settle day) ≡ day = omega (arith, signed_arith, part) in
        let has = has_leap_day-at settle (days_between_of settle maturity) (days_between_of settle day)
        (omega (arith, signed_arith, part, leap.late)) (omega (arith, signed_arith, part, whole, leap.early)) (rw at leap.leap) in
        choice-366 (has_leap_day settle (days_between_of settle maturity)) has
