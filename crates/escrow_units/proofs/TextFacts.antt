-- The text of a day spells it, and nothing else does.
use Rattle.std.proofs.Common.{Bool, true, false, if◌then◌else◌, nat_le, ◌&&◌, ◌==◌, ◌≡◌, ℕ, ◌+◌, ◌-◌, ◌*◌, ◌/◌, ◌%◌, ◌<◌, ◌≤◌, List, [], ◌∷◌, ◌++◌, Option, Some, None, refl, arith, ℤ, pos, unsigned_abs}
use Rattle.std.proofs.lemmas.Bool.Decides.{nat_tests}
use Rattle.std.proofs.lemmas.Option.{cond_some, none-some, option_and_then_some}
use Rattle.jiff_core.specs.Calendar.{days_in_month, days_from_civil, IsCivilDate}
use Rattle.jiff_core.specs.declared.civil.date.Date.{Date}
use Rattle.jiff_core.proofs.SignedLemmas.{signed_arith}
use Rattle.jiff_core.proofs.CalendarLemmas.{days_in_month_bounds}
use Rattle.escrow_units.specs.Calendar.{date_of}
use Rattle.escrow_units.specs.DateText.{two_digits, date_number, day_of, day_text, IsFieldDay}
use Rattle.escrow_units.specs.DayNumber.{IsDayNumber}
use Rattle.escrow_units.specs.Digits.{last_digits}
use Rattle.escrow_units.proofs.DateFacts.{date_of-stands, pos_abs}
use Rattle.escrow_units.proofs.DayFacts.{date_of-number, year_in_field, days_in_field}

last_two : (n : ℕ) → last_digits 2 n ≡ (48 + n / 10 % 10) ∷ (48 + n % 10) ∷ []
unfolding last_digits
last_two n = refl

last_four : (n : ℕ) → last_digits 4 n ≡ (48 + n / 10 / 10 / 10 % 10) ∷ (48 + n / 10 / 10 % 10) ∷ (48 + n / 10 % 10) ∷ (48 + n % 10) ∷ []
unfolding last_digits
last_four n = refl

some_if : {A : Type 0} (b : Bool) (x y : A) → b ≡ true → x ≡ y → (if b then Some x else None) ≡ Some y
some_if b x y t e = rw (t, e) refl

two_digits-from : (t o : ℕ) → t < 10 → o < 10 → two_digits (48 + t) (48 + o) ≡ Some (10 * t + o)
two_digits-from t o ht ho = some_if _ _ _ (grind (arith, nat_tests)) (omega arith)

-- two digits and their number
record AreDigits (t o n : ℕ) : Type 0 where
  tens : t ≡ 48 + n / 10
  ones : o ≡ 48 + n % 10
  below : n < 100

two_digits-some : (t o n : ℕ) → two_digits t o ≡ Some n → AreDigits t o n
two_digits-some t o n e =
    let p = cond_some (nat_le 48 t && nat_le t 57 && nat_le 48 o && nat_le o 57) (10 * (t - 48) + (o - 48)) n e in
    let test = p.0 in
    let low : 48 ≤ t = grind (arith, nat_tests) in
    let high : t ≤ 57 = grind (arith, nat_tests) in
    let low_one : 48 ≤ o = grind (arith, nat_tests) in
    let high_one : o ≤ 57 = grind (arith, nat_tests) in
    record { tens = omega (arith, p.1); ones = omega (arith, p.1); below = omega (arith, p.1) }

-- a date that a field may have, and its number
record IsFieldDate (y m d : ℕ) (n : ℤ) : Type 0 where
  low_year : 1900 ≤ y
  high_year : y ≤ 2199
  low_month : 1 ≤ m
  high_month : m ≤ 12
  low_day : 1 ≤ d
  high_day : d ≤ days_in_month (pos y) m
  number : days_from_civil (pos y) m d ≡ n

six_tests : (a b c d e f : Bool) → a ≡ true → b ≡ true → c ≡ true → d ≡ true → e ≡ true → f ≡ true → (a && b && c && d && e && f) ≡ true
six_tests a b c d e f ha hb hc hd he hf = rw (ha, hb, hc, hd, he, hf) refl

le_test : (a b : ℕ) → a ≤ b → nat_le a b ≡ true
le_test a b h = grind (arith, nat_tests)

date_number-of : (y m d : ℕ) (n : ℤ) → IsFieldDate y m d n → date_number y m d ≡ Some n
date_number-of y m d n h =
    some_if _ _ _ (six_tests _ _ _ _ _ _ (le_test 1900 y h.low_year) (le_test y 2199 h.high_year) (le_test 1 m h.low_month) (le_test m 12 h.high_month) (le_test 1 d h.low_day) (le_test d (days_in_month (pos y) m) h.high_day)) h.number

date_number-some : (y m d : ℕ) (n : ℤ) → date_number y m d ≡ Some n → IsFieldDate y m d n
date_number-some y m d n e =
    let p = cond_some (nat_le 1900 y && nat_le y 2199 && nat_le 1 m && nat_le m 12 && nat_le 1 d && nat_le d (days_in_month (pos y) m)) (days_from_civil (pos y) m d) n e in
    let test = p.0 in
    by_tests (days_in_month (pos y) m) refl test p.1
  where
    by_tests : (long : ℕ) → days_in_month (pos y) m ≡ long
        → (nat_le 1900 y && nat_le y 2199 && nat_le 1 m && nat_le m 12 && nat_le 1 d && nat_le d long) ≡ true → days_from_civil (pos y) m d ≡ n → IsFieldDate y m d n
    by_tests long same test number = record {
      low_year = grind (arith, nat_tests);
      high_year = grind (arith, nat_tests);
      low_month = grind (arith, nat_tests);
      high_month = grind (arith, nat_tests);
      low_day = grind (arith, nat_tests);
      high_day = rw same (grind (arith, nat_tests));
      number = number;
    }

pub day_of-text : (n : ℤ) → IsFieldDay n → day_of (day_text n) ≡ Some n
day_of-text n h =
    let own : IsDayNumber n = (omega (arith, signed_arith, h.0), omega (arith, signed_arith, h.1)) in
    let s = date_of-stands n own in
    let found : Date = record { year = (date_of n).year; month = (date_of n).month; day = (date_of n).day; year_in = s.0.0; month_in = s.0.1; day_in = s.0.2 } in
    let years = year_in_field found (rw s.1 h) in
    let year : (date_of n).year ≡ pos (unsigned_abs (date_of n).year) = pos_abs (date_of n).year (omega (arith, signed_arith, years.0)) in
    let long : days_in_month (date_of n).year (date_of n).month ≤ 31 = (days_in_month_bounds (date_of n).year (date_of n).month).0 in
    spelled (unsigned_abs (date_of n).year) (date_of n).month (date_of n).day n (record {
      low_year = omega (arith, signed_arith, years.0, year);
      high_year = omega (arith, signed_arith, years.1, year);
      low_month = s.0.1.0;
      high_month = s.0.1.1;
      low_day = s.0.2.0;
      high_day = s.0.2.1;
      number = rw (← year) s.1;
    }) (omega (arith, long, s.0.2.1))
  where
    spelled : (y m d : ℕ) (n : ℤ) → IsFieldDate y m d n → d < 100 → day_of (last_digits 4 y ++ 45 ∷ (last_digits 2 m ++ 45 ∷ last_digits 2 d)) ≡ Some n
    spelled y m d n h below =
        let year : 100 * (10 * (y / 10 / 10 / 10 % 10) + y / 10 / 10 % 10) + (10 * (y / 10 % 10) + y % 10) ≡ y = omega (arith, h.high_year) in
        let month : 10 * (m / 10 % 10) + m % 10 ≡ m = omega (arith, h.high_month) in
        let day : 10 * (d / 10 % 10) + d % 10 ≡ d = omega arith in
        rw (last_four y, last_two m, last_two d)
        (rw (two_digits-from (y / 10 / 10 / 10 % 10) (y / 10 / 10 % 10) (omega arith) (omega arith))
        (rw (two_digits-from (y / 10 % 10) (y % 10) (omega arith) (omega arith))
        (rw (two_digits-from (m / 10 % 10) (m % 10) (omega arith) (omega arith))
        (rw (two_digits-from (d / 10 % 10) (d % 10) (omega arith) (omega arith))
        (rw (year, month, day) (date_number-of y m d n h))))))

-- ten bytes that spell a day number are the text of its date
pub text-day_of : (bytes : List ℕ) (n : ℤ) → day_of bytes ≡ Some n → IsFieldDay n × (bytes ≡ day_text n)
text-day_of (a ∷ b ∷ c ∷ d ∷ p ∷ e ∷ f ∷ q ∷ g ∷ h ∷ []) n is =
    let dashes = when_some ((p == 45) && (q == 45)) _ n is in
    option_and_then_some _ (two_digits a b) n dashes.1 (λ century centuries rest.
    option_and_then_some _ (two_digits c d) n rest (λ year years rest₂.
    option_and_then_some _ (two_digits e f) n rest₂ (λ month months rest₃.
    option_and_then_some _ (two_digits g h) n rest₃ (λ day days rest₄.
    spelled a b c d p e f q g h n dashes.0 century year month day (two_digits-some a b century centuries) (two_digits-some c d year years) (two_digits-some e f month months) (two_digits-some g h day days) (date_number-some (100 * century + year) month day n rest₄)))))
  where
    when_some : (b : Bool) (o : Option ℤ) (n : ℤ) → (if b then o else None) ≡ Some n → (b ≡ true) × (o ≡ Some n)
    when_some true o n e = (refl, e)
    when_some false o n e = absurd (none-some n e)

    spelled : (a b c d p e f q g h : ℕ) (n : ℤ) → ((p == 45) && (q == 45)) ≡ true → (century year month day : ℕ)
        → AreDigits a b century → AreDigits c d year → AreDigits e f month → AreDigits g h day → IsFieldDate (100 * century + year) month day n
        → IsFieldDay n × ((a ∷ b ∷ c ∷ d ∷ p ∷ e ∷ f ∷ q ∷ g ∷ h ∷ []) ≡ day_text n)
    spelled a b c d p e f q g h n dashes century year month day centuries years months days date =
        let first : p ≡ 45 = grind (arith, nat_tests) in
        let second : q ≡ 45 = grind (arith, nat_tests) in
        let civ : IsCivilDate (pos (100 * century + year)) month day = ((omega (arith, signed_arith, date.high_year), omega (arith, signed_arith, date.high_year)), (date.low_month, date.high_month), (date.low_day, date.high_day)) in
        let field = days_in_field (pos (100 * century + year)) month day civ (omega (arith, signed_arith, date.low_year)) (omega (arith, signed_arith, date.high_year)) in
        let own : IsFieldDay n = rw date.number at field in
        let known : IsDayNumber n = (omega (arith, signed_arith, own.0), omega (arith, signed_arith, own.1)) in
        let of = date_of-number n (record { year = pos (100 * century + year); month = month; day = day }) known civ date.number in
        let a_is : a ≡ 48 + (100 * century + year) / 10 / 10 / 10 % 10 = omega (arith, centuries.tens, centuries.below, years.below) in
        let b_is : b ≡ 48 + (100 * century + year) / 10 / 10 % 10 = omega (arith, centuries.ones, centuries.below, years.below) in
        let c_is : c ≡ 48 + (100 * century + year) / 10 % 10 = omega (arith, years.tens, years.below) in
        let d_is : d ≡ 48 + (100 * century + year) % 10 = omega (arith, years.ones, years.below) in
        let e_is : e ≡ 48 + month / 10 % 10 = omega (arith, months.tens, months.below) in
        let g_is : g ≡ 48 + day / 10 % 10 = omega (arith, days.tens, days.below) in
        (own, rw (of, last_four (100 * century + year), last_two month, last_two day) (rw (a_is, b_is, c_is, d_is, first, e_is, months.ones, second, g_is, days.ones) refl))
text-day_of _ n is = absurd (none-some n is)
