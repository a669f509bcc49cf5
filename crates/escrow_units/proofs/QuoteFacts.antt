-- What a price in thirty-seconds spells.
use Rattle.std.proofs.Common.{◌≡◌, ◌∙◌, ℕ, ◌+◌, ◌-◌, ◌*◌, ◌/◌, ◌%◌, ◌≤◌, ◌&&◌, Bool, true, false, cond, leb, List, [], ◌∷◌, ◌++◌, Some, None, refl, ap, sym, subst, arith, inl, inr, ◌⊎◌}
use Rattle.std.proofs.lemmas.Bool.{leb-true}
use Rattle.std.proofs.lemmas.List.{append-nil}
use Rattle.std.proofs.lemmas.Grind.{common_steps}
use Rattle.std.specs.Prelude.{if◌then◌else◌, nat_le, ◌==◌}
use Rattle.std.specs.List.{list_all, list_any, before_first, after_first}
use Rattle.std.specs.Char.{is_ascii_digit}
use Rattle.std.specs.Str.Parse.{digits_value}
use Rattle.escrow_units.specs.Digits.{last_digits}
use Rattle.escrow_units.specs.NumberText.{whole_of, decimal_of, decimal_text, SpellsDecimal}
use Rattle.escrow_units.specs.PriceText.{thirty_seconds_of, eighths_of, fraction_of, quoted_of, is_hyphen, price_units_of, PricesAreSpelled, SpellsEighths, SpellsThirtySeconds}
use Rattle.escrow_units.proofs.NumberFacts.{digit-value, digit-bound, cond-Some}
use Rattle.escrow_units.proofs.PrintedFacts.{IsMark, and-true, list_any-none, parted-digits, whole_of-digits}
use Rattle.escrow_units.proofs.SpellingFacts.{whole_of-Some, option_map-Some, option_and_then-Some, parted, decimal_of-spelled, decimal_of-read}

hyphen : IsMark 45 is_hyphen
hyphen = record {
  own = refl;
  only = λ byte is. grind (arith, common_steps);
  none = λ byte digit. grind (arith, common_steps);
}

two-last : (n : ℕ) → last_digits 2 n ≡ (48 + n / 10 % 10) ∷ (48 + n % 10) ∷ []
unfolding last_digits
two-last n = refl

-- ---- two digits from 00 to 31

record AreThirtySeconds (tens ones n : ℕ) : Type 0 where
  within : n ≤ 31
  digits : tens ∷ ones ∷ [] ≡ last_digits 2 n

digits-two : (tens ones n : ℕ) → is_ascii_digit tens ≡ true → is_ascii_digit ones ≡ true → digits_value 10 (tens ∷ ones ∷ []) ≡ n → n ≤ 31 → AreThirtySeconds tens ones n
digits-two tens ones n t o value within =
    let tv = digit-value tens t in
    let ov = digit-value ones o in
    let tb = digit-bound tens t in
    let ob = digit-bound ones o in
    let sum : (tens - 48) * 10 + (ones - 48) ≡ n = omega (arith, value, tv, ov) in
    let tens_least : 48 ≤ tens = grind (arith, common_steps) in
    let ones_least : 48 ≤ ones = grind (arith, common_steps) in
    let first : tens ≡ 48 + n / 10 % 10 = omega arith in
    let second : ones ≡ 48 + n % 10 = omega arith in
    record {
      within = within;
      digits = ap (λ byte. byte ∷ ones ∷ []) first ∙ ap (λ byte. (48 + n / 10 % 10) ∷ byte ∷ []) second ∙ sym (two-last n);
    }

thirty_seconds_of-Some : (tens ones n : ℕ) → thirty_seconds_of tens ones ≡ Some n → AreThirtySeconds tens ones n
thirty_seconds_of-Some tens ones n same =
    let read = option_and_then-Some (λ m. if nat_le m 31 then Some m else None) (whole_of 2 (tens ∷ ones ∷ [])) n same in
    let test = cond-Some (leb read.0 31) read.0 n read.2 in
    let number = whole_of-Some 2 read.0 (tens ∷ ones ∷ []) read.1 in
    let each = and-true (is_ascii_digit tens) (is_ascii_digit ones && true) number.digits in
    let last = and-true (is_ascii_digit ones) true each.1 in
    digits-two tens ones n each.0 last.0 (number.value ∙ test.1) (omega (arith, leb-true read.0 31 test.0, test.1))

thirty_seconds_of-read : (n : ℕ) → n ≤ 31 → thirty_seconds_of (48 + n / 10 % 10) (48 + n % 10) ≡ Some n
unfolding whole_of
thirty_seconds_of-read n within =
    let tens : is_ascii_digit (48 + n / 10 % 10) ≡ true = grind (arith, common_steps) in
    let ones : is_ascii_digit (48 + n % 10) ≡ true = grind (arith, common_steps) in
    let value : digits_value 10 ((48 + n / 10 % 10) ∷ (48 + n % 10) ∷ []) ≡ n = omega (arith, digit-value (48 + n / 10 % 10) tens, digit-value (48 + n % 10) ones) in
    let test : leb n 31 ≡ true = grind (arith, common_steps) in
    rw (tens, ones, value, test) refl

-- ---- eighths

eighths_by : (b : Bool) (byte eighths : ℕ) → (byte == 43) ≡ b → cond b (Some 4) (if nat_le 48 byte && nat_le byte 55 then Some (byte - 48) else None) ≡ Some eighths → SpellsEighths eighths (byte ∷ [])
eighths_by true byte eighths is same =
    let plus : byte ≡ 43 = grind (arith, common_steps) in
    inr (inl (ap (λ b. b ∷ []) plus, cc))
eighths_by false byte eighths is same =
    let test = cond-Some (leb 48 byte && leb byte 55) (byte - 48) eighths same in
    let bounds = and-true (leb 48 byte) (leb byte 55) test.0 in
    let low = leb-true 48 byte bounds.0 in
    let high = leb-true byte 55 bounds.1 in
    let digit : byte ≡ 48 + eighths = omega (arith, low, test.1) in
    inr (inr (ap (λ b. b ∷ []) digit, omega (arith, high, digit)))

eighths_of-Some : (byte eighths : ℕ) → eighths_of byte ≡ Some eighths → SpellsEighths eighths (byte ∷ [])
eighths_of-Some byte eighths same = eighths_by (byte == 43) byte eighths refl same

eighths_of-read : (eighths : ℕ) → eighths ≤ 7 → eighths_of (48 + eighths) ≡ Some eighths
eighths_of-read eighths within = grind (arith, common_steps)

-- ---- the fraction after the hyphen

record IsFraction (part : ℕ) (bytes : List ℕ) : Type 0 where
  thirty_seconds : ℕ
  eighths : ℕ
  last : List ℕ
  text : bytes ≡ last_digits 2 thirty_seconds ++ last
  within : thirty_seconds ≤ 31
  follows : SpellsEighths eighths last
  value : part ≡ thirty_seconds * 3_125_000 + eighths * 390_625

fraction_of-Some : (part : ℕ) (bytes : List ℕ) → fraction_of bytes ≡ Some part → IsFraction part bytes
unfolding fraction_of
fraction_of-Some part [] same = cc
fraction_of-Some part (tens ∷ []) same = cc
fraction_of-Some part (tens ∷ ones ∷ []) same =
    let read = option_map-Some (λ n. n * 3_125_000) (thirty_seconds_of tens ones) part same in
    let number = thirty_seconds_of-Some tens ones read.0 read.1 in
    record {
      thirty_seconds = read.0;
      eighths = 0;
      last = [];
      text = number.digits ∙ sym (append-nil (last_digits 2 read.0));
      within = number.within;
      follows = inl (refl, refl);
      value = omega (arith, read.2);
    }
fraction_of-Some part (tens ∷ ones ∷ last ∷ []) same =
    let first = option_and_then-Some _ (thirty_seconds_of tens ones) part same in
    let second = option_map-Some _ (eighths_of last) part first.2 in
    let number = thirty_seconds_of-Some tens ones first.0 first.1 in
    record {
      thirty_seconds = first.0;
      eighths = second.0;
      last = last ∷ [];
      text = ap (λ ds. ds ++ last ∷ []) number.digits;
      within = number.within;
      follows = eighths_of-Some last second.0 second.1;
      value = sym second.2;
    }
fraction_of-Some part (tens ∷ ones ∷ last ∷ more ∷ rest) same = cc

fraction_of-read : (part n eighths : ℕ) (last : List ℕ) → n ≤ 31 → SpellsEighths eighths last → part ≡ n * 3_125_000 + eighths * 390_625
    → fraction_of (last_digits 2 n ++ last) ≡ Some part
unfolding fraction_of
fraction_of-read part n eighths last within (inl none) value =
    rw (none.0, two-last n, thirty_seconds_of-read n within) (ap Some (omega (arith, value, none.1)))
fraction_of-read part n eighths last within (inr (inl plus)) value =
    rw (plus.0, two-last n, thirty_seconds_of-read n within) (ap Some (omega (arith, value, plus.1)))
fraction_of-read part n eighths last within (inr (inr digit)) value =
    rw (digit.0, two-last n, thirty_seconds_of-read n within, eighths_of-read eighths digit.1) (ap Some (sym value))

-- ---- the law

spelled_quote : (units : ℕ) (front back : List ℕ) → quoted_of front back ≡ Some units → SpellsThirtySeconds units (front ++ 45 ∷ back)
unfolding quoted_of
spelled_quote units front back same =
    let first = option_and_then-Some _ (whole_of 3 front) units same in
    let second = option_map-Some _ (fraction_of back) units first.2 in
    let whole = whole_of-Some 3 first.0 front first.1 in
    let part = fraction_of-Some second.0 back second.1 in
    record {
      percents = front;
      thirty_seconds = part.thirty_seconds;
      eighths = part.eighths;
      last = part.last;
      text = ap (λ bytes. front ++ 45 ∷ bytes) part.text;
      digits = whole.digits;
      some = whole.some;
      most_digits = whole.few;
      within = part.within;
      follows = part.follows;
      value = omega (arith, second.2, part.value, whole.value);
    }

spelled_by : (units : ℕ) (bytes : List ℕ) (b : Bool) → list_any is_hyphen bytes ≡ b →
    cond b (quoted_of (before_first is_hyphen bytes) (after_first is_hyphen bytes)) (decimal_of 3 8 bytes) ≡ Some units →
    SpellsDecimal 3 8 units bytes ⊎ SpellsThirtySeconds units bytes
spelled_by units bytes true found same =
    inr (subst (SpellsThirtySeconds units) (sym (parted 45 is_hyphen hyphen bytes found)) (spelled_quote units (before_first is_hyphen bytes) (after_first is_hyphen bytes) same))
spelled_by units bytes false missing same = inl (decimal_of-spelled 3 8 units bytes same)

price_units_of-spelled : (units : ℕ) (bytes : List ℕ) → price_units_of bytes ≡ Some units → SpellsDecimal 3 8 units bytes ⊎ SpellsThirtySeconds units bytes
unfolding price_units_of
price_units_of-spelled units bytes same = spelled_by units bytes (list_any is_hyphen bytes) refl same

quoted_of-read : (units : ℕ) (bytes : List ℕ) → SpellsThirtySeconds units bytes → price_units_of bytes ≡ Some units
unfolding price_units_of quoted_of
quoted_of-read units bytes s =
    let rest : List ℕ = last_digits 2 s.thirty_seconds ++ s.last in
    let parts = parted-digits 45 is_hyphen hyphen s.percents rest s.digits in
    let whole = whole_of-digits 3 s.percents s.some s.most_digits s.digits in
    let part = fraction_of-read (s.thirty_seconds * 3_125_000 + s.eighths * 390_625) s.thirty_seconds s.eighths s.last s.within s.follows refl in
    ap price_units_of s.text
    ∙ rw (parts.found, parts.before, parts.after, whole, part) (ap Some (omega (arith, s.value)))

no-hyphen : (whole decimals : List ℕ) → list_all is_ascii_digit (whole ++ decimals) ≡ true → list_any is_hyphen (decimal_text whole decimals) ≡ false
no-hyphen [] [] digits = refl
no-hyphen [] (d ∷ ds) digits = list_any-none 45 is_hyphen hyphen (d ∷ ds) digits
no-hyphen (w ∷ ws) [] digits =
    let parts = and-true (is_ascii_digit w) (list_all is_ascii_digit (ws ++ [])) digits in
    rw (hyphen.none w parts.0) (no-hyphen ws [] parts.1)
no-hyphen (w ∷ ws) (d ∷ ds) digits =
    let parts = and-true (is_ascii_digit w) (list_all is_ascii_digit (ws ++ d ∷ ds)) digits in
    rw (hyphen.none w parts.0) (no-hyphen ws (d ∷ ds) parts.1)

decimal-read : (units : ℕ) (bytes : List ℕ) → SpellsDecimal 3 8 units bytes → price_units_of bytes ≡ Some units
unfolding price_units_of
decimal-read units bytes s =
    let none : list_any is_hyphen bytes ≡ false = ap (list_any is_hyphen) s.text ∙ no-hyphen s.whole s.decimals s.digits in
    rw none (decimal_of-read 3 8 units bytes s)

price_units_of-read : (units : ℕ) (bytes : List ℕ) → SpellsDecimal 3 8 units bytes ⊎ SpellsThirtySeconds units bytes → price_units_of bytes ≡ Some units
price_units_of-read units bytes (inl s) = decimal-read units bytes s
price_units_of-read units bytes (inr s) = quoted_of-read units bytes s

pub prices-are-spelled : PricesAreSpelled
prices-are-spelled units bytes = (price_units_of-spelled units bytes, price_units_of-read units bytes)
