-- What is printed is read back.
use Rattle.std.proofs.Common.{◌≡◌, ◌∙◌, ℕ, zero, suc, ◌+◌, ◌-◌, ◌*◌, ◌/◌, ◌%◌, ◌^◌, ◌<◌, ◌≤◌, ◌&&◌, ◌||◌, Bool, true, false, List, [], ◌∷◌, ◌++◌, length, take, drop, Some, Ok, refl, ap, rules, arith, decimal}
use Rattle.std.proofs.Math.Nat.{pow-suc, mod-lt, div-le_self}
use Rattle.std.proofs.Math.Seq.{take-append_seam, drop-append-add}
use Rattle.std.proofs.lemmas.Nat.{pow-add, div_below, div-add-mod'}
use Rattle.std.proofs.lemmas.Int.Digits.{digits_value_push}
use Rattle.std.proofs.lemmas.List.Folds.{list_all-append}
use Rattle.std.proofs.lemmas.Fmt.{digits_decimal, digits_value-decimal, decimal_nonempty, length-decimal-le}
use Rattle.std.proofs.lemmas.Str.Parse.{IsNumeralModel, numerals_by_value}
use Rattle.std.proofs.lemmas.Grind.{common_steps}
use Rattle.std.specs.List.{list_all, list_any, position_or_len, before_first, after_first}
use Rattle.std.specs.Char.{is_ascii_digit, digit_value}
use Rattle.std.specs.Str.Parse.{digits_value}
use Rattle.escrow_units.specs.Digits.{last_digits, fixed}
use Rattle.escrow_units.specs.NumberText.{whole_of, parted_of, decimal_of, is_point, cents_of, rate_of, yield_of}
use Rattle.escrow_units.proofs.DigitFacts.{last-zero, last-suc, length-last}
use Rattle.escrow_units.proofs.NumberFacts.{digit-value, power-positive}

-- the test and the value of the readers are those of std's lemmas
digit_model : IsNumeralModel (λ ds. list_all is_ascii_digit ds ≡ true) (digits_value 10)
digit_model = numerals_by_value _ (search rules)

digit-printed : (d : ℕ) → d < 10 → is_ascii_digit (48 + d) ≡ true
digit-printed d small = grind (arith, common_steps)

pub both : (a b : Bool) → a ≡ true → b ≡ true → (a && b) ≡ true
both a b p q = rw (p, q)

list_all-last : (k n : ℕ) → list_all is_ascii_digit (last_digits k n) ≡ true
list_all-last zero n = ap (list_all is_ascii_digit) (last-zero n)
list_all-last (suc k) n =
    ap (list_all is_ascii_digit) (last-suc k n)
    ∙ list_all-append is_ascii_digit (last_digits k (n / 10)) ((48 + n % 10) ∷ [])
    ∙ both _ _ (list_all-last k (n / 10)) (both _ true (digit-printed (n % 10) (omega arith)) refl)

-- the last k digits write a number of k digits
digits_value-last : (k n : ℕ) → n < 10 ^ k → digits_value 10 (last_digits k n) ≡ n
digits_value-last zero n below = ap (digits_value 10) (last-zero n) ∙ omega arith
digits_value-last (suc k) n below =
    let rest : n / 10 < 10 ^ k = div_below n 10 (10 ^ k) (omega arith) (rw pow-suc at below) in
    ap (digits_value 10) (last-suc k n)
    ∙ digits_value_push 10 (last_digits k (n / 10)) (48 + n % 10)
    ∙ ap (λ v. v * 10 + digit_value (48 + n % 10)) (digits_value-last k (n / 10) rest)
    ∙ omega (arith, digit-value (48 + n % 10) (digit-printed (n % 10) (omega arith)))

pub and-true : (a b : Bool) → (a && b) ≡ true → (a ≡ true) × (b ≡ true)
and-true true b p = (refl, p)
and-true false b p = (p, cc)

-- a mark that is no digit, as a point or a hyphen
pub record IsMark (mark : ℕ) (is_mark : ℕ → Bool) : Type 0 where
  pub own : is_mark mark ≡ true
  pub only : (byte : ℕ) → is_mark byte ≡ true → byte ≡ mark
  pub none : (byte : ℕ) → is_ascii_digit byte ≡ true → is_mark byte ≡ false

pub point : IsMark 46 is_point
point = record {
  own = refl;
  only = λ byte is. grind (arith, common_steps);
  none = λ byte digit. grind (arith, common_steps);
}

-- the first mark after digits is the one that follows them
pub position_or_len-digits : (mark : ℕ) (p : ℕ → Bool) → IsMark mark p → (ds rest : List ℕ) → list_all is_ascii_digit ds ≡ true → position_or_len p (ds ++ mark ∷ rest) ≡ length ds
position_or_len-digits mark p m [] rest digits = rw m.own refl
position_or_len-digits mark p m (d ∷ ds) rest digits =
    let parts = and-true (is_ascii_digit d) (list_all is_ascii_digit ds) digits in
    rw (m.none d parts.0) (omega (arith, position_or_len-digits mark p m ds rest parts.1))

pub list_any-digits : (mark : ℕ) (p : ℕ → Bool) → IsMark mark p → (ds rest : List ℕ) → list_any p (ds ++ mark ∷ rest) ≡ true
list_any-digits mark p m [] rest = rw m.own refl
list_any-digits mark p m (d ∷ ds) rest =
    elim (p d) as (λ b. (b || list_any p (ds ++ mark ∷ rest)) ≡ true) [ true ↦ refl | false ↦ list_any-digits mark p m ds rest ]

-- digits have none
pub list_any-none : (mark : ℕ) (p : ℕ → Bool) → IsMark mark p → (ds : List ℕ) → list_all is_ascii_digit ds ≡ true → list_any p ds ≡ false
list_any-none mark p m [] digits = refl
list_any-none mark p m (d ∷ ds) digits =
    let parts = and-true (is_ascii_digit d) (list_all is_ascii_digit ds) digits in
    rw (m.none d parts.0) (list_any-none mark p m ds parts.1)

-- it parts a text into these digits and what follows it
pub record ArePartedBy (p : ℕ → Bool) (front back bytes : List ℕ) : Type 0 where
  pub found : list_any p bytes ≡ true
  pub before : before_first p bytes ≡ front
  pub after : after_first p bytes ≡ back

pub parted-digits : (mark : ℕ) (p : ℕ → Bool) → IsMark mark p → (front back : List ℕ) → list_all is_ascii_digit front ≡ true → ArePartedBy p front back (front ++ mark ∷ back)
parted-digits mark p m front back digits =
    let at = position_or_len-digits mark p m front back digits in
    record {
      found = list_any-digits mark p m front back;
      before = ap (λ i. take i (front ++ mark ∷ back)) at ∙ take-append_seam front (mark ∷ back);
      after = ap (λ i. drop (i + 1) (front ++ mark ∷ back)) at ∙ drop-append-add front (mark ∷ back) 1;
    }

pub whole_of-digits : (most : ℕ) (ds : List ℕ) → 1 ≤ length ds → length ds ≤ most → list_all is_ascii_digit ds ≡ true →
    whole_of most ds ≡ Some (digits_value 10 ds)
unfolding whole_of
whole_of-digits most ds some few digits = rw digits (grind (arith, common_steps))

-- digits, a point and digits
pub decimal_of-digits : (most places : ℕ) (front back : List ℕ) →
    1 ≤ length front → length front ≤ most → list_all is_ascii_digit front ≡ true →
    1 ≤ length back → length back ≤ places → list_all is_ascii_digit back ≡ true →
    decimal_of most places (front ++ 46 ∷ back)
    ≡ Some (digits_value 10 front * 10 ^ places + digits_value 10 back * 10 ^ (places - length back))
unfolding decimal_of parted_of
decimal_of-digits most places front back f1 f2 f3 b1 b2 b3 =
    let parts = parted-digits 46 is_point point front back f3 in
    rw (parts.found, parts.before, parts.after, whole_of-digits most front f1 f2 f3, whole_of-digits places back b1 b2 b3)

pub decimal_of-fixed : (most places n : ℕ) → 1 ≤ most → 1 ≤ places → n < 10 ^ (most + places) → n < 2 ^ 64 →
    decimal_of most places (fixed places n) ≡ Some n
decimal_of-fixed most places n some few below fits =
    let unit = power-positive places in
    let whole : n / 10 ^ places < 10 ^ most = div_below n (10 ^ places) (10 ^ most) unit (rw pow-add at below) in
    let small : n / 10 ^ places < 2 ^ 64 = omega (arith, div-le_self n (10 ^ places)) in
    let part : n % 10 ^ places < 10 ^ places = mod-lt n unit in
    let long = length-last places (n % 10 ^ places) in
    let none : places - places ≡ 0 = omega arith in
    let value : digits_value 10 (decimal (n / 10 ^ places)) * 10 ^ places
    + digits_value 10 (last_digits places (n % 10 ^ places)) * 10 ^ (places - length (last_digits places (n % 10 ^ places))) ≡ n =
    rw (digits_value-decimal digit_model (n / 10 ^ places) small, digits_value-last places (n % 10 ^ places) part, long, none)
    (omega (arith, div-add-mod' n (10 ^ places))) in
    decimal_of-digits most places (decimal (n / 10 ^ places)) (last_digits places (n % 10 ^ places))
    (decimal_nonempty (n / 10 ^ places) small) (length-decimal-le most (n / 10 ^ places) (omega arith) whole small) (digits_decimal digit_model (n / 10 ^ places) small)
    (omega (arith, long)) (omega (arith, long)) (list_all-last places (n % 10 ^ places))
    ∙ ap Some value

pub cents_of-fixed : (n : ℕ) → n ≤ 10 ^ 13 → cents_of (fixed 2 n) ≡ Ok (record { 0 = n })
unfolding cents_of
cents_of-fixed n within = rw (decimal_of-fixed 15 2 n (omega arith) (omega arith) (omega arith) (omega arith)) (grind (arith, common_steps))

pub rate_of-fixed : (n : ℕ) → n ≤ 30_000 → rate_of (fixed 3 n) ≡ Ok (record { 0 = n })
unfolding rate_of
rate_of-fixed n within = rw (decimal_of-fixed 3 3 n (omega arith) (omega arith) (omega arith) (omega arith)) (grind (arith, common_steps))

pub yield_of-fixed : (n : ℕ) → n ≤ 2_999_000_000 → yield_of (fixed 8 n) ≡ Ok (record { 0 = n })
unfolding yield_of
yield_of-fixed n within = rw (decimal_of-fixed 3 8 n (omega arith) (omega arith) (omega arith) (omega arith)) (grind (arith, common_steps))
