-- What a decimal field spells.
use Rattle.std.proofs.Common.{◌≡◌, ◌∙◌, ℕ, ◌+◌, ◌-◌, ◌*◌, ◌^◌, ◌≤◌, ◌&&◌, Bool, true, false, cond, leb, ltb, List, [], ◌∷◌, ◌++◌, length, Option, Some, None, refl, ap, sym, subst, arith}
use Rattle.std.proofs.Math.Nat.{pow-suc, eq_of_mul-eq-mul_right}
use Rattle.std.proofs.lemmas.Nat.{pow-add}
use Rattle.std.proofs.lemmas.List.{append-nil}
use Rattle.std.proofs.lemmas.List.Folds.{list_all-append}
use Rattle.std.proofs.lemmas.List.Sums.{split_at_first}
use Rattle.std.proofs.lemmas.List.Quantifiers.{position-Some}
use Rattle.std.proofs.lemmas.Bool.{leb-true}
use Rattle.std.specs.List.{list_all, list_any, position, position_or_len, before_first, after_first}
use Rattle.std.specs.Option.{option_map, option_and_then}
use Rattle.std.specs.Char.{is_ascii_digit, digit_value}
use Rattle.std.specs.Str.Parse.{digits_value, digits_value_after}
use Rattle.escrow_units.specs.NumberText.{whole_of, parted_of, decimal_of, is_point, decimal_text, SpellsDecimal}
use Rattle.escrow_units.proofs.NumberFacts.{cond-Some, list_any-is, power-positive}
use Rattle.escrow_units.proofs.PrintedFacts.{IsMark, and-true, both, point, list_any-none, whole_of-digits, decimal_of-digits}

-- ---- the value of digits joined

digits_value_after-append : (n : ℕ) (xs ys : List ℕ) → digits_value_after 10 n (xs ++ ys) ≡ digits_value_after 10 (digits_value_after 10 n xs) ys
digits_value_after-append n [] ys = refl
digits_value_after-append n (x ∷ xs) ys = digits_value_after-append (n * 10 + digit_value x) xs ys

digits_value_after-is : (n : ℕ) (ds : List ℕ) → digits_value_after 10 n ds ≡ n * 10 ^ length ds + digits_value 10 ds
digits_value_after-is n [] = omega arith
digits_value_after-is n (d ∷ ds) =
    let left = digits_value_after-is (n * 10 + digit_value d) ds in
    let right = digits_value_after-is (0 * 10 + digit_value d) ds in
    left ∙ omega (arith, right, ap (λ power. n * power) (pow-suc 10 (length ds)))

pub digits_value-append : (xs ys : List ℕ) → digits_value 10 (xs ++ ys) ≡ digits_value 10 xs * 10 ^ length ys + digits_value 10 ys
digits_value-append xs ys = digits_value_after-append 0 xs ys ∙ digits_value_after-is (digits_value 10 xs) ys

-- ---- what an answer of the readers tells

pub record IsWhole (most n : ℕ) (bytes : List ℕ) : Type 0 where
  pub some : 1 ≤ length bytes
  pub few : length bytes ≤ most
  pub digits : list_all is_ascii_digit bytes ≡ true
  pub value : digits_value 10 bytes ≡ n

pub whole_of-Some : (most n : ℕ) (bytes : List ℕ) → whole_of most bytes ≡ Some n → IsWhole most n bytes
unfolding whole_of
whole_of-Some most n bytes same =
    let test = cond-Some (leb 1 (length bytes) && leb (length bytes) most && list_all is_ascii_digit bytes) (digits_value 10 bytes) n same in
    let outer = and-true (leb 1 (length bytes) && leb (length bytes) most) (list_all is_ascii_digit bytes) test.0 in
    let bounds = and-true (leb 1 (length bytes)) (leb (length bytes) most) outer.0 in
    record {
      some = leb-true 1 (length bytes) bounds.0;
      few = leb-true (length bytes) most bounds.1;
      digits = outer.1;
      value = test.1;
    }

pub option_map-Some : (f : ℕ → ℕ) (o : Option ℕ) (y : ℕ) → option_map f o ≡ Some y → (x : ℕ) × (o ≡ Some x) × (f x ≡ y)
option_map-Some f None y same = cc
option_map-Some f (Some x) y same = (x, refl, cc)

pub option_and_then-Some : (f : ℕ → Option ℕ) (o : Option ℕ) (y : ℕ) → option_and_then f o ≡ Some y → (x : ℕ) × (o ≡ Some x) × (f x ≡ Some y)
option_and_then-Some f None y same = cc
option_and_then-Some f (Some x) y same = (x, refl, same)

-- ---- a text with decimals has a point after digits

pub decimal_text-some : (whole decimals : List ℕ) → 1 ≤ length decimals → decimal_text whole decimals ≡ whole ++ 46 ∷ decimals
decimal_text-some whole [] some = absurd (omega arith)
decimal_text-some whole (d ∷ ds) some = refl

-- the first mark of a text parts it
pub parted : (mark : ℕ) (p : ℕ → Bool) → IsMark mark p → (bytes : List ℕ) → list_any p bytes ≡ true → bytes ≡ before_first p bytes ++ mark ∷ after_first p bytes
parted mark p m bytes found =
    let test : ltb (position_or_len p bytes) (length bytes) ≡ true = sym (list_any-is p bytes) ∙ found in
    let place : position p bytes ≡ Some (position_or_len p bytes) = rw test in
    let at = position-Some p bytes (position_or_len p bytes) 0 place in
    split_at_first p bytes 0 at.0 ∙ ap (λ byte. before_first p bytes ++ byte ∷ after_first p bytes) (m.only _ at.1)

-- ---- the law

spelled_whole : (most places units : ℕ) (bytes : List ℕ) → option_map (λ whole. whole * 10 ^ places) (whole_of most bytes) ≡ Some units →
    SpellsDecimal most places units bytes
spelled_whole most places units bytes same =
    let read = option_map-Some (λ whole. whole * 10 ^ places) (whole_of most bytes) units same in
    let number = whole_of-Some most read.0 bytes read.1 in
    record {
      whole = bytes;
      decimals = [];
      text = refl;
      digits = ap (list_all is_ascii_digit) (append-nil bytes) ∙ number.digits;
      some = number.some;
      most_digits = number.few;
      most_decimals = omega arith;
      value = rw append-nil (omega (arith, read.2, ap (λ n. n * 10 ^ places) number.value));
    }

-- the two parts, over one power of ten
joined : (whole part places back : ℕ) → back ≤ places →
    (whole * 10 ^ places + part * 10 ^ (places - back)) * 10 ^ back ≡ (whole * 10 ^ back + part) * 10 ^ places
joined whole part places back few =
    let same : places - back + back ≡ places = omega arith in
    let power : 10 ^ places ≡ 10 ^ (places - back) * 10 ^ back = sym (ap (λ n. 10 ^ n) same) ∙ pow-add 10 (places - back) back in
    omega (arith, ap (λ n. part * n) power, ap (λ n. whole * n * 10 ^ back) power)

spelled_parts : (most places units : ℕ) (front back : List ℕ) → parted_of most places front back ≡ Some units →
    SpellsDecimal most places units (front ++ 46 ∷ back)
unfolding parted_of
spelled_parts most places units front back same =
    let first = option_and_then-Some _ (whole_of most front) units same in
    let second = option_map-Some _ (whole_of places back) units first.2 in
    let whole = whole_of-Some most first.0 front first.1 in
    let part = whole_of-Some places second.0 back second.1 in
    record {
      whole = front;
      decimals = back;
      text = sym (decimal_text-some front back part.some);
      digits = list_all-append is_ascii_digit front back ∙ both _ _ whole.digits part.digits;
      some = whole.some;
      most_digits = whole.few;
      most_decimals = part.few;
      value = rw (digits_value-append front back, whole.value, part.value)
          (ap (λ n. n * 10 ^ length back) (sym second.2) ∙ joined first.0 second.0 places (length back) part.few);
    }

spelled_by : (most places units : ℕ) (bytes : List ℕ) (b : Bool) → list_any is_point bytes ≡ b →
    cond b (parted_of most places (before_first is_point bytes) (after_first is_point bytes)) (option_map (λ whole. whole * 10 ^ places) (whole_of most bytes)) ≡ Some units →
    SpellsDecimal most places units bytes
spelled_by most places units bytes true found same =
    subst (SpellsDecimal most places units) (sym (parted 46 is_point point bytes found)) (spelled_parts most places units (before_first is_point bytes) (after_first is_point bytes) same)
spelled_by most places units bytes false missing same = spelled_whole most places units bytes same

pub decimal_of-spelled : (most places units : ℕ) (bytes : List ℕ) → decimal_of most places bytes ≡ Some units → SpellsDecimal most places units bytes
unfolding decimal_of
decimal_of-spelled most places units bytes same = spelled_by most places units bytes (list_any is_point bytes) refl same

read_whole : (most places units : ℕ) (whole : List ℕ) → list_all is_ascii_digit whole ≡ true → 1 ≤ length whole → length whole ≤ most →
    units ≡ digits_value 10 whole * 10 ^ places → decimal_of most places whole ≡ Some units
unfolding decimal_of
read_whole most places units whole digits some few value =
    rw (list_any-none 46 is_point point whole digits, whole_of-digits most whole some few digits) (ap Some (sym value))

read_text : (most places units : ℕ) (whole decimals : List ℕ) → list_all is_ascii_digit (whole ++ decimals) ≡ true →
    1 ≤ length whole → length whole ≤ most → length decimals ≤ places →
    units * 10 ^ length decimals ≡ digits_value 10 (whole ++ decimals) * 10 ^ places →
    decimal_of most places (decimal_text whole decimals) ≡ Some units
read_text most places units whole [] digits some few short value =
    let bare : units ≡ digits_value 10 whole * 10 ^ places = omega (arith, value, ap (λ ds. digits_value 10 ds * 10 ^ places) (append-nil whole)) in
    read_whole most places units whole (ap (list_all is_ascii_digit) (sym (append-nil whole)) ∙ digits) some few bare
read_text most places units whole (d ∷ ds) digits some few short value =
    let each = and-true (list_all is_ascii_digit whole) (list_all is_ascii_digit (d ∷ ds)) (sym (list_all-append is_ascii_digit whole (d ∷ ds)) ∙ digits) in
    let read = digits_value 10 whole * 10 ^ places + digits_value 10 (d ∷ ds) * 10 ^ (places - length (d ∷ ds)) in
    let scaled : read * 10 ^ length (d ∷ ds) ≡ units * 10 ^ length (d ∷ ds) =
    joined (digits_value 10 whole) (digits_value 10 (d ∷ ds)) places (length (d ∷ ds)) short
    ∙ ap (λ n. n * 10 ^ places) (sym (digits_value-append whole (d ∷ ds)))
    ∙ sym value in
    decimal_of-digits most places whole (d ∷ ds) some few each.0 (omega arith) short each.1
    ∙ ap Some (eq_of_mul-eq-mul_right (10 ^ length (d ∷ ds)) (power-positive (length (d ∷ ds))) read units scaled)

pub decimal_of-read : (most places units : ℕ) (bytes : List ℕ) → SpellsDecimal most places units bytes → decimal_of most places bytes ≡ Some units
decimal_of-read most places units bytes spelling =
    ap (decimal_of most places) spelling.text
    ∙ read_text most places units spelling.whole spelling.decimals spelling.digits spelling.some spelling.most_digits spelling.most_decimals spelling.value
