-- Numbers as they are written.
use Rattle.std.proofs.Common.{◌≡◌, ◌∙◌, ℕ, zero, suc, ◌+◌, ◌-◌, ◌*◌, ◌/◌, ◌%◌, ◌<◌, ◌≤◌, Bool, true, false, ◌&&◌, nat_le, nat_eq, if◌then◌else◌, List, [], ◌∷◌, ◌++◌, All, length, take, get_or, refl, sym, subst, ap, arith, add-one, Option, Some, None, decimal}
use lib.Pointwise.{pointwise, bytes_decides}
use Rattle.std.specs.Char.{digit_value}
use Rattle.std.specs.Str.Parse.{digits_value}
use Rattle.std.proofs.Math.Seq.{take-suc}
use Rattle.std.proofs.lemmas.Bool.{and_parts}
use Rattle.std.proofs.lemmas.Fmt.{decimal-digits_value, decimal_digit, decimal_is_IsNumeral, decimal_nonempty, decimal_step, digits_decimal, first_decimal}
use Rattle.std.proofs.lemmas.Int.Digits.{digits_value_more}
use Rattle.std.proofs.lemmas.List.Elements.{All-cons, All-head, All-nil, All-tail}
use Rattle.std.proofs.lemmas.Str.{digit_value_digit}
use Rattle.std.proofs.lemmas.Str.Parse.{IsDigitsTest, IsNumeralModel, digits_value-take-le, numerals_by_value}
use Rattle.line_words.specs.declared.digits.TheConstants.{GREATEST_NUMBER}
use Rattle.line_words.specs.declared.digits.Digits.{Digits}
use Rattle.line_words.specs.Digits.{IsFirstDigit, IsFirstNumber}
use Rattle.line_words.specs.Words.{whole_number}
use Rattle.line_words.proofs.DigitFacts.{Digit}

-- what writes a number is read as it
pub whole-decimal : (n : ℕ) → n ≤ GREATEST_NUMBER → whole_number (decimal n) ≡ Some n
whole-decimal n limit =
    let value : digits_value 10 (decimal n) ≡ n = (decimal_is_IsNumeral n (omega arith)).1 in
    let same : pointwise nat_eq (decimal (digits_value 10 (decimal n))) (decimal n) ≡ true =
    (bytes_decides (decimal (digits_value 10 (decimal n))) (decimal n)).1 (ap (λ (m : ℕ). decimal m) value) in
    let within : nat_le (digits_value 10 (decimal n)) GREATEST_NUMBER ≡ true = rw value (grind (arith, limit)) in
    ap (λ (b : Bool). if b && nat_le (digits_value 10 (decimal n)) GREATEST_NUMBER then Some (digits_value 10 (decimal n)) else None) same
    ∙ ap (λ (b : Bool). if b then Some (digits_value 10 (decimal n)) else None) within
    ∙ ap (λ (m : ℕ). Some m) value

-- what is read as a number is what writes it
found_by : (bytes : List ℕ) (n : ℕ) (b : Bool) → (pointwise nat_eq (decimal (digits_value 10 bytes)) bytes && nat_le (digits_value 10 bytes) GREATEST_NUMBER) ≡ b →
    (if b then Some (digits_value 10 bytes) else None) ≡ Some n → (bytes ≡ decimal n) × (n ≤ GREATEST_NUMBER)
found_by bytes n false e h = absurd (cc)
found_by bytes n true e h =
    let both = and_parts (pointwise nat_eq (decimal (digits_value 10 bytes)) bytes) (nat_le (digits_value 10 bytes) GREATEST_NUMBER) e in
    let same : digits_value 10 bytes ≡ n = cc in
    let written : decimal (digits_value 10 bytes) ≡ bytes = (bytes_decides (decimal (digits_value 10 bytes)) bytes).0 both.0 in
    (sym written ∙ ap decimal same, grind (arith, both.1, same))

pub whole-found : (bytes : List ℕ) (n : ℕ) → whole_number bytes ≡ Some n → (bytes ≡ decimal n) × (n ≤ GREATEST_NUMBER)
whole-found bytes n h = found_by bytes n (pointwise nat_eq (decimal (digits_value 10 bytes)) bytes && nat_le (digits_value 10 bytes) GREATEST_NUMBER) refl h

pub whole-none : (bytes : List ℕ) → ((n : ℕ) → bytes ≡ decimal n → n ≤ GREATEST_NUMBER → ⊥) → None ≡ whole_number bytes
whole-none bytes none = by (whole_number bytes) refl
  where
    by : (o : Option ℕ) → whole_number bytes ≡ o → None ≡ o
    by None e = refl
    by (Some n) e = absurd (none n (whole-found bytes n e).0 (whole-found bytes n e).1)

-- ---- digits
digit_in : (byte : ℕ) → Digit byte → (48 ≤ byte) × (byte ≤ 57)
digit_in byte h = (grind (arith, h), grind (arith, h))

digit_of : (byte : ℕ) → 48 ≤ byte → byte ≤ 57 → Digit byte
digit_of byte least most = grind (arith, least, most)

tells : IsDigitsTest (All Digit)
tells = record {
  empty = All-nil Digit;
  parts = λ c cs all. (digit_in c (All-head Digit c cs all), All-tail Digit c cs all);
  more = λ c cs range all. All-cons Digit c cs (digit_of c range.0 range.1) all;
}

model : IsNumeralModel (All Digit) (digits_value 10)
model = numerals_by_value (All Digit) tells

-- digits without a zero before them are what writes their number
pub digits-written : (bytes : List ℕ) → All Digit bytes → 0 < length bytes → (get_or bytes 0 0 ≡ 48 → length bytes ≡ 1) → digits_value 10 bytes ≤ GREATEST_NUMBER →
    whole_number bytes ≡ Some (digits_value 10 bytes)
digits-written bytes all some lead few =
    ap whole_number (sym (decimal-digits_value model bytes all some lead (omega (arith, few)))) ∙ whole-decimal (digits_value 10 bytes) few

pub number-digits : (bytes : List ℕ) (n : ℕ) → whole_number bytes ≡ Some n → All Digit bytes
number-digits bytes n h =
    let found = whole-found bytes n h in
    subst (All Digit) (sym found.0) (digits_decimal model n (omega (arith, found.1)))

-- ---- a number, and one more digit
digit_step : (value byte : ℕ) → 1 ≤ value → 48 ≤ byte → byte ≤ 57 → value < GREATEST_NUMBER / 10 → decimal (10 * value + (byte - 48)) ≡ decimal value ++ byte ∷ []
digit_step value byte above least most low =
    let front : (10 * value + (byte - 48)) / 10 ≡ value = omega (arith, least, most) in
    let last : 48 + (10 * value + (byte - 48)) % 10 ≡ byte = omega (arith, least, most) in
    decimal_step (10 * value + (byte - 48)) (omega (arith, above)) (omega (arith, least, most, low))
    ∙ ap (λ (n : ℕ). decimal n ++ (48 + (10 * value + (byte - 48)) % 10) ∷ []) front
    ∙ ap (λ (c : ℕ). decimal value ++ c ∷ []) last

pub number-more : (piece : List ℕ) (place number : ℕ) → place < length piece → whole_number (take place piece) ≡ Some number → 1 ≤ number → number < GREATEST_NUMBER / 10 →
    Digit (get_or piece place 0) → whole_number (take (place + 1) piece) ≡ Some (10 * number + (get_or piece place 0 - 48))
number-more piece place number inside is some low digit =
    let byte : ℕ = get_or piece place 0 in
    let range = digit_in byte digit in
    let taken : take (place + 1) piece ≡ take place piece ++ byte ∷ [] = rw add-one (take-suc piece place 0 inside) in
    let written : take (place + 1) piece ≡ decimal (10 * number + (byte - 48)) =
    taken ∙ ap (λ (bs : List ℕ). bs ++ byte ∷ []) (whole-found (take place piece) number is).0 ∙ sym (digit_step number byte some range.0 range.1 low) in
    ap whole_number written ∙ whole-decimal (10 * number + (byte - 48)) (omega (arith, low, range.1))

-- the first byte alone
pub first-number : (piece : List ℕ) → 1 ≤ length piece → Digit (get_or piece 0 0) → whole_number (take 1 piece) ≡ Some (get_or piece 0 0 - 48)
first-number piece there digit =
    let byte : ℕ = get_or piece 0 0 in
    let range = digit_in byte digit in
    let same : 48 + (byte - 48) ≡ byte = omega (arith, range.0) in
    let written : take 1 piece ≡ decimal (byte - 48) =
    take-suc piece 0 0 there ∙ ap (λ (b : ℕ). b ∷ []) (sym same) ∙ sym (decimal_digit (byte - 48) (omega (arith, range.1))) in
    ap whole_number written ∙ whole-decimal (byte - 48) (omega (arith, range.1))

pub first-digit : (piece : List ℕ) (digits : Digits) → IsFirstDigit piece digits → IsFirstNumber piece digits
first-digit piece digits first = record {
  within = omega (arith, first.count, first.there);
  is = ap (λ (k : ℕ). whole_number (take k piece)) first.count ∙ first-number piece first.there first.digit ∙ ap (λ (n : ℕ). Some n) (sym first.number);
}

pub first-zero : (piece : List ℕ) → 1 ≤ length piece → get_or piece 0 0 ≡ 48 → IsFirstNumber piece (record { number = 0; count = 1 })
first-zero piece there zero_is = record {
  within = there;
  is = first-number piece there (grind (arith, zero_is)) ∙ ap (λ (b : ℕ). Some (b - 48)) zero_is;
}

-- ---- a digit at a time
-- the digits so far of a word, and their number
pub record IsSoFar (word : List ℕ) (place number : ℕ) : Type 0 where
  pub all : All Digit (take place word)
  pub is : number ≡ digits_value 10 (take place word)
  pub few : number ≤ GREATEST_NUMBER

value_of : (byte : ℕ) → Digit byte → digit_value byte ≡ byte - 48
value_of byte digit = let range = digit_in byte digit in omega (arith, digit_value_digit byte range)

pub value-more : (word : List ℕ) (place number : ℕ) → place < length word → number ≡ digits_value 10 (take place word) → Digit (get_or word place 0) →
    10 * number + (get_or word place 0 - 48) ≡ digits_value 10 (take (place + 1) word)
value-more word place number inside is digit =
    omega (arith, digits_value_more 10 word place inside, is, value_of (get_or word place 0) digit)

-- why a word is no number
pub no-empty : (word : List ℕ) → length word ≡ 0 → None ≡ whole_number word
no-empty word none = whole-none word (λ n is few. absurd (omega (arith, decimal_nonempty n (omega (arith, few)), ap length is, none)))

lead_by : (word : List ℕ) (n : ℕ) → 1 < length word → get_or word 0 0 ≡ 48 → word ≡ decimal n → n ≤ GREATEST_NUMBER → ⊥
lead_by word zero long first is few = absurd (omega (arith, long, ap length (is ∙ decimal_digit 0 (omega arith))))
lead_by word (suc n) long first is few =
    omega (arith, first_decimal (suc n) (omega arith) (omega (arith, few)), first, ap (λ (bs : List ℕ). get_or bs 0 0) is)

pub no-lead : (word : List ℕ) → 1 < length word → get_or word 0 0 ≡ 48 → None ≡ whole_number word
no-lead word long first = whole-none word (λ n is few. lead_by word n long first is few)

pub no-digit : (word : List ℕ) (place : ℕ) → place < length word → (Digit (get_or word place 0) → ⊥) → None ≡ whole_number word
no-digit word place inside other =
    whole-none word (λ n is few. other (subst (All Digit) (sym is) (digits_decimal model n (omega (arith, few))) place 0 inside))

pub no-more : (word : List ℕ) (place value : ℕ) → value ≡ digits_value 10 (take place word) → GREATEST_NUMBER < value → None ≡ whole_number word
no-more word place value is great =
    whole-none word (λ n written few.
    omega (arith, digits_value-take-le 10 word place (omega arith), is, great, few, ap (digits_value 10) written, (decimal_is_IsNumeral n (omega (arith, few))).1))
