-- The number that a word is.
use Rattle.std.proofs.Common.{◌≡◌, ◌∙◌, ℕ, ◌<◌, ◌^◌, Bool, true, false, nat_eq, nat_lt, ◌&&◌, List, [], ◌∷◌, if◌then◌else◌, Some, None, Ok, Err, refl, sym, ap, arith, decimal, cond}
use Rattle.std.specs.Prelude.{Option, Result, drop, ◌==◌}
use Rattle.std.specs.Result.{result_ok}
use Rattle.std.specs.Str.Parse.{IsNumeral, ParsesUnsigned, digits_value, without_leading_plus}
use Rattle.std.proofs.lemmas.Bool.{and_parts}
use Rattle.std.proofs.lemmas.Fmt.{decimal_is_IsNumeral}
use lib.Pointwise.{pointwise, bytes_decides}
use Rattle.escrow_top.specs.MakeWords.{number_of_word}

-- digits have no plus
numeral-plain : (word : List ℕ) → IsNumeral 10 word → without_leading_plus word ≡ word
numeral-plain [] is = absurd (omega (arith, is.0))
numeral-plain (c ∷ cs) is = by_test (c == 43) refl
  where
    by_test : (b : Bool) → (c == 43) ≡ b → drop (cond b 1 0) (c ∷ cs) ≡ c ∷ cs
    by_test false e = refl
    by_test true e = let plus : c ≡ 43 = grind arith in absurd (omega (arith, rw plus at is.1.0))

-- what writes a number is that number
pub number-read : (n : ℕ) → n < 2 ^ 64 → number_of_word (decimal n) ≡ Some n
number-read n low =
    let value : digits_value 10 (decimal n) ≡ n = (decimal_is_IsNumeral n low).1 in
    let same : pointwise nat_eq (decimal (digits_value 10 (decimal n))) (decimal n) ≡ true =
    (bytes_decides (decimal (digits_value 10 (decimal n))) (decimal n)).1 (ap (λ (m : ℕ). decimal m) value) in
    let within : nat_lt (digits_value 10 (decimal n)) (2 ^ 64) ≡ true = rw value (grind (arith, low)) in
    ap (λ (b : Bool). if b && nat_lt (digits_value 10 (decimal n)) (2 ^ 64) then Some (digits_value 10 (decimal n)) else None) same
    ∙ ap (λ (b : Bool). if b then Some (digits_value 10 (decimal n)) else None) within
    ∙ ap (λ (m : ℕ). Some m) value

-- a word that is a number is what writes it
number_by : (word : List ℕ) (n : ℕ) (b : Bool) → (pointwise nat_eq (decimal (digits_value 10 word)) word && nat_lt (digits_value 10 word) (2 ^ 64)) ≡ b →
    (if b then Some (digits_value 10 word) else None) ≡ Some n → (word ≡ decimal n) × (n < 2 ^ 64)
number_by word n false e h = absurd (cc)
number_by word n true e h =
    let both : (pointwise nat_eq (decimal (digits_value 10 word)) word ≡ true) × (nat_lt (digits_value 10 word) (2 ^ 64) ≡ true) = and_parts _ _ e in
    let same : digits_value 10 word ≡ n = cc in
    let within : digits_value 10 word < 2 ^ 64 = grind (arith, both.1) in
    (sym ((bytes_decides (decimal (digits_value 10 word)) word).0 both.0) ∙ ap decimal same, omega (arith, within, same))

pub number-found : (word : List ℕ) (n : ℕ) → number_of_word word ≡ Some n → (word ≡ decimal n) × (n < 2 ^ 64)
number-found word n h = number_by word n _ refl h

none_by : (word : List ℕ) (o : Option ℕ) → number_of_word word ≡ o → ((n : ℕ) → n < 2 ^ 64 → word ≡ decimal n → ⊥) → o ≡ None
none_by word None e none = refl
none_by word (Some n) e none = absurd (none n (number-found word n e).1 (number-found word n e).0)

-- no word that writes none is one
pub number-none : (word : List ℕ) → ((n : ℕ) → n < 2 ^ 64 → word ≡ decimal n → ⊥) → number_of_word word ≡ None
number-none word none = none_by word (number_of_word word) refl none

-- what a number that is written parses to
written : (word : List ℕ) (n : ℕ) → n < 2 ^ 64 → word ≡ decimal n
    → IsNumeral 10 (without_leading_plus word) × (digits_value 10 (without_leading_plus word) ≡ n)
written word n low is =
    let numeral = decimal_is_IsNumeral n low in
    let plain : without_leading_plus word ≡ decimal n = ap without_leading_plus is ∙ numeral-plain (decimal n) numeral.0 in
    rw plain numeral

-- a word that doesn't parse is none
pub unparsed-none : {E : Type 0} (word : List ℕ) (parsed : Result ℕ E) → ParsesUnsigned 64 10 word parsed → None ≡ result_ok parsed → number_of_word word ≡ None
unparsed-none word (Ok x) parses none = absurd (cc)
unparsed-none word (Err e) parses none =
    number-none word (λ n low is. let all = written word n low is in parses (all.0, omega (arith, all.1, low)))

-- nor one that isn't what its number is written as
pub other-none : {E : Type 0} (word : List ℕ) (parsed : Result ℕ E) (x : ℕ) → ParsesUnsigned 64 10 word parsed → Some x ≡ result_ok parsed → false ≡ pointwise nat_eq (decimal x) word → number_of_word word ≡ None
other-none word (Err e) x parses some other = absurd (cc)
other-none word (Ok y) x parses some other =
    number-none word (λ n low is.
    let all = written word n low is in
    let same : x ≡ n = let yx : x ≡ y = cc in yx ∙ parses.1 ∙ all.1 in
    let equal : pointwise nat_eq (decimal x) word ≡ true = (bytes_decides (decimal x) word).1 (ap decimal same ∙ sym is) in
    absurd (let clash : false ≡ true = other ∙ equal in cc))

-- and one that is
pub same-number : {E : Type 0} (word : List ℕ) (parsed : Result ℕ E) (x : ℕ) → ParsesUnsigned 64 10 word parsed → Some x ≡ result_ok parsed → true ≡ pointwise nat_eq (decimal x) word → Some x ≡ number_of_word word
same-number word (Err e) x parses some same = absurd (cc)
same-number word (Ok y) x parses some same =
    let yx : x ≡ y = cc in
    let is : decimal x ≡ word = (bytes_decides (decimal x) word).0 (sym same) in
    sym (number-read x (omega (arith, yx, parses.1, parses.0.1))) ∙ ap number_of_word is
