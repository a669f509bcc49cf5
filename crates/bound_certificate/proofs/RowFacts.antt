-- A line of a word and numbers, and its words.
use Rattle.std.proofs.Common.{◌≡◌, ◌∙◌, ℕ, ◌+◌, ◌%◌, ◌<◌, ◌≤◌, Bool, true, false, ◌&&◌, nat_le, nat_eq, if◌then◌else◌, List, [], ◌∷◌, ◌++◌, map, All, refl, sym, ap, arith, Option, Some, None, option_and_then, decimal}
use lib.Pointwise.{pointwise, bytes_decides}
use Rattle.std.specs.List.{join_with_byte}
use Rattle.std.specs.Str.Parse.{digits_value}
use Rattle.std.proofs.lemmas.Bool.{and_parts}
use Rattle.std.proofs.lemmas.Fmt.{decimal_by_steps}
use Rattle.std.proofs.lemmas.List.{append-nil}
use Rattle.std.proofs.lemmas.List.Elements.{All-append, All-cons, All-nil}
use Rattle.std.proofs.lemmas.List.Splits.{join_with_byte-slice_split, slice_split_at, slice_split_none}
use Rattle.line_words.specs.declared.range.Range.{Range}
use Rattle.bound_certificate.specs.declared.limits.TheConstants.{GREATEST_GAP}
use Rattle.bound_certificate.specs.Text.{spaced_numbers}
use Rattle.line_words.specs.Words.{is_in, is_space, number_in, whole_number, words_of}
use Rattle.line_words.proofs.NumberFacts.{whole-decimal}

-- a digit
abbrev pub IsDigit : ℕ → Type 0
IsDigit byte = (48 ≤ byte) × (byte ≤ 57)

digit : (n : ℕ) → n < 10 → IsDigit (48 + n)
digit n h = (omega arith, omega arith)

last_digit : (n : ℕ) → IsDigit (48 + n % 10)
last_digit n = (omega arith, omega arith)

-- what writes a number has only digits
pub decimal-digits : (n : ℕ) → n ≤ GREATEST_GAP → All IsDigit (decimal n)
decimal-digits n limit =
    decimal_by_steps (λ (m : ℕ) (ds : List ℕ). All IsDigit ds)
    (λ m low. All-cons IsDigit (48 + m) [] (digit m low) (All-nil IsDigit))
    (λ m ds ten before. All-append IsDigit ds ((48 + m % 10) ∷ []) before (All-cons IsDigit (48 + m % 10) [] (last_digit m) (All-nil IsDigit)))
    n (omega arith)

no_space : (byte : ℕ) → IsDigit byte → is_space byte ≡ false
no_space byte h = grind (arith, h.0)

-- a word in which no space stands
abbrev pub IsWord : List ℕ → Type 0
IsWord word = All (λ byte. is_space byte ≡ false) word

pub decimal-word : (n : ℕ) → n ≤ GREATEST_GAP → IsWord (decimal n)
decimal-word n limit i d h = no_space _ (decimal-digits n limit i d h)

-- numbers that may be written
abbrev pub AreWritten : List ℕ → Type 0
AreWritten [] = Unit {0}
AreWritten (number ∷ numbers) = (number ≤ GREATEST_GAP) × AreWritten numbers

-- the words of a row
pub row-words : (numbers word : List ℕ) → IsWord word → AreWritten numbers → words_of (word ++ spaced_numbers numbers) ≡ word ∷ map decimal numbers
row-words [] word whole few = ap (λ (w : List ℕ). words_of w) (append-nil word) ∙ slice_split_none is_space word whole
row-words (number ∷ numbers) word whole few =
    slice_split_at is_space word 32 (decimal number ++ spaced_numbers numbers) whole refl
    ∙ ap (λ (ws : List (List ℕ)). word ∷ ws) (row-words numbers (decimal number) (decimal-word number few.0) few.1)

-- and the row of these words
joined : (numbers word : List ℕ) → join_with_byte 32 (word ∷ map decimal numbers) ≡ word ++ spaced_numbers numbers
joined [] word = sym (append-nil word)
joined (number ∷ numbers) word = ap (λ (bs : List ℕ). word ++ 32 ∷ bs) (joined numbers (decimal number))

pub words-row : (line word numbers : List ℕ) → words_of line ≡ word ∷ map decimal numbers → line ≡ word ++ spaced_numbers numbers
words-row line word numbers e = sym (join_with_byte-slice_split 32 line) ∙ ap (λ (ws : List (List ℕ)). join_with_byte 32 ws) e ∙ joined numbers word

-- a word that is a number is what writes it
whole_by : (word : List ℕ) (n : ℕ) (b : Bool) → (pointwise nat_eq (decimal (digits_value 10 word)) word && nat_le (digits_value 10 word) GREATEST_GAP) ≡ b →
    (if b then Some (digits_value 10 word) else None) ≡ Some n → (word ≡ decimal n) × (n ≤ GREATEST_GAP)
whole_by word n false e h = absurd (cc)
whole_by word n true e h =
    let both : (pointwise nat_eq (decimal (digits_value 10 word)) word ≡ true) × (nat_le (digits_value 10 word) GREATEST_GAP ≡ true) = and_parts _ _ e in
    let same : digits_value 10 word ≡ n = cc in
    let within : digits_value 10 word ≤ GREATEST_GAP = grind (arith, both.1) in
    (sym ((bytes_decides (decimal (digits_value 10 word)) word).0 both.0) ∙ ap decimal same, omega (arith, within, same))

pub whole-found : (word : List ℕ) (n : ℕ) → whole_number word ≡ Some n → (word ≡ decimal n) × (n ≤ GREATEST_GAP)
whole-found word n h = whole_by word n _ refl h

range_by : (x n : ℕ) (b : Bool) → (if b then Some x else None) ≡ Some n → (b ≡ true) × (x ≡ n)
range_by x n true h = (refl, cc)
range_by x n false h = absurd (cc)

in_by : (range : Range) (o : Option ℕ) (n : ℕ) → option_and_then (λ number. if is_in range number then Some number else None) o ≡ Some n →
    (o ≡ Some n) × (is_in range n ≡ true)
in_by range None n h = absurd (cc)
in_by range (Some x) n h =
    let both : (is_in range x ≡ true) × (x ≡ n) = range_by x n (is_in range x) h in
    (ap (λ (m : ℕ). Some m) both.1, ap (λ (m : ℕ). is_in range m) (sym both.1) ∙ both.0)

pub record IsNumber (range : Range) (word : List ℕ) (n : ℕ) : Type 0 where
  pub text : word ≡ decimal n
  pub small : n ≤ GREATEST_GAP
  pub range_in : is_in range n ≡ true

pub number-found : (range : Range) (word : List ℕ) (n : ℕ) → number_in range word ≡ Some n → IsNumber range word n
number-found range word n h =
    let both : (whole_number word ≡ Some n) × (is_in range n ≡ true) = in_by range (whole_number word) n h in
    let found : (word ≡ decimal n) × (n ≤ GREATEST_GAP) = whole-found word n both.0 in
    record { text = found.0; small = found.1; range_in = both.1 }

pub number-read : (range : Range) (n : ℕ) → n ≤ GREATEST_GAP → is_in range n ≡ true → number_in range (decimal n) ≡ Some n
number-read range n limit inside =
    ap (λ (o : Option ℕ). option_and_then (λ number. if is_in range number then Some number else None) o) (whole-decimal n limit)
    ∙ ap (λ (b : Bool). if b then Some n else None) inside
