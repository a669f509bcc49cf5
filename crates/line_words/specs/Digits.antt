-- Numbers at the front of bytes.
use Rattle.std.specs.Prelude.{◌≡◌, ℕ, ◌-◌, ◌≤◌, true, List, ◌∷◌, All, length, take, slice_index, Some}
use Rattle.std.specs.Char.{is_ascii_digit}
use Rattle.std.specs.Int.{from_le_bytes, w64}
use Rattle.line_words.specs.declared.digits.Digits.{Digits}
use Rattle.line_words.specs.declared.range.Range.{Range}
use Rattle.line_words.specs.declared.front.Taken.{Taken}
use Rattle.line_words.specs.Words.{first_word, number_in, parts_behind, whole_number, words_of}

-- the first byte of a piece is a digit above 0
pub record IsFirstDigit (piece : List ℕ) (digits : Digits) : Type 0 where
  pub there : 1 ≤ length piece
  pub digit : is_ascii_digit (slice_index piece 0) ≡ true
  pub number : digits.number ≡ slice_index piece 0 - 48
  pub some : 1 ≤ digits.number
  pub count : digits.count ≡ 1

-- a word holds eight digits, the first of them in its lowest byte
pub record HoldsDigits (word : ℕ) (digits : List ℕ) : Type 0 where
  pub count : length digits ≡ 8
  pub each : All (λ digit. digit ≤ 9) digits
  pub is : word ≡ from_le_bytes w64 digits

-- so many bytes at the front of a piece are a number
pub record IsFirstNumber (piece : List ℕ) (digits : Digits) : Type 0 where
  pub within : digits.count ≤ length piece
  pub is : whole_number (take digits.count piece) ≡ Some digits.number

-- the first word of bytes is a number, and the other words are behind it
pub record IsFrontNumber (bytes : List ℕ) (taken : Taken) : Type 0 where
  pub words : words_of bytes ≡ first_word bytes ∷ parts_behind 32 taken.rest
  pub number : whole_number (first_word bytes) ≡ Some taken.number

-- the same, where the number is one of a range
pub record IsFrontOf (range : Range) (bytes : List ℕ) (taken : Taken) : Type 0 where
  pub words : words_of bytes ≡ first_word bytes ∷ parts_behind 32 taken.rest
  pub number : number_in range (first_word bytes) ≡ Some taken.number
