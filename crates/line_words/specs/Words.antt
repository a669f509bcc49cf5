-- The words of a line, and whole numbers as they are written. They are this project's own.
use Rattle.std.specs.Prelude.{ℕ, ◌==◌, ◌&&◌, nat_eq, nat_le, if◌then◌else◌, Bool, List, [], slice_index_or, Option, Some, None, option_and_then}
use Rattle.std.specs.Fmt.{decimal}
use Rattle.std.specs.List.{slice_split}
use Rattle.std.specs.Str.Parse.{digits_value}
use denote.Ref.{Bor}
use lib.Pointwise.{pointwise}
use Rattle.line_words.specs.declared.digits.TheConstants.{GREATEST_NUMBER}
use Rattle.line_words.specs.declared.range.Range.{Range}

-- the numbers from one to another
abbrev pub from_to : ℕ → ℕ → Range
from_to least most = record { least = least; most = most }

-- a number lies in a range
abbrev pub is_in : Range → ℕ → Bool
is_in range number = nat_le range.least number && nat_le number range.most

-- a byte is a line feed
abbrev pub is_feed : ℕ → Bool
is_feed byte = byte == 10

-- a byte is a space
abbrev pub is_space : ℕ → Bool
is_space byte = byte == 32

-- what stands before, between and behind the spaces of a line
abbrev pub words_of : List ℕ → List (List ℕ)
words_of line = slice_split is_space line

-- the first word of a line
abbrev pub first_word : List ℕ → List ℕ
first_word bytes = slice_index_or (words_of bytes) 0 []

-- the parts of bytes behind a cut
abbrev pub parts_behind : ℕ → Option (Bor (List ℕ)) → List (List ℕ)
parts_behind mark None = []
parts_behind mark (Some rest) = slice_split (λ byte. byte == mark) rest.now

-- the number that a word is: it is what writes the number, so it has no leading zero; none is above the greatest
abbrev pub whole_number : List ℕ → Option ℕ
whole_number word =
    if pointwise nat_eq (decimal (digits_value 10 word)) word && nat_le (digits_value 10 word) GREATEST_NUMBER
    then Some (digits_value 10 word) else None

-- the number of a range that a word is
abbrev pub number_in : Range → List ℕ → Option ℕ
number_in range word = option_and_then (λ number. if is_in range number then Some number else None) (whole_number word)
