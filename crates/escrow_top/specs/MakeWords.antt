-- The words of `make`.
use Rattle.std.specs.Prelude.{ℕ, ◌^◌, nat_eq, nat_lt, ◌&&◌, List, Option, Some, None, if◌then◌else◌, decimal}
use Rattle.std.specs.Str.Parse.{digits_value}
use lib.Pointwise.{pointwise}

-- the number below 2^64 that a word is: the word is what writes the number, so it has no sign and no leading zero
abbrev pub number_of_word : List ℕ → Option ℕ
number_of_word word =
    if pointwise nat_eq (decimal (digits_value 10 word)) word && nat_lt (digits_value 10 word) (2 ^ 64)
    then Some (digits_value 10 word) else None

-- the names of the three files of a case
pub record MadeNames : Type 0 where
  pub issue : List ℕ
  pub rates : List ℕ
  pub prices : List ℕ

-- what is to be made: the case of a number, in files of these names
pub record Making : Type 0 where
  pub number : ℕ
  pub names : MadeNames
