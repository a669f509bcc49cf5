-- The table of the lines of a word and numbers: how each begins, how many numbers it has, and their ranges; and the numbers that a line
-- says, or why it isn't one. The grammar is this project's own.
use Rattle.std.specs.Prelude.{◌≡◌, ℕ, ◌+◌, ◌*◌, ◌%◌, ◌<◌, ◌++◌, Bool, true, ◌==◌, ◌&&◌, not, nat_eq, nat_le, if◌then◌else◌, List, [], ◌∷◌, length, Option, Some, None, option_and_then, option_map, Result, Ok, Err, codes}
use lib.Pointwise.{pointwise}
use Rattle.proof_tree.specs.declared.prices.TheConstants.{PRICE_SCALE}
use Rattle.proof_tree.specs.declared.tree.TheConstants.{GREATEST_UNITS}
use Rattle.proof_tree.specs.declared.weights.TheConstants.{MOST_WEIGHTS}
use Rattle.line_words.specs.declared.front.Taken.{Taken}
use Rattle.line_words.specs.declared.range.Range.{Range}
use Rattle.bound_certificate.specs.declared.fault.FaultKind.{FaultKind}
use Rattle.bound_certificate.specs.declared.fault.FaultKind.TheVariants as kind
use Rattle.bound_certificate.specs.declared.limits.TheConstants.{MOST_NODES, MOST_VECTORS}
use Rattle.bound_certificate.specs.declared.row.Row.{Row}
use Rattle.bound_certificate.specs.declared.row.Row.TheVariants as row
use Rattle.bound_certificate.specs.declared.weighing.Weighing.{Weighing}
use Rattle.bound_certificate.specs.Weights.{least_vector, most_weight}
use Rattle.line_words.specs.Words.{from_to, is_in, number_in, parts_behind, words_of}

-- how the first word of a line is written
abbrev pub row_word : Row → List ℕ
row_word (row.Portfolio most) = codes "portfolio"
row_word (row.Buy least) = codes "buy"
row_word (row.Gap most) = codes "gap"
row_word row.Vectors = codes "vectors"
row_word row.Vector = codes "v"
row_word row.Nodes = codes "nodes"
row_word row.Split = codes "s"
row_word row.SumSplit = codes "t"
row_word row.Point = codes "p"
row_word row.Priced = codes "l"
row_word (row.Leaf w) = codes "l"
row_word row.Tail = codes "t"
row_word row.End = codes "end"

-- the range of a price
abbrev pub price_range : Range
price_range = from_to 0 (2 * PRICE_SCALE)

-- the range of the number at a place of a leaf with all its prices, from 1: whether the cost counts, the multiplier of the limit, prices
abbrev pub weight_range : ℕ → Range
weight_range place = if place == 1 then from_to 0 1 else if place == 2 then from_to 0 PRICE_SCALE else price_range

-- the range of the number at a place of a leaf with changes, from 1: the weight of the cost, the multiplier of the limit, the vector, or 0 for stairs, and
-- by turns the place of a change and its price
abbrev pub leaf_range : Weighing → ℕ → ℕ → ℕ → Range
leaf_range w dates vectors place =
    if place == 1 then from_to 0 (most_weight w) else if place == 2 then from_to 0 PRICE_SCALE else if place == 3 then from_to (least_vector w) vectors
    else if place % 2 == 0 then from_to 1 dates else price_range

-- the range of the number at a place of a tail, from 1: by turns the need date of a sum, a side and a weight
abbrev pub tail_range : ℕ → ℕ → Range
tail_range dates place = if place % 3 == 1 then from_to 1 dates else if place % 3 == 2 then from_to 0 1 else from_to 1 PRICE_SCALE

-- the range of the number at a place of a line, from 1 behind the line's first word
abbrev pub row_range : ℕ → ℕ → Row → ℕ → Range
row_range dates vectors (row.Portfolio most) place = from_to 0 most
row_range dates vectors (row.Buy least) place = if place == 1 then from_to 0 65_535 else from_to 1 GREATEST_UNITS
row_range dates vectors (row.Gap most) place = from_to 0 most
row_range dates vectors row.Vectors place = from_to 0 MOST_VECTORS
row_range dates vectors row.Vector place = price_range
row_range dates vectors row.Nodes place = from_to 1 MOST_NODES
row_range dates vectors row.Split place = if place == 1 then from_to 0 65_535 else from_to 0 GREATEST_UNITS
row_range dates vectors row.SumSplit place = if place == 1 then from_to 1 dates else from_to 0 GREATEST_UNITS
row_range dates vectors row.Priced place = weight_range place
row_range dates vectors (row.Leaf w) place = leaf_range w dates vectors place
row_range dates vectors row.Tail place = tail_range dates place
row_range dates vectors other place = from_to 0 0

-- whether so many numbers make a line: a vector has one for each need date, a leaf with all its prices two more, one with changes three and
-- then two for each change, and a tail three for each weight
abbrev pub row_fits : ℕ → Row → ℕ → Bool
row_fits dates (row.Buy least) count = count == 2
row_fits dates row.Vector count = count == dates
row_fits dates row.Split count = count == 2
row_fits dates row.SumSplit count = count == 2
row_fits dates row.Point count = count == 0
row_fits dates row.Priced count = count == 2 + dates
row_fits dates (row.Leaf w) count = nat_le 3 count && nat_le count (3 + 2 * dates) && (count % 2 == 1)
row_fits dates row.Tail count = nat_le 3 count && nat_le count (3 * MOST_WEIGHTS) && (count % 3 == 0)
row_fits dates row.End count = count == 0
row_fits dates other count = count == 1

-- ---- the words of a line
-- the numbers of their ranges that words are, from a place on
abbrev pub numbers_by : (ℕ → Range) → ℕ → List (List ℕ) → Option (List ℕ)
numbers_by range place [] = Some []
numbers_by range place (word ∷ words) =
    option_and_then (λ number. option_map (λ numbers. number ∷ numbers) (numbers_by range (place + 1) words)) (number_in (range place) word)

-- the numbers, or `Number` where a word is none of its range
abbrev pub numbers_or : Option (List ℕ) → Result (List ℕ) FaultKind
numbers_or None = Err kind.Number
numbers_or (Some numbers) = Ok numbers

-- the numbers that a line says, or the first of `Header`, `Count` and `Number` that stands; where no line of its name may stand any more
-- it is `Count`
abbrev pub row_words : ℕ → ℕ → Row → Bool → List (List ℕ) → Result (List ℕ) FaultKind
row_words dates vectors r may [] = Err kind.Header
row_words dates vectors r may (first ∷ others) =
    if not (pointwise nat_eq (row_word r) first) then Err kind.Header
    else if not (may && row_fits dates r (length others)) then Err kind.Count
    else numbers_or (numbers_by (row_range dates vectors r) 1 others)

-- the same of the bytes of a line
abbrev pub row_said : ℕ → ℕ → Row → Bool → List ℕ → Result (List ℕ) FaultKind
row_said dates vectors r may line = row_words dates vectors r may (words_of line)

-- numbers of the ranges of their places, from a place on
abbrev pub InRanges : (ℕ → Range) → ℕ → List ℕ → Type 0
InRanges range place [] = Unit {0}
InRanges range place (number ∷ numbers) = (is_in (range place) number ≡ true) × InRanges range (place + 1) numbers

-- the numbers of a line that has no fault but perhaps one of order
pub record AreRowNumbers (dates vectors : ℕ) (r : Row) (numbers : List ℕ) : Type 0 where
  pub fits : row_fits dates r (length numbers) ≡ true
  pub ranges : InRanges (row_range dates vectors r) 1 numbers

-- ---- words that are read one after the other
-- numbers are those of the first words, and these words are left
abbrev pub AreReadTo : (ℕ → Range) → List (List ℕ) → List ℕ → List (List ℕ) → Type 0
AreReadTo range words numbers left = numbers_by range 1 words ≡ option_map (λ others. numbers ++ others) (numbers_by range (length numbers + 1) left)

-- all numbers behind so many are prices
abbrev pub ArePricesBehind : (ℕ → Range) → ℕ → Type 0
ArePricesBehind range count = (place : ℕ) → count < place → range place ≡ price_range

-- the first of words is a number of a range, and these words are left
pub record IsNextOf (range : Range) (words : List (List ℕ)) (taken : Taken) : Type 0 where
  pub word : List ℕ
  pub are : words ≡ word ∷ parts_behind 32 taken.rest
  pub number : number_in range word ≡ Some taken.number
