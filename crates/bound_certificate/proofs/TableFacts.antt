-- A line of a word and numbers, and its words.
use Rattle.std.proofs.Common.{◌≡◌, ◌∙◌, ℕ, ◌+◌, Bool, true, false, ◌&&◌, not, nat_eq, if◌then◌else◌, List, [], ◌∷◌, ◌++◌, length, map, refl, sym, ap, Option, Some, None, Result, Ok, Err, option_and_then, option_map, decimal}
use lib.Pointwise.{pointwise, bytes_decides}
use Rattle.std.proofs.lemmas.Bool.{and_parts}
use Rattle.std.proofs.lemmas.List.{length-map}
use Rattle.std.proofs.lemmas.List.Elements.{All-append}
use Rattle.line_words.specs.declared.range.Range.{Range}
use Rattle.bound_certificate.specs.declared.fault.FaultKind.{FaultKind}
use Rattle.bound_certificate.specs.declared.fault.FaultKind.TheVariants as kind
use Rattle.bound_certificate.specs.declared.row.Row.{Row}
use Rattle.bound_certificate.specs.declared.row.Row.TheVariants as row
use Rattle.bound_certificate.specs.Row.{AreRowNumbers, InRanges, numbers_by, numbers_or, row_fits, row_range, row_said, row_word, row_words}
use Rattle.bound_certificate.specs.Text.{IsOneLine, NotFeed, spaced_numbers}
use Rattle.line_words.specs.Words.{number_in, words_of}
use Rattle.bound_certificate.proofs.PriceFacts.{line_by, numbers_line, word_by}
use Rattle.bound_certificate.proofs.RowFacts.{AreWritten, IsNumber, IsWord, number-found, number-read, row-words, words-row}

-- the numbers that words are
pub record AreNumbersBy (range : ℕ → Range) (place : ℕ) (words : List (List ℕ)) (numbers : List ℕ) : Type 0 where
  pub texts : words ≡ map decimal numbers
  pub small : AreWritten numbers
  pub ranges : InRanges range place numbers

found_by : (range : ℕ → Range) (place : ℕ) (word : List ℕ) (words : List (List ℕ)) (o : Option ℕ) (rest : Option (List ℕ)) (numbers : List ℕ) →
    number_in (range place) word ≡ o → ((others : List ℕ) → rest ≡ Some others → AreNumbersBy range (place + 1) words others) →
    option_and_then (λ number. option_map (λ others. number ∷ others) rest) o ≡ Some numbers → AreNumbersBy range place (word ∷ words) numbers
found_by range place word words None rest numbers here later h = absurd (cc)
found_by range place word words (Some number) None numbers here later h = absurd (cc)
found_by range place word words (Some number) (Some others) numbers here later h =
    let same : number ∷ others ≡ numbers = cc in
    let found : IsNumber (range place) word number = number-found (range place) word number here in
    let behind : AreNumbersBy range (place + 1) words others = later others refl in
    let all : AreNumbersBy range place (word ∷ words) (number ∷ others) = record {
      texts = ap (λ (w : List ℕ). w ∷ words) found.text ∙ ap (λ (ws : List (List ℕ)). decimal number ∷ ws) behind.texts;
      small = (found.small, behind.small);
      ranges = (found.range_in, behind.ranges);
    } in
    rw (sym same) all

pub by-found : (range : ℕ → Range) (place : ℕ) (words : List (List ℕ)) (numbers : List ℕ) → numbers_by range place words ≡ Some numbers → AreNumbersBy range place words numbers
by-found range place [] numbers h =
    let none : [] ≡ numbers = cc in
    let all : AreNumbersBy range place [] [] = record { texts = refl; small = tt; ranges = tt } in
    rw (sym none) all
by-found range place (word ∷ words) numbers h =
    found_by range place word words (number_in (range place) word) (numbers_by range (place + 1) words) numbers refl
    (λ others e. by-found range (place + 1) words others e) h

pub by-read : (range : ℕ → Range) (place : ℕ) (numbers : List ℕ) → AreWritten numbers → InRanges range place numbers →
    numbers_by range place (map decimal numbers) ≡ Some numbers
by-read range place [] few inside = refl
by-read range place (number ∷ numbers) few inside =
    ap (λ (o : Option ℕ). option_and_then (λ first. option_map (λ others. first ∷ others) (numbers_by range (place + 1) (map decimal numbers))) o)
    (number-read (range place) number few.0 inside.0)
    ∙ ap (λ (o : Option (List ℕ)). option_map (λ others. number ∷ others) o) (by-read range (place + 1) numbers few.1 inside.1)

-- what a line says that has no fault
pub record IsRowOf (dates vectors : ℕ) (r : Row) (may : Bool) (bytes numbers : List ℕ) : Type 0 where
  pub stands : may ≡ true
  pub text : bytes ≡ row_word r ++ spaced_numbers numbers
  pub small : AreWritten numbers
  pub ranges : InRanges (row_range dates vectors r) 1 numbers
  pub fits : row_fits dates r (length numbers) ≡ true

err_if : {X : Type 0} (b : Bool) (found : FaultKind) (rest : Result X FaultKind) (x : X) → (if not b then Err found else rest) ≡ Ok x → (b ≡ true) × (rest ≡ Ok x)
err_if true found rest x h = (refl, h)
err_if false found rest x h = absurd (cc)

or_found : (o : Option (List ℕ)) (numbers : List ℕ) → numbers_or o ≡ Ok numbers → o ≡ Some numbers
or_found None numbers h = absurd (cc)
or_found (Some found) numbers h = let same : found ≡ numbers = cc in ap (λ (ns : List ℕ). Some ns) same

-- the same of its words
pub record AreRowWords (dates vectors : ℕ) (r : Row) (may : Bool) (words : List (List ℕ)) (numbers : List ℕ) : Type 0 where
  pub stands : may ≡ true
  pub texts : words ≡ row_word r ∷ map decimal numbers
  pub small : AreWritten numbers
  pub ranges : InRanges (row_range dates vectors r) 1 numbers
  pub fits : row_fits dates r (length numbers) ≡ true

pub words-found : (dates vectors : ℕ) (r : Row) (may : Bool) (numbers : List ℕ) (ws : List (List ℕ)) → row_words dates vectors r may ws ≡ Ok numbers →
    AreRowWords dates vectors r may ws numbers
words-found dates vectors r may numbers [] h = absurd (cc)
words-found dates vectors r may numbers (first ∷ others) h =
    let named : (pointwise nat_eq (row_word r) first ≡ true) × ((if not (may && row_fits dates r (length others)) then Err kind.Count
    else numbers_or (numbers_by (row_range dates vectors r) 1 others)) ≡ Ok numbers) = err_if _ kind.Header _ numbers h in
    let counted : ((may && row_fits dates r (length others)) ≡ true) × (numbers_or (numbers_by (row_range dates vectors r) 1 others) ≡ Ok numbers) =
    err_if _ kind.Count _ numbers named.1 in
    let both : (may ≡ true) × (row_fits dates r (length others) ≡ true) = and_parts _ _ counted.0 in
    let found : AreNumbersBy (row_range dates vectors r) 1 others numbers =
    by-found (row_range dates vectors r) 1 others numbers (or_found (numbers_by (row_range dates vectors r) 1 others) numbers counted.1) in
    let same : row_word r ≡ first = (bytes_decides (row_word r) first).0 named.0 in
    let count : length others ≡ length numbers = ap length found.texts ∙ length-map numbers decimal in
    record {
      stands = both.0;
      texts = ap (λ (w : List ℕ). w ∷ others) (sym same) ∙ ap (λ (ws : List (List ℕ)). row_word r ∷ ws) found.texts;
      small = found.small;
      ranges = found.ranges;
      fits = ap (λ (k : ℕ). row_fits dates r k) (sym count) ∙ both.1;
    }

pub row-found : (dates vectors : ℕ) (r : Row) (may : Bool) (bytes numbers : List ℕ) → row_said dates vectors r may bytes ≡ Ok numbers → IsRowOf dates vectors r may bytes numbers
row-found dates vectors r may bytes numbers h =
    let are : AreRowWords dates vectors r may (words_of bytes) numbers = words-found dates vectors r may numbers (words_of bytes) h in
    record { stands = are.stands; text = words-row bytes (row_word r) numbers are.texts; small = are.small; ranges = are.ranges; fits = are.fits }

-- the words of rows have no space and no line feed
pub row-word : (r : Row) → IsWord (row_word r)
row-word (row.Portfolio most) = word_by (row_word (row.Portfolio most)) refl
row-word (row.Buy least) = word_by (row_word (row.Buy least)) refl
row-word (row.Gap most) = word_by (row_word (row.Gap most)) refl
row-word row.Vectors = word_by (row_word row.Vectors) refl
row-word row.Vector = word_by (row_word row.Vector) refl
row-word row.Nodes = word_by (row_word row.Nodes) refl
row-word row.Split = word_by (row_word row.Split) refl
row-word row.SumSplit = word_by (row_word row.SumSplit) refl
row-word row.Point = word_by (row_word row.Point) refl
row-word row.Priced = word_by (row_word row.Priced) refl
row-word (row.Leaf how) = word_by (row_word (row.Leaf how)) refl
row-word row.Tail = word_by (row_word row.Tail) refl
row-word row.End = word_by (row_word row.End) refl

row_one : (r : Row) → IsOneLine (row_word r)
row_one (row.Portfolio most) = line_by (row_word (row.Portfolio most)) refl
row_one (row.Buy least) = line_by (row_word (row.Buy least)) refl
row_one (row.Gap most) = line_by (row_word (row.Gap most)) refl
row_one row.Vectors = line_by (row_word row.Vectors) refl
row_one row.Vector = line_by (row_word row.Vector) refl
row_one row.Nodes = line_by (row_word row.Nodes) refl
row_one row.Split = line_by (row_word row.Split) refl
row_one row.SumSplit = line_by (row_word row.SumSplit) refl
row_one row.Point = line_by (row_word row.Point) refl
row_one row.Priced = line_by (row_word row.Priced) refl
row_one (row.Leaf how) = line_by (row_word (row.Leaf how)) refl
row_one row.Tail = line_by (row_word row.Tail) refl
row_one row.End = line_by (row_word row.End) refl

pub row-one : (r : Row) (numbers : List ℕ) → AreWritten numbers → IsOneLine (row_word r ++ spaced_numbers numbers)
row-one r numbers small = All-append NotFeed (row_word r) (spaced_numbers numbers) (row_one r) (numbers_line numbers small)

-- and a line of numbers of their ranges says them
pub row-shows : (dates vectors : ℕ) (r : Row) (numbers : List ℕ) → AreWritten numbers → InRanges (row_range dates vectors r) 1 numbers →
    row_fits dates r (length numbers) ≡ true → row_said dates vectors r true (row_word r ++ spaced_numbers numbers) ≡ Ok numbers
row-shows dates vectors r numbers small inside fits =
    let others : List (List ℕ) = map decimal numbers in
    let named : pointwise nat_eq (row_word r) (row_word r) ≡ true = (bytes_decides (row_word r) (row_word r)).1 refl in
    let count : row_fits dates r (length others) ≡ true = ap (λ (k : ℕ). row_fits dates r k) (length-map numbers decimal) ∙ fits in
    ap (λ (ws : List (List ℕ)). row_words dates vectors r true ws) (row-words numbers (row_word r) (row-word r) small)
    ∙ ap (λ (b : Bool). if not b then Err kind.Header else if not (row_fits dates r (length others)) then Err kind.Count
    else numbers_or (numbers_by (row_range dates vectors r) 1 others)) named
    ∙ ap (λ (b : Bool). if not b then Err kind.Count else numbers_or (numbers_by (row_range dates vectors r) 1 others)) count
    ∙ ap numbers_or (by-read (row_range dates vectors r) 1 numbers small inside)

pub row-numbers : (dates vectors : ℕ) (r : Row) (may : Bool) (bytes numbers : List ℕ) → row_said dates vectors r may bytes ≡ Ok numbers → AreRowNumbers dates vectors r numbers
row-numbers dates vectors r may bytes numbers h =
    let is : IsRowOf dates vectors r may bytes numbers = row-found dates vectors r may bytes numbers h in record { fits = is.fits; ranges = is.ranges }
