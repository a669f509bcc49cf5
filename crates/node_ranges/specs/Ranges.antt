-- Ranges of units, one for each line and one for each sum over the coarse lines, and how a split narrows them. All this is this
-- project's own.
use Rattle.std.specs.Prelude.{◌≡◌, ◌↔◌, ◌⊎◌, ℕ, zero, suc, ◌+◌, ◌≤◌, ◌==◌, Bool, false, true, ◌&&◌, nat_lt, nat_le, if◌then◌else◌, IsTrue, List, [], ◌∷◌, All, map, slice_set}
use Rattle.std.specs.List.{AllZip}
use Rattle.offer_book.specs.Book.{BookContents, IsBook}
use Rattle.offer_book.specs.Portfolio.{IsPermitted, IsPermittedUnits}
use Rattle.offer_book.specs.Sums.{sums_of}
use Rattle.offer_book.specs.declared.line.Line.{Line}
use Rattle.proof_tree.specs.declared.interval.Interval.{Interval}
use Rattle.proof_tree.specs.declared.tree.Part.{Part}
use Rattle.proof_tree.specs.declared.tree.Part.TheVariants as part

-- an interval for each line of a book, and one for each of its sums
pub record RangesContents : Type 0 where
  pub lines : List Interval
  pub sums : List Interval

-- every number of units up to a most
abbrev pub up_to : ℕ → Interval
up_to most = record { low = 0; high = most }

-- every number of units up to the most of a line
abbrev pub whole_interval : Line → Interval
whole_interval line = up_to line.most

-- what each sum counts of the most of all lines
abbrev pub most_sums : BookContents → List ℕ
most_sums book = sums_of book (map (λ line. line.most) book.lines)

-- the ranges of the root: for each line every number of units, and for each sum every number up to what it counts of the most of
-- all lines
abbrev pub root_of : BookContents → RangesContents
root_of book = record {
  lines = map whole_interval book.lines;
  sums = map up_to (most_sums book);
}

-- units lie in an interval
pub record LieIn (interval : Interval) (units : ℕ) : Type 0 where
  pub low : interval.low ≤ units
  pub high : units ≤ interval.high

-- an interval of a line: its high end is at most the most of the line
abbrev pub HasRoomFor : Line → Interval → Type 0
HasRoomFor line interval = interval.high ≤ line.most

-- an interval of a sum: its high end is at most what the sum counts of the most of all lines
abbrev pub IsUpTo : ℕ → Interval → Type 0
IsUpTo most interval = interval.high ≤ most

-- the low end of an interval isn't above its high one
abbrev pub IsOrdered : Interval → Type 0
IsOrdered interval = interval.low ≤ interval.high

-- ranges of a book: an interval for each line and for each sum, in its room
pub record AreOf (book : BookContents) (ranges : RangesContents) : Type 0 where
  pub lines : AllZip HasRoomFor book.lines ranges.lines
  pub sums : AllZip IsUpTo (most_sums book) ranges.sums

-- a portfolio lies within ranges: each line's units lie in its interval, and so do the units that each sum counts
pub record IsWithin (book : BookContents) (ranges : RangesContents) (plan : List ℕ) : Type 0 where
  pub lines : AllZip LieIn ranges.lines plan
  pub sums : AllZip LieIn ranges.sums (sums_of book plan)

-- an interval without the numbers at its ends that aren't permitted: a low end from 1 to below the least purchase rises to
-- the least, and a high end below the least falls to 0
abbrev pub tightened : Line → Interval → Interval
tightened line interval = record {
  low = if nat_lt 0 interval.low && nat_lt interval.low line.least then line.least else interval.low;
  high = if nat_lt interval.high line.least then 0 else interval.high;
}

-- the left side of a split has the units up to a number, and the right side those from the next number on
abbrev pub side_of : Interval → ℕ → Bool → Interval
side_of interval at right = if right then record { low = at + 1; high = interval.high } else record { low = interval.low; high = at }

-- the intervals of lines on a side of a split of one of them, counted from 0: it becomes its side, tightened, and no other changes
abbrev pub narrowed_lines : List Line → List Interval → ℕ → ℕ → Bool → List Interval
narrowed_lines [] ranges line at right = ranges
narrowed_lines (own ∷ lines) [] line at right = []
narrowed_lines (own ∷ lines) (interval ∷ ranges) zero at right = tightened own (side_of interval at right) ∷ ranges
narrowed_lines (own ∷ lines) (interval ∷ ranges) (suc line) at right = interval ∷ narrowed_lines lines ranges line at right

-- those of sums, of which nothing is tightened
abbrev pub narrowed_sums : List Interval → ℕ → ℕ → Bool → List Interval
narrowed_sums [] sum at right = []
narrowed_sums (interval ∷ sums) zero at right = side_of interval at right ∷ sums
narrowed_sums (interval ∷ sums) (suc sum) at right = interval ∷ narrowed_sums sums sum at right

-- the ranges on a side of a split: of a line, or of a sum. The ends of sums don't follow those of lines, nor the other way round
abbrev pub narrowed : BookContents → RangesContents → Part → ℕ → Bool → RangesContents
narrowed book ranges (part.Line line) at right = record { lines = narrowed_lines book.lines ranges.lines line at right; sums = ranges.sums }
narrowed book ranges (part.Sum sum) at right = record { lines = ranges.lines; sums = narrowed_sums ranges.sums sum at right }

-- the intervals among which that of a line or of a sum stands
abbrev pub intervals_of : RangesContents → Part → List Interval
intervals_of ranges (part.Line line) = ranges.lines
intervals_of ranges (part.Sum sum) = ranges.sums

-- the place of a line or of a sum among these, counted from 0
abbrev pub place_of : Part → ℕ
place_of (part.Line line) = line
place_of (part.Sum sum) = sum

-- the ranges with another interval of a line or of a sum
abbrev pub with_interval : RangesContents → Part → Interval → RangesContents
with_interval ranges (part.Line line) interval = record { lines = slice_set ranges.lines line interval; sums = ranges.sums }
with_interval ranges (part.Sum sum) interval = record { lines = ranges.lines; sums = slice_set ranges.sums sum interval }

-- both sides of a split of the interval at a place, counted from 0, at a number have numbers of it
abbrev pub splits : List Interval → ℕ → ℕ → Bool
splits [] place at = false
splits (interval ∷ ranges) zero at = nat_le interval.low at && nat_lt at interval.high
splits (interval ∷ ranges) (suc place) at = splits ranges place at

-- a split of a line or of a sum at a number is proper where both its sides have numbers
abbrev pub is_proper : RangesContents → Part → ℕ → Bool
is_proper ranges part at = splits (intervals_of ranges part) (place_of part) at

-- each interval has one number
abbrev pub are_single : List Interval → Bool
are_single [] = true
are_single (interval ∷ ranges) = (interval.low == interval.high) && are_single ranges

-- each line's interval has one number
abbrev pub is_single : RangesContents → Bool
is_single ranges = are_single ranges.lines

-- both ends of an interval are permitted units of its line, in order
pub record IsTight (line : Line) (interval : Interval) : Type 0 where
  pub low : IsPermittedUnits line interval.low
  pub high : IsPermittedUnits line interval.high
  pub ordered : interval.low ≤ interval.high

-- so it is for each line, and there is an interval in order for each sum, in its room
pub record AreTight (book : BookContents) (ranges : RangesContents) : Type 0 where
  pub lines : AllZip IsTight book.lines ranges.lines
  pub ordered : All IsOrdered ranges.sums
  pub sums : AllZip IsUpTo (most_sums book) ranges.sums

-- the intervals of lines hold a portfolio: its units are permitted, and lie within them
pub record LinesHold (lines : List Line) (ranges : List Interval) (plan : List ℕ) : Type 0 where
  pub permitted : AllZip IsPermittedUnits lines plan
  pub within : AllZip LieIn ranges plan

-- ranges hold a portfolio where those of sums hold its sums as well
pub record Hold (book : BookContents) (ranges : RangesContents) (plan : List ℕ) : Type 0 where
  pub lines : LinesHold book.lines ranges.lines plan
  pub sums : AllZip LieIn ranges.sums (sums_of book plan)

-- What the ranges of a tree keep. A split is of ranges that are tight, and proper.

-- each portfolio that ranges hold is held by exactly one side of a split, and a side holds none besides
pub record CoversBy (book : BookContents) (ranges : RangesContents) (part : Part) (at : ℕ) (plan : List ℕ) : Type 0 where
  pub one : Hold book ranges plan → Hold book (narrowed book ranges part at false) plan ⊎ Hold book (narrowed book ranges part at true) plan
  pub apart : Hold book (narrowed book ranges part at false) plan → Hold book (narrowed book ranges part at true) plan → ⊥
  pub inside : (right : Bool) → Hold book (narrowed book ranges part at right) plan → Hold book ranges plan

abbrev pub SplitsCover : Type 0
SplitsCover =
    (book : BookContents) (ranges : RangesContents) (part : Part) (at : ℕ) → AreTight book ranges → IsTrue (is_proper ranges part at)
    → (plan : List ℕ) → CoversBy book ranges part at plan

-- both sides of a split are tight again
abbrev pub SidesAreTight : Type 0
SidesAreTight =
    (book : BookContents) (ranges : RangesContents) (part : Part) (at : ℕ) (right : Bool) → AreTight book ranges → IsTrue (is_proper ranges part at)
    → AreTight book (narrowed book ranges part at right)

-- tight ranges whose sums are those of the root hold a portfolio
abbrev pub TightHold : Type 0
TightHold =
    (book : BookContents) (ranges : RangesContents) → AreTight book ranges → ranges.sums ≡ (root_of book).sums
    → (plan : List ℕ) × Hold book ranges plan

-- tight ranges are single exactly where the intervals of their lines hold just one portfolio
abbrev pub SingleHoldOne : Type 0
SingleHoldOne =
    (book : BookContents) (ranges : RangesContents) → AreTight book ranges
    → IsTrue (is_single ranges) ↔ ((plan other : List ℕ) → LinesHold book.lines ranges.lines plan → LinesHold book.lines ranges.lines other → plan ≡ other)

-- the root's ranges are tight, and hold every permitted portfolio
abbrev pub RootIsTight : Type 0
RootIsTight = (book : BookContents) → IsBook book → AreTight book (root_of book)

abbrev pub RootHoldsAll : Type 0
RootHoldsAll = (book : BookContents) (plan : List ℕ) → IsPermitted book plan ↔ Hold book (root_of book) plan
