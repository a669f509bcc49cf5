-- The portfolios of the ends of tight intervals are permitted.
use Rattle.std.proofs.Common.{ℕ, List, [], ◌∷◌, map, arith}
use Rattle.std.specs.List.{All, AllZip, zip}
use Rattle.std.proofs.lemmas.List.{length-map}
use Rattle.std.proofs.lemmas.List.Elements.{All-cons, All-nil}
use Rattle.node_ranges.proofs.RangeFacts.{tight-length}
use Rattle.node_ranges.specs.Ranges.{IsTight}
use Rattle.proof_tree.specs.declared.interval.Interval.{Interval}
use Rattle.offer_book.specs.Book.{BookContents}
use Rattle.offer_book.specs.Portfolio.{IsPermitted, IsPermittedUnits}
use Rattle.offer_book.specs.declared.line.Line.{Line}

abbrev PairIsPermitted : Line × ℕ → Type 0
PairIsPermitted p = IsPermittedUnits p.0 p.1

abbrev pub high_of : Interval → ℕ
high_of interval = interval.high

abbrev pub low_of : Interval → ℕ
low_of interval = interval.low

highs-zip : (lines : List Line) (ranges : List Interval) → AllZip IsTight lines ranges → All PairIsPermitted (zip lines (map high_of ranges))
highs-zip [] ranges tight = All-nil PairIsPermitted
highs-zip (line ∷ lines) [] tight = absurd tight
highs-zip (line ∷ lines) (interval ∷ ranges) tight = All-cons PairIsPermitted (line, interval.high) (zip lines (map high_of ranges)) tight.0.high (highs-zip lines ranges tight.1)

lows-zip : (lines : List Line) (ranges : List Interval) → AllZip IsTight lines ranges → All PairIsPermitted (zip lines (map low_of ranges))
lows-zip [] ranges tight = All-nil PairIsPermitted
lows-zip (line ∷ lines) [] tight = absurd tight
lows-zip (line ∷ lines) (interval ∷ ranges) tight = All-cons PairIsPermitted (line, interval.low) (zip lines (map low_of ranges)) tight.0.low (lows-zip lines ranges tight.1)

pub highs-permitted : (book : BookContents) (ranges : List Interval) → AllZip IsTight book.lines ranges → IsPermitted book (map high_of ranges)
highs-permitted book ranges tight = record { same_length = omega (arith, length-map ranges high_of, tight-length book.lines ranges tight); units = highs-zip book.lines ranges tight }

pub lows-permitted : (book : BookContents) (ranges : List Interval) → AllZip IsTight book.lines ranges → IsPermitted book (map low_of ranges)
lows-permitted book ranges tight = record { same_length = omega (arith, length-map ranges low_of, tight-length book.lines ranges tight); units = lows-zip book.lines ranges tight }
