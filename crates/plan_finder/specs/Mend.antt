-- Rises of lines.
use Rattle.std.specs.Prelude.{◌<◌, length, slice_index_or}
use Rattle.offer_book.specs.Book.{BookContents}
use Rattle.offer_book.specs.Portfolio.{IsPermittedUnits}
use Rattle.offer_book.specs.declared.line.Line.{Line}
use Rattle.plan_finder.specs.declared.mend.Rise.{Rise}

-- a rise to a permitted number of units of a line that is there
pub record IsRise (book : BookContents) (rise : Rise) : Type 0 where
  pub line : rise.line < length book.lines
  pub permitted : (d : Line) → IsPermittedUnits (slice_index_or book.lines rise.line d) rise.units
