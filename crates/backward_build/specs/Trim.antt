-- Plans of which no line can go down alone. That is a local minimum: a plan that costs less may meet the needs where
-- several lines change at once (this project's own).
use Rattle.std.specs.Prelude.{ℕ, ◌<◌, ◌≤◌, List, length, slice_index, slice_index_or, slice_set}
use Rattle.offer_book.specs.declared.line.Line.{Line}
use Rattle.offer_book.specs.Book.{BookContents}
use Rattle.offer_book.specs.Portfolio.{IsPermittedUnits, Meets}

-- a line has as few units as the other lines allow: with each lower permitted number of them the plan doesn't meet the needs
abbrev pub IsFewest : BookContents → List ℕ → ℕ → Type 0
IsFewest book plan line =
    (units : ℕ) (d : Line) → units < slice_index plan line → IsPermittedUnits (slice_index_or book.lines line d) units
    → ¬ Meets book (slice_set plan line units)

-- so it is with every line, opening cash too
abbrev pub IsTrimmed : BookContents → List ℕ → Type 0
IsTrimmed book plan = (line : ℕ) → line < length book.lines → IsFewest book plan line

-- a plan has no more units of any line than another
abbrev pub HasNoMore : List ℕ → List ℕ → Type 0
HasNoMore plan other = (line : ℕ) → slice_index plan line ≤ slice_index other line
