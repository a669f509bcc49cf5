-- The book of an issue, a rate file and a price file, or the refusal of these files.
use Rattle.std.specs.Prelude.{◌≡◌, ℕ, ◌+◌, ◌<◌, ◌⊎◌, nat_lt, if◌then◌else◌, List, ◌∷◌, ◌++◌, length, Result, Ok, Err}
use Rattle.escrow_desk.specs.declared.refusal.FileKind.TheVariants.{Prices}
use Rattle.escrow_desk.specs.declared.refusal.Refusal.{Refusal}
use Rattle.escrow_desk.specs.declared.refusal.RefusalKind.TheVariants.{TooManyLines}
use Rattle.escrow_units.specs.declared.limits.TheConstants.{MOST_LINES}
use Rattle.row_fields.specs.RowForm.{◌>>=◌, refusal_of}
use Rattle.issue_schedule.specs.IssueTerms.{IsIssue}
use Rattle.issue_schedule.specs.Needs.{needs_of}
use Rattle.issue_schedule.specs.declared.issue.Issue.{Issue}
use Rattle.rate_table.specs.Table.{IsRateFile}
use Rattle.rate_table.specs.declared.table.RateFile.{RateFile}
use Rattle.market_notes.specs.NoteTerms.{IsNoteFile}
use Rattle.market_notes.specs.declared.note.NoteFile.{NoteFile}
use Rattle.offer_book.specs.Book.{BookContents, IsBook}
use Rattle.offer_book.specs.MarketLines.{AreLinesOfNotes, IsFirstLateNote, note_lines_of}
use Rattle.offer_book.specs.Offers.{AreLinesOf, IsFirstFaulty, slgs_lines_of}
use Rattle.offer_book.specs.declared.line.Line.{Line}
use Rattle.offer_book.specs.declared.line.LineKind.TheVariants.{Cash}
use Rattle.offer_book.specs.declared.payment_days.PaymentDays.{PaymentDays}

-- opening cash, of which every amount up to the most is permitted
abbrev pub cash_line : ℕ → Line
cash_line most = record { kind = Cash; step = 1; least = 1; most = most }

-- when what is bought is paid: the issue's settlement day and its closed days
abbrev pub issue_days : Issue → PaymentDays
issue_days issue = record { settle = issue.settle; closed = issue.closed }

-- the book of an issue and the lines on offer
abbrev pub book_of : Issue → List Line → BookContents
book_of issue offers = record {
  days = issue_days issue;
  needs = needs_of issue.settle issue.call issue.direct issue.bonds;
  lines = cash_line issue.cash.0 ∷ offers;
}

-- how many lines the files offer, opening cash aside
abbrev pub lines_on_offer : RateFile → NoteFile → ℕ
lines_on_offer rates notes = length rates.offers + length notes.notes

-- more than 512 lines are refused with the price file as a whole (this project's own)
abbrev pub too_many_lines : Refusal
too_many_lines = refusal_of Prices 0 TooManyLines

-- the files offer at most so many lines, opening cash aside; or the refusal
abbrev pub within_most_lines : ℕ → Result (Unit {0}) Refusal
within_most_lines count = if nat_lt MOST_LINES count then Err too_many_lines else Ok tt

-- the book of three files: opening cash, the offers in the order of their rows, and the notes in the order of theirs; or
-- the refusal of the first faulty offer, or else of the first note that opens too late, or else of too many lines
unfoldable pub book_of_files : Issue → RateFile → NoteFile → Result BookContents Refusal
book_of_files issue rates notes = do
  offers ← slgs_lines_of (issue_days issue) rates
  market ← note_lines_of (issue_days issue) notes
  _ ← within_most_lines (lines_on_offer rates notes)
  Ok (book_of issue (offers ++ market))

-- a book is that of its files: it has the settlement day, the closed days and the needs of the issue, and its lines are opening
-- cash, then a line for each offer, with every rule of term, rate and denomination, and then a line for each note
pub record IsBookOf (issue : Issue) (rates : RateFile) (notes : NoteFile) (book : BookContents) : Type 0 where
  pub days : book.days ≡ issue_days issue
  pub needs : book.needs ≡ needs_of issue.settle issue.call issue.direct issue.bonds
  pub offers : List Line
  pub market : List Line
  pub lines : book.lines ≡ cash_line issue.cash.0 ∷ (offers ++ market)
  pub of_offers : AreLinesOf (issue_days issue) rates offers
  pub of_notes : AreLinesOfNotes (issue_days issue) notes market

-- files that were read make a book of just their rows, which keeps every limit
abbrev pub BooksAreOfTheirFiles : Type 0
BooksAreOfTheirFiles =
    (issue : Issue) (rates : RateFile) (notes : NoteFile) (book : BookContents) → IsIssue issue → IsRateFile rates
    → IsNoteFile issue.settle notes → book_of_files issue rates notes ≡ Ok book → IsBookOf issue rates notes book × IsBook book

-- a note that opens too late: all offers keep the rules
pub record IsLateNote (issue : Issue) (rates : RateFile) (notes : NoteFile) (refusal : Refusal) : Type 0 where
  pub lines : List Line
  pub sold : AreLinesOf (issue_days issue) rates lines
  pub late : IsFirstLateNote (issue_days issue) notes refusal

-- too many lines: all offers keep the rules, all notes open in time, and there are more than 512 offers and notes
pub record IsTooMany (issue : Issue) (rates : RateFile) (notes : NoteFile) (refusal : Refusal) : Type 0 where
  pub name : refusal ≡ too_many_lines
  pub lines : List Line
  pub sold : AreLinesOf (issue_days issue) rates lines
  pub market : List Line
  pub of_notes : AreLinesOfNotes (issue_days issue) notes market
  pub over : MOST_LINES < lines_on_offer rates notes

-- what files are refused for
abbrev pub IsBookRefusal : Issue → RateFile → NoteFile → Refusal → Type 0
IsBookRefusal issue rates notes refusal =
    IsFirstFaulty (issue_days issue) rates refusal ⊎ (IsLateNote issue rates notes refusal ⊎ IsTooMany issue rates notes refusal)

-- they are refused for the first faulty offer, or else for the first note that opens too late, or else for too many lines
abbrev pub BooksAreRefusedInOrder : Type 0
BooksAreRefusedInOrder =
    (issue : Issue) (rates : RateFile) (notes : NoteFile) (refusal : Refusal) → IsIssue issue → IsRateFile rates
    → IsNoteFile issue.settle notes → book_of_files issue rates notes ≡ Err refusal → IsBookRefusal issue rates notes refusal
