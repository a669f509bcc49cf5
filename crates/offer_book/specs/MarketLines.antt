-- The lines of the notes of a price file, or the refusal of its first note that is paid too late.
use Rattle.std.specs.Prelude.{◌≡◌, ℕ, ◌+◌, List, [], ◌∷◌, ◌++◌, length, All, Option, Some, None, Result, Ok}
use Rattle.std.specs.List.{AllZip}
use Rattle.escrow_desk.specs.declared.refusal.FileKind.TheVariants.{Prices}
use Rattle.escrow_desk.specs.declared.refusal.Refusal.{Refusal}
use Rattle.escrow_desk.specs.declared.refusal.RefusalKind.{RefusalKind}
use Rattle.escrow_desk.specs.declared.refusal.RefusalKind.TheVariants.{ClosedPastEnd}
use Rattle.escrow_units.specs.declared.security.Terms.{Terms}
use Rattle.row_fields.specs.RowForm.{◌>>=◌, answer_of_row, refusal_of}
use Rattle.market_notes.specs.declared.note.Note.{Note}
use Rattle.market_notes.specs.declared.note.NoteFile.{NoteFile}
use Rattle.offer_book.specs.Book.{OpensInTime}
use Rattle.offer_book.specs.Denominations.{IsDenominated, line_of}
use Rattle.offer_book.specs.Offers.{ending_in_time}
use Rattle.offer_book.specs.declared.line.Line.{Line}
use Rattle.offer_book.specs.declared.line.LineKind.TheVariants.{Market}
use Rattle.offer_book.specs.declared.payment_days.PaymentDays.{PaymentDays}

-- the line of a note, by the denominations of its file, unless its maturity opens more than 40 years after settlement
abbrev pub note_line : PaymentDays → Terms → Note → Result Line RefusalKind
note_line days terms note = ending_in_time days note.maturity (line_of terms (Market note) note.cap)

-- the lines of notes in their order, or the first refusal: each note has a row of its own, and the first of them this one
abbrev pub note_lines_from : PaymentDays → Terms → ℕ → List Note → Result (List Line) Refusal
note_lines_from days terms row [] = Ok []
note_lines_from days terms row (note ∷ notes) = do
  line ← answer_of_row Prices row (note_line days terms note)
  lines ← note_lines_from days terms (row + 1) notes
  Ok (line ∷ lines)

-- a file without terms offers nothing; its terms are row 1, and every further row is a note
abbrev pub note_lines_by : PaymentDays → Option Terms → List Note → Result (List Line) Refusal
note_lines_by days None notes = Ok []
note_lines_by days (Some terms) notes = note_lines_from days terms 2 notes

-- the lines of a price file's notes, in the order of its rows, or the refusal of the first note that opens too late
unfoldable pub note_lines_of : PaymentDays → NoteFile → Result (List Line) Refusal
note_lines_of days file = note_lines_by days file.terms file.notes

-- a line is that of a note of a file: the note is what is bought, by the file's denominations, and its maturity opens by 40 years
-- after settlement
pub record IsLineOfNote (days : PaymentDays) (file : NoteFile) (note : Note) (line : Line) : Type 0 where
  pub bought : line.kind ≡ Market note
  pub in_time : OpensInTime days note.maturity
  pub terms : Terms
  pub stated : file.terms ≡ Some terms
  pub denominated : IsDenominated terms note.cap line

-- each note of a file has its line, in the order of the rows
abbrev pub AreLinesOfNotes : PaymentDays → NoteFile → List Line → Type 0
AreLinesOfNotes days file lines = AllZip (IsLineOfNote days file) file.notes lines

-- a refusal is that of the first note whose maturity opens too late, by its row: row 1 is that of the terms
pub record IsFirstLateNote (days : PaymentDays) (file : NoteFile) (refusal : Refusal) : Type 0 where
  pub before : List Note
  pub note : Note
  pub after : List Note
  pub place : file.notes ≡ before ++ note ∷ after
  pub in_time : All (λ earlier. OpensInTime days earlier.maturity) before
  pub late : ¬ OpensInTime days note.maturity
  pub says : refusal ≡ refusal_of Prices (length before + 2) ClosedPastEnd
