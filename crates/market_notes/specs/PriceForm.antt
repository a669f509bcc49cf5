-- The price file: its rows, and what they give or where they are refused. The rows are this project's own.
use Rattle.std.specs.Prelude.{ℕ, Bool, ◌||◌, ◌==◌, int_le, if◌then◌else◌, List, [], ◌∷◌, ◌++◌, Some, None, Result, Ok, Err, codes, ℤ}
use Rattle.escrow_desk.specs.declared.refusal.FileKind.TheVariants as file
use Rattle.escrow_desk.specs.declared.refusal.Refusal.{Refusal}
use Rattle.escrow_desk.specs.declared.refusal.RefusalKind.{RefusalKind}
use Rattle.escrow_desk.specs.declared.refusal.RefusalKind.TheVariants as kind
use Rattle.escrow_units.specs.Calendar.{years_after_of}
use Rattle.escrow_units.specs.NumberText.{rate_of}
use Rattle.escrow_units.specs.PriceText.{price_of}
use Rattle.escrow_units.specs.Denomination.{cap_of}
use Rattle.escrow_units.specs.declared.security.Terms.{Terms}
use Rattle.market_notes.specs.declared.row.PriceRow.{PriceRow}
use Rattle.market_notes.specs.declared.row.PriceRow.TheVariants as price_row
use Rattle.market_notes.specs.NoteTerms.{NotesRead}
use Rattle.market_notes.specs.declared.note.Note.{Note}
use Rattle.market_notes.specs.declared.note.NoteFile.{NoteFile}
use Rattle.escrow_units.specs.Flows.{index360_of}
pub use Rattle.row_fields.specs.RowForm.{Row, field_of, is_word, ◌>>=◌, or_refused, day_by_of, of_width, terms_row_of, first_terms_of, answer_of_row, with_rows}

-- whether a maturity is at or before settlement, or one of the index 0, which is the 31st where settlement is on the 30th
abbrev pub has_matured_of : ℤ → ℤ → Bool
has_matured_of settle maturity = int_le maturity settle || (index360_of settle maturity == 0)

-- a note, or the refusal where it has matured
abbrev pub unmatured : Note → Result Note RefusalKind
unmatured note = if has_matured_of note.settle note.maturity then Err kind.Matured else Ok note

-- `note,MATURITY,COUPON,PRICE,CAP`: a note on offer, which matures after settlement and at most 40 years after it
abbrev pub note_row_of : ℤ → Terms → Row → Result Note RefusalKind
note_row_of settle terms row = of_width 5 row (do
  maturity ← day_by_of (years_after_of settle 40) (field_of row 1)
  coupon ← or_refused (rate_of (field_of row 2))
  price ← or_refused (price_of (field_of row 3))
  cap ← or_refused (cap_of terms (field_of row 4))
  unmatured (record { settle = settle; maturity = maturity; coupon = coupon; price = price; cap = cap }))

-- what a row says, under the settlement and the denominations of the file
abbrev pub price_row_of : ℤ → Terms → Row → Result PriceRow RefusalKind
price_row_of settle terms row =
    if is_word (codes "terms") (field_of row 0) then (terms_row_of row >>= (λ read. Ok (price_row.Terms read))) else
    (if is_word (codes "note") (field_of row 0) then (note_row_of settle terms row >>= (λ note. Ok (price_row.Note note))) else
    Err kind.UnknownRow)

-- what was read, with one more note
abbrev pub with_note : NotesRead → Note → Result NotesRead RefusalKind
with_note before note = Ok (record before { notes = before.notes ++ note ∷ [] })

-- what was read, with what one more row says; `terms` stands once, in row 1
abbrev pub with_read_row : NotesRead → PriceRow → Result NotesRead RefusalKind
with_read_row before (price_row.Terms terms) = Err kind.Repeated
with_read_row before (price_row.Note note) = with_note before note

-- what was read, with one more row; or why the row is refused
abbrev pub with_row : NotesRead → Row → Result NotesRead RefusalKind
with_row before row = price_row_of before.settle before.terms row >>= with_read_row before

-- what was read, with the rows from this number on
abbrev pub with_price_rows : NotesRead → ℕ → List Row → Result NotesRead Refusal
with_price_rows before number rows = with_rows file.Prices (λ read _ row. with_row read row) before number rows

-- no notes yet
abbrev pub none_read : ℤ → Terms → NotesRead
none_read settle terms = record { settle = settle; terms = terms; notes = [] }

-- what was read, as the file
abbrev pub file_of : NotesRead → NoteFile
file_of read = record { terms = Some read.terms; notes = read.notes }

-- the price file of rows, which are numbered from 1, or its first refusal: no rows offer nothing
unfoldable pub note_file_of : ℤ → List Row → Result NoteFile Refusal
note_file_of settle [] = Ok (record { terms = None; notes = [] })
note_file_of settle (row ∷ rows) = do
  terms ← answer_of_row file.Prices 1 (first_terms_of row)
  read ← with_price_rows (none_read settle terms) 2 rows
  Ok (file_of read)
