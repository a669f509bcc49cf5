-- The price file that the rows of PRICES say. The rows are this project's own.
use Rattle.std.specs.Prelude.{◌≡◌, ◌↔◌, ℤ, ◌≤◌, true, List, [], ◌∷◌, length, Some, None, Ok, codes}
use Rattle.std.specs.List.{AllZip}
use Rattle.escrow_units.specs.Denomination.{cap_of}
use Rattle.escrow_units.specs.Flows.{index360_of}
use Rattle.escrow_units.specs.NumberText.{rate_of}
use Rattle.escrow_units.specs.PriceText.{price_of}
use Rattle.escrow_units.specs.declared.security.Terms.{Terms}
use Rattle.row_fields.specs.RowForm.{Row, field_of, is_word}
use Rattle.market_notes.specs.PriceForm.{note_file_of}
use Rattle.market_notes.specs.declared.note.Note.{Note}
use Rattle.market_notes.specs.declared.note.NoteFile.{NoteFile}
use Rattle.certificate_answers.specs.SaidRows.{SaysLater, SaysTerms}

-- `note,MATURITY,COUPON,PRICE,CAP`: a note on offer, which matures after settlement, also by the 30E/360 index
abbrev pub SaysNote : ℤ → Terms → Row → Note → Type 0
SaysNote settle terms row note =
    (is_word (codes "note") (field_of row 0) ≡ true) × (length row ≡ 5) × (note.settle ≡ settle)
    × SaysLater settle (field_of row 1) note.maturity × (1 ≤ index360_of settle note.maturity)
    × (rate_of (field_of row 2) ≡ Ok note.coupon) × (price_of (field_of row 3) ≡ Ok note.price) × (cap_of terms (field_of row 4) ≡ Ok note.cap)

-- row 1 is the denominations, and each other row says a note, in order; without rows nothing is on offer
abbrev pub IsNoteFileOf : ℤ → List Row → NoteFile → Type 0
IsNoteFileOf settle [] file = file ≡ record { terms = None; notes = [] }
IsNoteFileOf settle (first ∷ rows) file =
    (terms : Terms) × SaysTerms first terms × (file.terms ≡ Some terms) × AllZip (SaysNote settle terms) rows file.notes

-- the reader gives just this file
abbrev pub NoteFilesAreSaid : Type 0
NoteFilesAreSaid = (settle : ℤ) (rows : List Row) (file : NoteFile) → (note_file_of settle rows ≡ Ok file) ↔ IsNoteFileOf settle rows file
