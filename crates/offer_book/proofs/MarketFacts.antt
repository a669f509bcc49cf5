-- The lines of a price file's notes, and the refusal of the first that opens too late.
use Rattle.std.proofs.Common.{◌≡◌, ◌∙◌, ℕ, suc, ◌+◌, ◌<◌, ◌≤◌, refl, sym, subst, ap, arith, length, drop, get_or, append-nil, drop-cons, List, [], ◌∷◌, ◌++◌, ℤ, inl, inr, Option, None, Some, Result, Ok, Err}
use Rattle.std.specs.Prelude.{All, IsSomeAnd}
use Rattle.std.specs.List.{AllZip}
use Rattle.std.proofs.Math.ListN.{drop_of_length-le}
use Rattle.std.proofs.lemmas.Int.{ints}
use Rattle.std.proofs.lemmas.List.Elements.{All-nil, All-cons, All-head, All-tail, All-weaker}
use Rattle.escrow_desk.specs.declared.refusal.CaseError.{CaseError}
use Rattle.escrow_desk.specs.declared.refusal.CaseError.TheVariants.{Refused, NoMemory}
use Rattle.escrow_desk.specs.declared.refusal.FileKind.TheVariants.{Prices}
use Rattle.escrow_desk.specs.declared.refusal.Refusal.{Refusal}
use Rattle.escrow_desk.specs.declared.refusal.RefusalKind.TheVariants.{ClosedPastEnd}
use Rattle.escrow_units.specs.Denomination.{AreTerms}
use Rattle.escrow_units.specs.OpenDays.{IsBy2190}
use Rattle.escrow_units.specs.declared.security.Terms.{Terms}
use Rattle.row_fields.specs.RowForm.{◌>>=◌, Answers, answer_of_row, refusal_of}
use Rattle.market_notes.specs.NoteTerms.{IsNote, IsNoteFile, IsOffered}
use Rattle.market_notes.specs.declared.note.Note.{Note}
use Rattle.market_notes.specs.declared.note.NoteFile.{NoteFile}
use Rattle.offer_book.specs.Book.{IsSecurityLine, OpensInTime}
use Rattle.offer_book.specs.Denominations.{line_of}
use Rattle.offer_book.specs.MarketLines.{AreLinesOfNotes, IsFirstLateNote, IsLineOfNote, note_line, note_lines_by, note_lines_from, note_lines_of}
use Rattle.offer_book.specs.declared.line.Line.{Line}
use Rattle.offer_book.specs.declared.line.LineKind.TheVariants.{Market}
use Rattle.offer_book.specs.declared.payment_days.PaymentDays.{PaymentDays}
use Rattle.offer_book.proofs.OfferFacts.{bound-err, bound-ok, bound-push, denominated, ending-err, ending-ok, maturity-by, security-line, zipped-length}

-- the line of a note, or its refusal, which names its row
abbrev pub note_answer : PaymentDays → Terms → ℕ → Note → Result Line Refusal
note_answer days terms row note = answer_of_row Prices row (note_line days terms note)

-- lines of notes keep the limits of a book's lines
pub record AreNoteLines (days : PaymentDays) (file : NoteFile) (notes : List Note) (lines : List Line) : Type 0 where
  pub rules : AllZip (IsLineOfNote days file) notes lines
  pub securities : All (IsSecurityLine days) lines

lines-sound : (days : PaymentDays) (file : NoteFile) (terms : Terms) (row : ℕ) (notes : List Note) (lines : List Line) → file.terms ≡ Some terms → AreTerms terms
    → All (IsOffered days.settle terms) notes → note_lines_from days terms row notes ≡ Ok lines → AreNoteLines days file notes lines
lines-sound days file terms row [] lines stated good are e =
    let none : lines ≡ [] = cc in
    rw none (record { rules = tt; securities = All-nil (IsSecurityLine days) })
lines-sound days file terms row (note ∷ notes) lines stated good are e =
    let one = bound-ok (note_answer days terms row note) (λ line. note_lines_from days terms (row + 1) notes >>= (λ lines. Ok (line ∷ lines))) lines e in
    let more = bound-ok (note_lines_from days terms (row + 1) notes) (λ lines. Ok (one.first ∷ lines)) lines one.rest in
    let ends = ending-ok days note.maturity Prices row (line_of terms (Market note) note.cap) one.first one.is in
    let offered = All-head (IsOffered days.settle terms) note notes are in
    let rest = lines-sound days file terms (row + 1) notes more.first stated good (All-tail (IsOffered days.settle terms) note notes are) more.is in
    let own : IsLineOfNote days file note one.first =
    rw ends.is (record { bought = refl; in_time = ends.in_time; terms = terms; stated = stated; denominated = denominated terms (Market note) note.cap good }) in
    let line : IsSecurityLine days one.first =
    rw ends.is (security-line days terms (Market note) note.cap good offered.least offered.most (offered.settle, offered.note) ends.in_time) in
    let all : lines ≡ one.first ∷ more.first = cc (more.rest) in
    rw all (record {
      rules = (own, rest.rules);
      securities = All-cons (IsSecurityLine days) one.first more.first line rest.securities;
    })

offered-by : (settle : ℤ) (terms : Option Terms) (note : Note) (t : Terms) → terms ≡ Some t → IsSomeAnd terms (λ terms. IsOffered settle terms note) → IsOffered settle t note
offered-by settle terms note t e is = rw e at is

-- the notes of a file with terms are offered by them
pub notes-offered : (settle : ℤ) (file : NoteFile) (terms : Terms) → IsNoteFile settle file → file.terms ≡ Some terms → All (IsOffered settle terms) file.notes
notes-offered settle file terms is stated =
    All-weaker _ (IsOffered settle terms) (λ note good. offered-by settle file.terms note terms stated good) file.notes is.notes

-- the note at a place
pub note-offered : (settle : ℤ) (file : NoteFile) (terms : Terms) (at : ℕ) (note : Note) → IsNoteFile settle file → file.terms ≡ Some terms → at < length file.notes
    → note ≡ get_or file.notes at note → IsOffered settle terms note
note-offered settle file terms at note is stated short e =
    subst (IsOffered settle terms) (sym e) (notes-offered settle file terms is stated at note short)

-- a file without terms has no notes
none-sound : (days : PaymentDays) (file : NoteFile) (notes : List Note) → All (λ note. IsSomeAnd {T = Terms} None (λ terms. IsOffered days.settle terms note)) notes
    → AreNoteLines days file notes []
none-sound days file [] are = record { rules = tt; securities = All-nil (IsSecurityLine days) }
none-sound days file (note ∷ notes) are = absurd (All-head (λ note. IsSomeAnd {T = Terms} None (λ terms. IsOffered days.settle terms note)) note notes are)

file-sound : (days : PaymentDays) (file : NoteFile) (terms : Option Terms) (lines : List Line) → IsNoteFile days.settle file → file.terms ≡ terms
    → note_lines_by days terms file.notes ≡ Ok lines → AreNoteLines days file file.notes lines
file-sound days file None lines is stated e =
    let none : lines ≡ [] = cc in
    rw none (none-sound days file file.notes (rw stated at is.notes))
file-sound days file (Some terms) lines is stated e =
    lines-sound days file terms 2 file.notes lines stated (rw stated at is.terms) (notes-offered days.settle file terms is stated) e

pub notes-keep_rules : (days : PaymentDays) (file : NoteFile) (lines : List Line) → IsNoteFile days.settle file → note_lines_of days file ≡ Ok lines
    → AreLinesOfNotes days file lines × All (IsSecurityLine days) lines
unfolding note_lines_of
notes-keep_rules days file lines is e = let sound = file-sound days file file.terms lines is refl e in (sound.rules, sound.securities)

-- each note has one line
pub notes-count : (days : PaymentDays) (file : NoteFile) (lines : List Line) → AreLinesOfNotes days file lines → length lines ≡ length file.notes
notes-count days file lines sold = zipped-length (IsLineOfNote days file) file.notes lines sold

-- the open day of a note's maturity can be asked
pub note-by : (note : Note) → IsNote note → IsBy2190 note.maturity
note-by note is = maturity-by note.settle note.maturity is.settle (omega (arith, ints, is.after)) is.term

-- the first of notes that opens too late
record IsLateAt (days : PaymentDays) (row : ℕ) (notes : List Note) (refusal : Refusal) : Type 0 where
  before : List Note
  note : Note
  after : List Note
  place : notes ≡ before ++ note ∷ after
  in_time : All (λ earlier. OpensInTime days earlier.maturity) before
  late : ¬ OpensInTime days note.maturity
  says : refusal ≡ refusal_of Prices (length before + row) ClosedPastEnd

lines-late : (days : PaymentDays) (terms : Terms) (row : ℕ) (notes : List Note) (refusal : Refusal) → note_lines_from days terms row notes ≡ Err refusal
    → IsLateAt days row notes refusal
lines-late days terms row [] refusal e = absurd (cc)
lines-late days terms row (note ∷ notes) refusal e =
    elim (bound-err (note_answer days terms row note) (λ line. note_lines_from days terms (row + 1) notes >>= (λ lines. Ok (line ∷ lines))) refusal e) [
      | inl here ↦
          let ends = ending-err days note.maturity Prices row (line_of terms (Market note) note.cap) refusal here in
          let first : row ≡ length {A = Note} [] + row = omega arith in
          record {
            before = [];
            note = note;
            after = notes;
            place = refl;
            in_time = All-nil (λ earlier. OpensInTime days earlier.maturity);
            late = ends.late;
            says = ends.says ∙ ap (λ number. refusal_of Prices number ClosedPastEnd) first;
          }
      | inr next ↦ elim (bound-err (note_lines_from days terms (row + 1) notes) (λ lines. Ok (next.first ∷ lines)) refusal next.rest) [
        | inl later ↦
            let at = lines-late days terms (row + 1) notes refusal later in
            let ends = ending-ok days note.maturity Prices row (line_of terms (Market note) note.cap) next.first next.is in
            let same : length at.before + (row + 1) ≡ suc (length at.before) + row = omega arith in
            record {
              before = note ∷ at.before;
              note = at.note;
              after = at.after;
              place = ap (λ rest. note ∷ rest) at.place;
              in_time = All-cons (λ earlier. OpensInTime days earlier.maturity) note at.before ends.in_time at.in_time;
              late = at.late;
              says = at.says ∙ ap (λ number. refusal_of Prices number ClosedPastEnd) same;
            }
        | inr never ↦ absurd (cc (never.rest))
      ]
    ]

file-late : (days : PaymentDays) (file : NoteFile) (terms : Option Terms) (refusal : Refusal) → note_lines_by days terms file.notes ≡ Err refusal
    → IsFirstLateNote days file refusal
file-late days file None refusal e = absurd (cc)
file-late days file (Some terms) refusal e =
    let at = lines-late days terms 2 file.notes refusal e in
    record {
      before = at.before;
      note = at.note;
      after = at.after;
      place = at.place;
      in_time = at.in_time;
      late = at.late;
      says = at.says;
    }

-- a file is refused for its first note that opens too late
pub refusals-name_first_late : (days : PaymentDays) (file : NoteFile) (refusal : Refusal) → note_lines_of days file ≡ Err refusal → IsFirstLateNote days file refusal
unfolding note_lines_of
refusals-name_first_late days file refusal e = file-late days file file.terms refusal e

-- the lines of the first notes, and then those of the rest from a place on
abbrev pub IsSoldUpTo : PaymentDays → Terms → List Note → ℕ → List Line → Type 0
IsSoldUpTo days terms notes at lines =
    note_lines_from days terms 2 notes ≡ (note_lines_from days terms (at + 2) (drop at notes) >>= (λ more. Ok (lines ++ more)))

pub rest-at : (notes : List Note) (at : ℕ) (note : Note) → at < length notes → note ≡ get_or notes at note → drop at notes ≡ note ∷ drop (at + 1) notes
rest-at notes at note short is =
    let e : drop at notes ≡ get_or notes at note ∷ drop (suc at) notes = drop-cons notes at note short in
    let next : suc at ≡ at + 1 = omega arith in
    rw (e, next, ← is) refl

refused-at : (days : PaymentDays) (terms : Terms) (notes : List Note) (at : ℕ) (lines : List Line) (note : Note) (refusal : Refusal)
    → at < length notes → note ≡ get_or notes at note → IsSoldUpTo days terms notes at lines → note_answer days terms (at + 2) note ≡ Err refusal
    → note_lines_from days terms 2 notes ≡ Err refusal
refused-at days terms notes at lines note refusal short is sold e =
    rw (rest-at notes at note short is, e) at sold

-- one note more
pub sold_more : (days : PaymentDays) (terms : Terms) (notes : List Note) (at : ℕ) (lines grown : List Line) (note : Note) (line : Line)
    → at < length notes → note ≡ get_or notes at note → IsSoldUpTo days terms notes at lines → note_answer days terms (at + 2) note ≡ Ok line
    → grown ≡ lines ++ line ∷ [] → IsSoldUpTo days terms notes (at + 1) grown
sold_more days terms notes at lines grown note line short is sold e more =
    let next : at + 2 + 1 ≡ at + 1 + 2 = omega arith in
    let one = rw (rest-at notes at note short is, e, next) at sold in
    rw more (one ∙ bound-push (note_lines_from days terms (at + 1 + 2) (drop (at + 1) notes)) lines line)

pub all-sold : (days : PaymentDays) (terms : Terms) (notes : List Note) (at : ℕ) (lines : List Line) → length notes ≤ at
    → IsSoldUpTo days terms notes at lines → note_lines_from days terms 2 notes ≡ Ok lines
all-sold days terms notes at lines long sold =
    rw (drop_of_length-le notes long, append-nil lines) at sold

-- the lines of a file with terms are those of its notes
pub file-lines : (days : PaymentDays) (file : NoteFile) (terms : Terms) (answer : Result (List Line) Refusal) → file.terms ≡ Some terms
    → note_lines_from days terms 2 file.notes ≡ answer → note_lines_of days file ≡ answer
unfolding note_lines_of
file-lines days file terms answer stated e = rw stated e

-- and a file without terms has none
pub no-lines : (days : PaymentDays) (file : NoteFile) → file.terms ≡ None → note_lines_of days file ≡ Ok []
unfolding note_lines_of
no-lines days file stated = rw stated refl

-- where a note is refused, or memory ran out at it, so it is for the file
pub refused-answers : (days : PaymentDays) (file : NoteFile) (terms : Terms) (at : ℕ) (lines : List Line) (note : Note) (error : CaseError) → file.terms ≡ Some terms
    → at < length file.notes → note ≡ get_or file.notes at note → IsSoldUpTo days terms file.notes at lines
    → Answers {T = Line} (Err error) (note_answer days terms (at + 2) note) → Answers {T = List Line} (Err error) (note_lines_of days file)
refused-answers days file terms at lines note (Refused refusal) stated short is sold e =
    file-lines days file terms (Err refusal) stated (refused-at days terms file.notes at lines note refusal short is sold e)
refused-answers days file terms at lines note NoMemory stated short is sold e = tt
