-- The price file that the rows of PRICES say is the one that is read of them.
use Rattle.std.proofs.Common.{◌≡◌, ◌∙◌, append_assoc, ℕ, ◌+◌, ◌≤◌, refl, sym, ap, subst, arith, Bool, true, false, List, [], ◌∷◌, ◌++◌, ℤ, None, Result, Ok, Err}
use Rattle.std.specs.Prelude.{◌==◌, ◌||◌, nat_eq, int_le, codes}
use Rattle.std.specs.List.{AllZip}
use Rattle.std.proofs.lemmas.Bool.Decides.{nat_tests}
use Rattle.std.proofs.lemmas.List.{append-nil}
use Rattle.escrow_desk.specs.declared.refusal.FileKind.TheVariants as file
use Rattle.escrow_desk.specs.declared.refusal.Refusal.{Refusal}
use Rattle.escrow_desk.specs.declared.refusal.RefusalKind.{RefusalKind}
use Rattle.escrow_desk.specs.declared.refusal.RefusalKind.TheVariants as kind
use Rattle.escrow_units.specs.Calendar.{years_after_of}
use Rattle.escrow_units.specs.Denomination.{cap_of}
use Rattle.escrow_units.specs.Flows.{index360_of}
use Rattle.escrow_units.specs.NumberText.{rate_of}
use Rattle.escrow_units.specs.PriceText.{price_of}
use Rattle.escrow_units.specs.declared.security.Terms.{Terms}
use Rattle.row_fields.specs.RowForm.{Row, ◌>>=◌, answer_of_row, day_by_of, field_of, first_terms_of, is_word, or_refused, terms_row_of}
use Rattle.market_notes.specs.NoteTerms.{NotesRead}
use Rattle.market_notes.specs.PriceForm.{file_of, has_matured_of, none_read, note_file_of, note_row_of, price_row_of, with_price_rows, with_read_row, with_row}
use Rattle.market_notes.specs.declared.note.Note.{Note}
use Rattle.market_notes.specs.declared.note.NoteFile.{NoteFile}
use Rattle.certificate_answers.specs.SaidPrices.{IsNoteFileOf, NoteFilesAreSaid, SaysNote}
use Rattle.certificate_answers.proofs.SaidRowFacts.{bound-ok, by-word, day-is, kept-ok, later-says, made-bound, no-answer, none_after, ok-is, row-ok, says-terms, terms-says, test-not, width-is, width-ok, word-is}

-- ---- a note
or-none : (a b : Bool) → (a || b) ≡ false → (a ≡ false) × (b ≡ false)
or-none false b e = (refl, e)
or-none true b e = absurd (cc)

note-says : (settle : ℤ) (terms : Terms) (fields : Row) (note : Note) → note_row_of settle terms (codes "note" ∷ fields) ≡ Ok note → SaysNote settle terms (codes "note" ∷ fields) note
note-says settle terms fields note e =
    let row = codes "note" ∷ fields in
    let wide = width-ok 5 row _ note e in
    let maturity = bound-ok (day_by_of (years_after_of settle 40) (field_of row 1)) _ note wide.1 in
    let coupon = bound-ok (or_refused (rate_of (field_of row 2))) _ note maturity.rest in
    let price = bound-ok (or_refused (price_of (field_of row 3))) _ note coupon.rest in
    let cap = bound-ok (or_refused (cap_of terms (field_of row 4))) _ note price.rest in
    let made : Note = record { settle = settle; maturity = maturity.first; coupon = coupon.first; price = price.first; cap = cap.first } in
    let late = test-not (has_matured_of settle maturity.first) (Ok made) kind.Matured note cap.rest in
    let two = or-none (int_le maturity.first settle) (index360_of settle maturity.first == 0) late.0 in
    let index : 1 ≤ index360_of settle maturity.first = some (index360_of settle maturity.first) two.1 in
    subst (SaysNote settle terms row) (ok-is RefusalKind made note late.1) (
      refl,
      wide.0,
      refl,
      later-says settle (field_of row 1) maturity.first maturity.is two.0,
      index,
      kept-ok (rate_of (field_of row 2)) coupon.first coupon.is,
      kept-ok (price_of (field_of row 3)) price.first price.is,
      kept-ok (cap_of terms (field_of row 4)) cap.first cap.is,
    )
  where
    some : (n : ℕ) → nat_eq n 0 ≡ false → 1 ≤ n
    some n h = grind (arith, nat_tests)

says-note : (settle : ℤ) (terms : Terms) (row : Row) (note : Note) → SaysNote settle terms row note → note_row_of settle terms row ≡ Ok note
says-note settle terms row note says =
    let day = day-is (years_after_of settle 40) (field_of row 1) note.maturity says.3.0 says.3.1.by in
    let before : int_le note.maturity settle ≡ false = none_after note.maturity settle says.3.1.after in
    let index : nat_eq (index360_of settle note.maturity) 0 ≡ false = some (index360_of settle note.maturity) says.4 in
    width-is 5 row _ says.1 ∙ rw (day, says.5, says.6, says.7, before, index) (λ i. Ok (record note { settle = sym says.2 i }))
  where
    some : (n : ℕ) → 1 ≤ n → nat_eq n 0 ≡ false
    some n h = grind (arith, nat_tests)

-- ---- the rows
record Said (settle : ℤ) (terms : Terms) (rows : List Row) (before after : NotesRead) : Type 0 where
  more : List Note
  says : AllZip (SaysNote settle terms) rows more
  all : after ≡ record before { notes = before.notes ++ more }

-- of a row with this word
abbrev IsNote : NotesRead → Row → NotesRead → List ℕ → Type 0
IsNote before fields more word =
    with_row before (word ∷ fields) ≡ Ok more
    → (note : Note) × SaysNote before.settle before.terms (word ∷ fields) note × (record before { notes = before.notes ++ note ∷ [] } ≡ more)

row-says : (before : NotesRead) (w : List ℕ) (fields : Row) (more : NotesRead) → IsNote before fields more w
row-says before w fields more =
    by-word (codes "terms") w (IsNote before fields more)
    (λ e. absurd (let read = made-bound (terms_row_of (codes "terms" ∷ fields)) _ (with_read_row before) more e in cc (read.rest)))
    (λ wa. by-word (codes "note") w (IsNote before fields more)
    (λ e.
    let read = made-bound (note_row_of before.settle before.terms (codes "note" ∷ fields)) _ (with_read_row before) more e in
    (read.first, note-says before.settle before.terms fields read.first read.is, ok-is RefusalKind (record before { notes = before.notes ++ read.first ∷ [] }) more read.rest))
    (λ wb e.
    let unknown : price_row_of before.settle before.terms (w ∷ fields) ≡ Err kind.UnknownRow = rw (wa, wb) refl in
    absurd (no-answer (price_row_of before.settle before.terms (w ∷ fields)) kind.UnknownRow (with_read_row before) more unknown e)))

rows-say : (before : NotesRead) (number : ℕ) (rows : List Row) (after : NotesRead) → with_price_rows before number rows ≡ Ok after → Said before.settle before.terms rows before after
rows-say before number [] after e =
    let same = ok-is Refusal before after e in
    record { more = []; says = tt; all = sym same ∙ (λ i. record before { notes = sym (append-nil before.notes) i }) }
rows-say before number ([] ∷ rows) after e =
    let one = bound-ok (answer_of_row file.Prices number (with_row before [])) (λ more. with_price_rows more (number + 1) rows) after e in
    let read = row-ok file.Prices number (with_row before []) one.first one.is in
    absurd (cc (read))
rows-say before number ((w ∷ fields) ∷ rows) after e =
    let one = bound-ok (answer_of_row file.Prices number (with_row before (w ∷ fields))) (λ more. with_price_rows more (number + 1) rows) after e in
    let read = row-ok file.Prices number (with_row before (w ∷ fields)) one.first one.is in
    let own = row-says before w fields one.first read in
    subst (λ (m : NotesRead). Said m.settle m.terms rows m after → Said before.settle before.terms ((w ∷ fields) ∷ rows) before after) own.2
    (λ rest. record {
      more = own.0 ∷ rest.more;
      says = (own.1, rest.says);
      all = rest.all ∙ (λ i. record before { notes = append_assoc before.notes (own.0 ∷ []) rest.more i });
    })
    (rows-say one.first (number + 1) rows after one.rest)

says-row : (before : NotesRead) (row : Row) (note : Note) → SaysNote before.settle before.terms row note → with_row before row ≡ Ok (record before { notes = before.notes ++ note ∷ [] })
says-row before row note says =
    let other : is_word (codes "terms") (field_of row 0) ≡ false = by (is_word (codes "terms") (field_of row 0)) refl in
    let read = says-note before.settle before.terms row note says in
    rw (other, says.0, read) refl
  where
    by : (t : Bool) → is_word (codes "terms") (field_of row 0) ≡ t → is_word (codes "terms") (field_of row 0) ≡ false
    by true is = ap (is_word (codes "terms")) (word-is (codes "note") (field_of row 0) says.0)
    by false is = is

say-rows : (before : NotesRead) (number : ℕ) (rows : List Row) (more : List Note) → AllZip (SaysNote before.settle before.terms) rows more
    → with_price_rows before number rows ≡ Ok (record before { notes = before.notes ++ more })
say-rows before number [] [] says = λ i. Ok (record before { notes = sym (append-nil before.notes) i })
say-rows before number [] (note ∷ more) says = absurd says
say-rows before number (row ∷ rows) [] says = absurd says
say-rows before number (row ∷ rows) (note ∷ more) says =
    ap (λ (answer : Result NotesRead RefusalKind). answer_of_row file.Prices number answer >>= (λ own. with_price_rows own (number + 1) rows)) (says-row before row note says.0)
    ∙ (say-rows (record before { notes = before.notes ++ note ∷ [] }) (number + 1) rows more says.1
    ∙ (λ i. Ok (record before { notes = append_assoc before.notes (note ∷ []) more i })))

-- ---- the file
pub notes-said : (settle : ℤ) (rows : List Row) (notes : NoteFile) → note_file_of settle rows ≡ Ok notes → IsNoteFileOf settle rows notes
unfolding note_file_of
notes-said settle [] notes e = sym (ok-is Refusal (record { terms = None; notes = [] }) notes e)
notes-said settle (first ∷ rows) notes e =
    let terms = bound-ok (answer_of_row file.Prices 1 (first_terms_of first)) (λ terms. with_price_rows (none_read settle terms) 2 rows >>= (λ read. Ok (file_of read))) notes e in
    let read = bound-ok (with_price_rows (none_read settle terms.first) 2 rows) (λ read. Ok (file_of read)) notes terms.rest in
    let says = rows-say (none_read settle terms.first) 2 rows read.first read.is in
    let made : file_of (record { settle = settle; terms = terms.first; notes = says.more }) ≡ notes =
    ap file_of (sym says.all) ∙ ok-is Refusal (file_of read.first) notes read.rest in
    subst (λ (own : NoteFile). IsNoteFileOf settle (first ∷ rows) own) made
    (terms.first, terms-says first terms.first (row-ok file.Prices 1 (first_terms_of first) terms.first terms.is), refl, says.says)

pub said-notes : (settle : ℤ) (rows : List Row) (notes : NoteFile) → IsNoteFileOf settle rows notes → note_file_of settle rows ≡ Ok notes
unfolding note_file_of
said-notes settle [] notes says = ap (λ own. Ok own) (sym says)
said-notes settle (first ∷ rows) notes (terms, row, stated, says) =
    rw (says-terms first terms row, say-rows (none_read settle terms) 2 rows notes.notes says) (λ i. Ok (record notes { terms = sym stated i }))

-- the reader gives just the file that the rows say
pub note_files-said : NoteFilesAreSaid
note_files-said settle rows notes = (notes-said settle rows notes, said-notes settle rows notes)
