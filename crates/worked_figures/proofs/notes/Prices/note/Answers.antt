use Rattle.std.proofs.Common.{rules, ◌≡◌, ℕ, ◌-◌, ◌<◌, List, length, get_or, sym, subst, ℤ, Option, None, Some}
use Rattle.std.specs.Prelude.{IsSomeAnd}
use Rattle.escrow_units.specs.declared.security.Terms.{Terms}
use Rattle.market_notes.specs.NoteTerms.{IsNote, IsNoteFile, IsOffered}
use Rattle.market_notes.specs.declared.note.Note.{Note}
use Rattle.market_notes.specs.declared.note.NoteFile.{NoteFile}
use Rattle.worked_figures.proofs.notes.Prices.note.Goals as goal

-- what is offered is a note
offered : (settle : ℤ) (terms : Option Terms) (note : Note) → IsSomeAnd terms (λ terms. IsOffered settle terms note) → IsNote note
offered settle None note is = absurd is
offered settle (Some terms) note is = is.note

-- the note at a place of a file
at_place : (settle : ℤ) (file : NoteFile) (notes : List Note) (place : ℕ) (note : Note) → IsNoteFile settle file → notes ≡ file.notes → place < length notes → note ≡ get_or notes place note → IsNote note
at_place settle file notes place note is same short here =
    subst IsNote (sym (rw same at here)) (offered settle file.terms (get_or file.notes place note) (is.notes place note (rw same at short)))

pub returns : goal.returns
returns c =
    let short : c.in_ok-place.place - 1 < length c.as_slice-notes.result.now = search rules in
    at_place c.self.inside.settle c.self.inside.file c.as_slice-notes.result.now (c.in_ok-place.place - 1) c.index-notes-place.result c.self.invariant (search rules) short c.index-notes-place.is
