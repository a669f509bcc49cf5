-- What marketable notes and price files keep. The limits are this project's own.
use Rattle.std.specs.Prelude.{◌≡◌, ◌≤◌, ℤ, ◌≤ℤ◌, ◌<ℤ◌, List, All, IfSome, IsSomeAnd}
use Rattle.escrow_units.specs.Calendar.{years_after_of}
use Rattle.escrow_units.specs.Denomination.{AreTerms}
use Rattle.escrow_units.specs.Flows.{index360_of}
use Rattle.escrow_units.specs.SlgsTerms.{IsSettlement}
use Rattle.escrow_units.specs.declared.limits.TheConstants.{GREATEST_PRICE, GREATEST_RATE, LEAST_PRICE}
use Rattle.escrow_units.specs.declared.security.Terms.{Terms}
use Rattle.market_notes.specs.declared.note.Note.{Note}
use Rattle.market_notes.specs.declared.note.NoteFile.{NoteFile}

-- a note that matures after settlement, at an index of at least 1 and at most 40 years later, with a coupon of at most 30
-- percent and a price from 10 to 300 percent of par
pub record IsNote (note : Note) : Type 0 where
  pub settle : IsSettlement note.settle
  pub after : note.settle <ℤ note.maturity
  pub index : 1 ≤ index360_of note.settle note.maturity
  pub term : note.maturity ≤ℤ years_after_of note.settle 40
  pub coupon : note.coupon.0 ≤ GREATEST_RATE
  pub least_price : LEAST_PRICE ≤ note.price.0
  pub most_price : note.price.0 ≤ GREATEST_PRICE

-- a note for one settlement, with a cap from the minimum to 1,000,000,000 dollars
pub record IsOffered (day : ℤ) (terms : Terms) (offer : Note) : Type 0 where
  pub note : IsNote offer
  pub settle : offer.settle ≡ day
  pub least : terms.minimum ≤ offer.cap
  pub most : offer.cap ≤ 1_000_000_000

-- what has been read of a price file so far: its settlement and terms, and the notes up to some row
pub record NotesRead : Type 0 where
  pub settle : ℤ
  pub terms : Terms
  pub notes : List Note

-- what each file that is read keeps; a file without terms has no notes
pub record IsNoteFile (settle : ℤ) (file : NoteFile) : Type 0 where
  pub terms : IfSome file.terms AreTerms
  pub notes : All (λ note. IsSomeAnd file.terms (λ terms. IsOffered settle terms note)) file.notes
