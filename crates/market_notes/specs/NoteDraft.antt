-- What has been read of a price file keeps, at any row.
use Rattle.std.specs.Prelude.{◌≡◌, ℤ, All}
use Rattle.escrow_units.specs.Calendar.{years_after_of}
use Rattle.escrow_units.specs.Denomination.{AreTerms}
use Rattle.escrow_units.specs.SlgsTerms.{IsSettlement}
use Rattle.market_notes.specs.NoteTerms.{IsOffered, NotesRead}

-- the latest maturity is 40 years after settlement, and each note keeps the file's terms
pub record IsDraft (last : ℤ) (read : NotesRead) : Type 0 where
  pub latest : last ≡ years_after_of read.settle 40
  pub settle : IsSettlement read.settle
  pub terms : AreTerms read.terms
  pub notes : All (IsOffered read.settle read.terms) read.notes
