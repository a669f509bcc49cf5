-- What each row of a price file that is read keeps.
use Rattle.std.specs.Prelude.{ℤ}
use Rattle.escrow_units.specs.Denomination.{AreTerms}
use Rattle.escrow_units.specs.declared.security.Terms.{Terms}
use Rattle.market_notes.specs.NoteTerms.{IsOffered}
use Rattle.market_notes.specs.declared.row.PriceRow.{PriceRow}
use Rattle.market_notes.specs.declared.row.PriceRow.TheVariants as price_row

-- what a row of a file of this settlement and these terms keeps
abbrev pub IsPriceRow : ℤ → Terms → PriceRow → Type 0
IsPriceRow settle terms (price_row.Terms read) = AreTerms read
IsPriceRow settle terms (price_row.Note note) = IsOffered settle terms note
