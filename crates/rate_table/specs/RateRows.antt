-- What each row of a rate file that is read keeps.
use Rattle.escrow_units.specs.Denomination.{AreTerms}
use Rattle.escrow_units.specs.declared.security.Terms.{Terms}
use Rattle.rate_table.specs.declared.row.RateRow.{RateRow}
use Rattle.rate_table.specs.declared.row.RateRow.TheVariants as rate_row
use Rattle.rate_table.specs.Table.{IsOffer, IsRange}

-- what a row of a file of these terms keeps
abbrev pub IsRateRow : Terms → RateRow → Type 0
IsRateRow terms (rate_row.Terms read) = AreTerms read
IsRateRow terms (rate_row.Range range) = IsRange range
IsRateRow terms (rate_row.Offer offer) = IsOffer terms offer
