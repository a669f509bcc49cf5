-- The rate file that the rows of RATES say. The rows are this project's own.
use Rattle.std.specs.Prelude.{◌≡◌, ◌↔◌, ℕ, ℤ, ◌%◌, ◌≤ℤ◌, List, [], ◌∷◌, length, Option, Some, None, Ok, codes}
use Rattle.escrow_units.specs.DateText.{day_of}
use Rattle.escrow_units.specs.Denomination.{cap_of}
use Rattle.escrow_units.specs.NumberText.{rate_of}
use Rattle.escrow_units.specs.declared.amount.Rate.{Rate}
use Rattle.escrow_units.specs.declared.security.AskedRate.{AskedRate}
use Rattle.escrow_units.specs.declared.security.AskedRate.TheVariants.{At, Max}
use Rattle.escrow_units.specs.declared.security.Terms.{Terms}
use Rattle.row_fields.specs.RowForm.{Row, field_of}
use Rattle.rate_table.specs.RateForm.{rate_file_of}
use Rattle.rate_table.specs.Table.{AreApart}
use Rattle.rate_table.specs.declared.table.Offer.{Offer}
use Rattle.rate_table.specs.declared.table.RateFile.{RateFile}
use Rattle.rate_table.specs.declared.table.RateRange.{RateRange}
use Rattle.certificate_answers.specs.SaidRows.{BeginWith, Say, SaysTerms, numbered}

-- a field says a rate in whole hundredths of a percentage point
abbrev pub SaysHundredths : List ℕ → Rate → Type 0
SaysHundredths field rate = (rate_of field ≡ Ok rate) × (rate.0 % 10 ≡ 0)

-- it says the rate that is asked for: the word `max`, or such a rate
abbrev pub SaysAsked : List ℕ → AskedRate → Type 0
SaysAsked field Max = field ≡ codes "max"
SaysAsked field (At rate) = SaysHundredths field rate

-- it says a date, or is empty
abbrev pub SaysDate : List ℕ → Option ℤ → Type 0
SaysDate field None = field ≡ []
SaysDate field (Some day) = day_of field ≡ Some day

-- `rate,FROM,TO,MAXIMUM`: maturities from FROM to TO, both included, have this greatest rate
abbrev pub SaysRange : Row → RateRange → Type 0
SaysRange row range =
    (length row ≡ 4) × (day_of (field_of row 1) ≡ Some range.from) × (day_of (field_of row 2) ≡ Some range.to) × (range.from ≤ℤ range.to)
    × SaysHundredths (field_of row 3) range.most

-- `offer,MATURITY,RATE,FIRST,CAP`: a security on offer, with the number of its row
abbrev pub SaysOffer : Terms → ℕ → Row → Offer → Type 0
SaysOffer terms number row offer =
    (length row ≡ 5) × (number ≡ offer.row) × (day_of (field_of row 1) ≡ Some offer.maturity) × SaysAsked (field_of row 2) offer.rate
    × SaysDate (field_of row 3) offer.first × (cap_of terms (field_of row 4) ≡ Ok offer.cap)

-- what the rows after the first say, with their numbers: the ranges and the offers are those of their rows, in order, and no two ranges
-- have a day in common
pub record AreRateRows (terms : Terms) (rows : List (ℕ × Row)) (file : RateFile) : Type 0 where
  pub stated : file.terms ≡ Some terms
  pub known : BeginWith (codes "rate" ∷ codes "offer" ∷ []) rows
  pub ranges : Say (codes "rate") (λ _. SaysRange) rows file.ranges
  pub apart : AreApart file.ranges
  pub offers : Say (codes "offer") (SaysOffer terms) rows file.offers

-- row 1 is the denominations; without rows nothing is on offer
abbrev pub IsRateFileOf : List Row → RateFile → Type 0
IsRateFileOf [] file = file ≡ record { terms = None; ranges = []; offers = [] }
IsRateFileOf (first ∷ rows) file = (terms : Terms) × SaysTerms first terms × AreRateRows terms (numbered rows) file

-- the reader gives just this file
abbrev pub RateFilesAreSaid : Type 0
RateFilesAreSaid = (rows : List Row) (file : RateFile) → (rate_file_of rows ≡ Ok file) ↔ IsRateFileOf rows file
