-- The rate file: its rows, and what they give or where they are refused. The rows are this project's own.
use Rattle.std.specs.Prelude.{ℕ, ◌%◌, ◌==◌, int_lt, if◌then◌else◌, List, [], ◌∷◌, ◌++◌, length, Option, Some, None, Result, Ok, Err, codes, ℤ}
use Rattle.std.specs.List.{list_any}
use Rattle.escrow_desk.specs.declared.refusal.FileKind.TheVariants as file
use Rattle.escrow_desk.specs.declared.refusal.Refusal.{Refusal}
use Rattle.escrow_desk.specs.declared.refusal.RefusalKind.{RefusalKind}
use Rattle.escrow_desk.specs.declared.refusal.RefusalKind.TheVariants as kind
use Rattle.escrow_units.specs.NumberText.{rate_of}
use Rattle.escrow_units.specs.Denomination.{cap_of}
use Rattle.escrow_units.specs.declared.amount.Rate.{Rate}
use Rattle.escrow_units.specs.declared.security.AskedRate.{AskedRate}
use Rattle.escrow_units.specs.declared.security.AskedRate.TheVariants.{Max, At}
use Rattle.escrow_units.specs.declared.security.Terms.{Terms}
use Rattle.rate_table.specs.declared.row.RateRow.{RateRow}
use Rattle.rate_table.specs.declared.row.RateRow.TheVariants as rate_row
use Rattle.rate_table.specs.declared.table.RateRange.{RateRange}
use Rattle.rate_table.specs.declared.table.Offer.{Offer}
use Rattle.rate_table.specs.declared.table.RateFile.{RateFile}
use Rattle.rate_table.specs.Table.{overlap}
pub use Rattle.row_fields.specs.RowForm.{Row, field_of, is_word, ◌>>=◌, or_refused, day_field_of, of_width, terms_row_of, first_terms_of, answer_of_row, with_rows}

-- a rate in whole hundredths of a percentage point
abbrev pub hundredths_field_of : List ℕ → Result Rate RefusalKind
hundredths_field_of bytes = do
  rate ← or_refused (rate_of bytes)
  if rate.0 % 10 == 0 then Ok rate else Err kind.OutOfRange

-- the word `max`, or a rate in whole hundredths
abbrev pub asked_field_of : List ℕ → Result AskedRate RefusalKind
asked_field_of bytes =
    if is_word (codes "max") bytes then Ok Max else do
      rate ← hundredths_field_of bytes
      Ok (At rate)

-- a date, or nothing
abbrev pub optional_day_field_of : List ℕ → Result (Option ℤ) RefusalKind
optional_day_field_of bytes =
    if length bytes == 0 then Ok None else do
      day ← day_field_of bytes
      Ok (Some day)

-- `rate,FROM,TO,MAXIMUM`: maturities from FROM to TO, both included, have this greatest rate
abbrev pub range_row_of : Row → Result RateRange RefusalKind
range_row_of row = of_width 4 row (do
  from ← day_field_of (field_of row 1)
  to ← day_field_of (field_of row 2)
  most ← hundredths_field_of (field_of row 3)
  if int_lt to from then Err kind.DateOrder else Ok (record { from = from; to = to; most = most }))

-- `offer,MATURITY,RATE,FIRST,CAP`: a security on offer, by the number of its row
abbrev pub offer_row_of : Terms → ℕ → Row → Result Offer RefusalKind
offer_row_of terms number row = of_width 5 row (do
  maturity ← day_field_of (field_of row 1)
  rate ← asked_field_of (field_of row 2)
  first ← optional_day_field_of (field_of row 3)
  cap ← or_refused (cap_of terms (field_of row 4))
  Ok (record { row = number; maturity = maturity; rate = rate; first = first; cap = cap }))

-- what a row says, by its number from 1, under the denominations of the file
abbrev pub rate_row_of : Terms → ℕ → Row → Result RateRow RefusalKind
rate_row_of terms number row =
    if is_word (codes "terms") (field_of row 0) then (terms_row_of row >>= (λ read. Ok (rate_row.Terms read))) else
    (if is_word (codes "rate") (field_of row 0) then (range_row_of row >>= (λ range. Ok (rate_row.Range range))) else
    (if is_word (codes "offer") (field_of row 0) then (offer_row_of terms number row >>= (λ offer. Ok (rate_row.Offer offer))) else
    Err kind.UnknownRow))

-- a file with one more range, which has no day in common with an earlier one
abbrev pub with_range : RateFile → RateRange → Result RateFile RefusalKind
with_range file range =
    if list_any (overlap range) file.ranges then Err kind.Overlap
    else Ok (record file { ranges = file.ranges ++ range ∷ [] })

-- a file with one more offer
abbrev pub with_offer : RateFile → Offer → Result RateFile RefusalKind
with_offer file offer = Ok (record file { offers = file.offers ++ offer ∷ [] })

-- a file with what one more row says; `terms` stands once, in row 1
abbrev pub with_read_row : RateFile → RateRow → Result RateFile RefusalKind
with_read_row file (rate_row.Terms terms) = Err kind.Repeated
with_read_row file (rate_row.Range range) = with_range file range
with_read_row file (rate_row.Offer offer) = with_offer file offer

-- what was read, with one more row, whose number is given; or why the row is refused
abbrev pub with_row : Terms → RateFile → ℕ → Row → Result RateFile RefusalKind
with_row terms file number row = rate_row_of terms number row >>= with_read_row file

-- a file without ranges and offers
abbrev pub bare_file : Option Terms → RateFile
bare_file terms = record { terms = terms; ranges = []; offers = [] }

-- the rate file of rows, which are numbered from 1, or its first refusal: no rows offer nothing
unfoldable pub rate_file_of : List Row → Result RateFile Refusal
rate_file_of [] = Ok (bare_file None)
rate_file_of (row ∷ rows) = do
  terms ← answer_of_row file.Rates 1 (first_terms_of row)
  with_rows file.Rates (with_row terms) (bare_file (Some terms)) 2 rows
