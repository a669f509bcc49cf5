-- A case at a common cap on the rates of SLGS securities. A subscriber may choose any rate up to the greatest of the daily table
-- (31 CFR part 344); the common cap is this project's own. Rates and caps are in thousandths of a percentage point.
use Rattle.std.specs.Prelude.{◌≡◌, ◌↔◌, ◌≤◌, min, List, [], ◌∷◌, All, map, Option, Some, None}
use Rattle.std.specs.List.{AllZip, filter_map}
use Rattle.escrow_units.specs.declared.amount.Rate.{Rate}
use Rattle.escrow_units.specs.declared.security.AskedRate.TheVariants.{At}
use Rattle.escrow_units.specs.declared.security.Slgs.{Slgs}
use Rattle.row_fields.specs.RowForm.{Row}
use Rattle.rate_table.specs.Table.{IsTableRate}
use Rattle.rate_table.specs.declared.table.Offer.{Offer}
use Rattle.rate_table.specs.declared.table.RateFile.{RateFile}
use Rattle.offer_book.specs.Offers.{IsLineOf}
use Rattle.offer_book.specs.declared.line.Line.{Line}
use Rattle.offer_book.specs.declared.line.LineKind.{LineKind}
use Rattle.offer_book.specs.declared.line.LineKind.TheVariants.{Cash, Market, Security}
use Rattle.offer_book.specs.declared.payment_days.PaymentDays.{PaymentDays}
use Rattle.case_file.specs.Case.{CaseContents, IsKept}
use Rattle.rate_cap.specs.Search.{IsGreatest, zero_cap}

-- ---- the top
-- the rate of what is bought, where it is a SLGS security
abbrev pub slgs_rate : LineKind → Option Rate
slgs_rate Cash = None
slgs_rate (Security slgs) = Some slgs.rate
slgs_rate (Market note) = None

-- the rates of the SLGS securities among lines
abbrev pub slgs_rates : List Line → List Rate
slgs_rates lines = filter_map (λ line. slgs_rate line.kind) lines

-- the greatest of rates, or 0 where there are none
abbrev pub IsTopOf : List Rate → Rate → Type 0
IsTopOf [] top = top ≡ zero_cap
IsTopOf (rate ∷ rates) top = IsGreatest (rate ∷ rates) top

-- ---- the case at a cap
-- the lesser of a rate and a cap
abbrev pub lesser : Rate → Rate → Rate
lesser rate cap = record { 0 = min rate.0 cap.0 }

-- what is bought at a cap: a SLGS security bears the lesser of its own rate and the cap
abbrev pub kind_at : Rate → LineKind → LineKind
kind_at cap Cash = Cash
kind_at cap (Security slgs) = Security (record slgs { rate = lesser slgs.rate cap })
kind_at cap (Market note) = Market note

-- a line at a cap: its step, its least and its most stay
abbrev pub line_at : Rate → Line → Line
line_at cap line = record line { kind = kind_at cap line.kind }

-- a case at a cap: its lines are those of the case, one by one, each at the cap, and all else stays
pub record IsAtCap (cap : Rate) (case at : CaseContents) : Type 0 where
  pub lines : AllZip (λ line other. other ≡ line_at cap line) case.book.lines at.book.lines
  pub days : at.book.days ≡ case.book.days
  pub needs : at.book.needs ≡ case.book.needs
  pub limit : at.limit ≡ case.limit
  pub allowance : at.allowance ≡ case.allowance
  pub budget : at.budget ≡ case.budget

-- at a cap from the top on the case is the case itself
abbrev pub IsItselfFromTop : Rate → CaseContents → CaseContents → Type 0
IsItselfFromTop cap case at = (top : Rate) → IsTopOf (slgs_rates case.book.lines) top → top.0 ≤ cap.0 → at ≡ case

-- ---- laws
-- the case at a cap, as a value
abbrev pub case_at : Rate → CaseContents → CaseContents
case_at cap case = record case { book = record case.book { lines = map (line_at cap) case.book.lines } }

-- there is one case at each cap
abbrev pub CasesAtCapsAreOne : Type 0
CasesAtCapsAreOne = (cap : Rate) (case at : CaseContents) → IsAtCap cap case at ↔ (at ≡ case_at cap case)

-- an offer that asks for a rate
abbrev pub asking : Rate → Offer → Offer
asking rate offer = record offer { rate = At rate }

-- a subscriber may ask for the rate at a cap: the line of an offer, at the cap, is that of the same offer when it asks for the lesser
-- rate, with every rule of term, rate and denomination
abbrev pub CapsKeepRules : Type 0
CapsKeepRules =
    (days : PaymentDays) (file : RateFile) (offer : Offer) (line : Line) (slgs : Slgs) (cap : Rate) → IsLineOf days file offer line
    → line.kind ≡ Security slgs → IsLineOf days file (asking (lesser slgs.rate cap) offer) (line_at cap line)

-- the SLGS rates of a case of files are whole hundredths of a percentage point, up to 30 percent
abbrev pub FilesGiveTableRates : Type 0
FilesGiveTableRates =
    (issue_rows rate_rows price_rows : List Row) (case : CaseContents) → IsKept issue_rows rate_rows price_rows case
    → All IsTableRate (slgs_rates case.book.lines)
