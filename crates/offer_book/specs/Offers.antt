-- The lines of the offers of a rate file, or the refusal of its first faulty offer.
use Rattle.std.specs.Prelude.{◌≡◌, ◌⊎◌, ℕ, List, [], ◌∷◌, ◌++◌, length, All, Option, Some, None, Result, Ok, Err, ℤ, int_le, if◌then◌else◌}
use Rattle.std.specs.List.{AllZip}
use Rattle.escrow_desk.specs.declared.refusal.FileKind.TheVariants.{Rates}
use Rattle.escrow_desk.specs.declared.refusal.Refusal.{Refusal}
use Rattle.escrow_desk.specs.declared.refusal.RefusalKind.{RefusalKind}
use Rattle.escrow_desk.specs.declared.refusal.RefusalKind.TheVariants as kind
use Rattle.escrow_units.specs.Calendar.{years_after_of}
use Rattle.escrow_units.specs.OpenDays.{open_day}
use Rattle.escrow_units.specs.SlgsTerms.{IsSettlement}
use Rattle.escrow_units.specs.declared.security.Slgs.{Slgs}
use Rattle.escrow_units.specs.declared.security.Terms.{Terms}
use Rattle.row_fields.specs.RowForm.{◌>>=◌, answer_of_row, refusal_of}
use Rattle.slgs_rules.specs.Classification.{classified}
use Rattle.slgs_rules.specs.TermRules.{Request, IsFirstFault, IsSubscription}
use Rattle.slgs_rules.specs.declared.fault.RuleFault.{RuleFault}
use Rattle.slgs_rules.specs.declared.fault.RuleFault.TheVariants as fault
use Rattle.rate_table.specs.Table.{IsRateFile, maximum_of}
use Rattle.rate_table.specs.declared.table.Offer.{Offer}
use Rattle.rate_table.specs.declared.table.RateFile.{RateFile}
use Rattle.rate_table.specs.declared.table.RateRange.{RateRange}
use Rattle.offer_book.specs.Book.{IsSecurityLine, OpensInTime}
use Rattle.offer_book.specs.Denominations.{IsDenominated, line_of}
use Rattle.offer_book.specs.declared.line.Line.{Line}
use Rattle.offer_book.specs.declared.line.LineKind.TheVariants.{Security}
use Rattle.offer_book.specs.declared.payment_days.PaymentDays.{PaymentDays}

-- what an offer asks for, by the table of greatest rates beside it
abbrev pub request_of : ℤ → List RateRange → Offer → Request
request_of settle ranges offer = record {
  settle = settle;
  maturity = offer.maturity;
  rate = offer.rate;
  first = offer.first;
  most = maximum_of ranges offer.maturity;
}

-- an offer is refused by the name of the rule that it breaks
abbrev pub rule_kind : RuleFault → RefusalKind
rule_kind fault.NoRate = kind.NoRate
rule_kind fault.RateAboveTable = kind.RateAboveTable
rule_kind fault.TooShort = kind.TooShort
rule_kind fault.TooLong = kind.TooLongTerm
rule_kind fault.FirstDate = kind.FirstDate

-- what is bought, unless its maturity opens more than 40 years after settlement
abbrev pub ending_in_time : PaymentDays → ℤ → Line → Result Line RefusalKind
ending_in_time days maturity line = if int_le (open_day days.closed maturity) (years_after_of days.settle 40) then Ok line else Err kind.ClosedPastEnd

-- the line of an offer's security, or the name of the rule that the offer breaks
abbrev pub line_or_refused : PaymentDays → Terms → ℕ → Result Slgs RuleFault → Result Line RefusalKind
line_or_refused days terms cap (Ok slgs) = ending_in_time days slgs.maturity (line_of terms (Security slgs) cap)
line_or_refused days terms cap (Err fault) = Err (rule_kind fault)

-- the line of an offer, or its refusal, which names its row
abbrev pub offered_line : PaymentDays → List RateRange → Terms → Offer → Result Line Refusal
offered_line days ranges terms offer =
    answer_of_row Rates offer.row (line_or_refused days terms offer.cap (classified (request_of days.settle ranges offer)))

-- the lines of offers in their order, or the first refusal
abbrev pub offered_lines : PaymentDays → List RateRange → Terms → List Offer → Result (List Line) Refusal
offered_lines days ranges terms [] = Ok []
offered_lines days ranges terms (offer ∷ offers) = do
  line ← offered_line days ranges terms offer
  lines ← offered_lines days ranges terms offers
  Ok (line ∷ lines)

-- a file without terms offers nothing
abbrev pub lines_of_terms : PaymentDays → Option Terms → List RateRange → List Offer → Result (List Line) Refusal
lines_of_terms days None ranges offers = Ok []
lines_of_terms days (Some terms) ranges offers = offered_lines days ranges terms offers

-- the lines of a rate file's offers, in the order of its rows, or the refusal of the first faulty offer
unfoldable pub slgs_lines_of : PaymentDays → RateFile → Result (List Line) Refusal
slgs_lines_of days file = lines_of_terms days file.terms file.ranges file.offers

-- a security that an offer is sold as: the one that the offer's request is for, which keeps every rule of term and rate (31 CFR
-- part 344), and matures on a day that opens by 40 years after settlement
pub record IsSoldAs (days : PaymentDays) (ranges : List RateRange) (offer : Offer) (slgs : Slgs) : Type 0 where
  pub rules : IsSubscription (request_of days.settle ranges offer) slgs
  pub in_time : OpensInTime days slgs.maturity

-- a line is that of an offer
pub record IsLineOf (days : PaymentDays) (file : RateFile) (offer : Offer) (line : Line) : Type 0 where
  pub slgs : Slgs
  pub security : line.kind ≡ Security slgs
  pub sold : IsSoldAs days file.ranges offer slgs
  pub terms : Terms
  pub stated : file.terms ≡ Some terms
  pub denominated : IsDenominated terms offer.cap line

-- each offer of a file has its line, in the order of the rows
abbrev pub AreLinesOf : PaymentDays → RateFile → List Line → Type 0
AreLinesOf days file lines = AllZip (IsLineOf days file) file.offers lines

-- what is wrong with an offer: the first rule that it breaks; or it keeps every rule, and its maturity opens too late
pub record BreaksRule (settle : ℤ) (ranges : List RateRange) (offer : Offer) (name : RefusalKind) : Type 0 where
  pub broken : RuleFault
  pub fault : IsFirstFault (request_of settle ranges offer) broken
  pub is_name : name ≡ rule_kind broken

pub record OpensTooLate (days : PaymentDays) (ranges : List RateRange) (offer : Offer) (name : RefusalKind) : Type 0 where
  pub slgs : Slgs
  pub rules : IsSubscription (request_of days.settle ranges offer) slgs
  pub late : ¬ OpensInTime days slgs.maturity
  pub is_name : name ≡ kind.ClosedPastEnd

-- a refusal is that of the first faulty offer, by its row and the name of what is wrong with it
pub record IsFirstFaulty (days : PaymentDays) (file : RateFile) (refusal : Refusal) : Type 0 where
  pub before : List Offer
  pub offer : Offer
  pub after : List Offer
  pub place : file.offers ≡ before ++ offer ∷ after
  pub sold : All (λ earlier. (slgs : Slgs) × IsSoldAs days file.ranges earlier slgs) before
  pub name : RefusalKind
  pub fault : BreaksRule days.settle file.ranges offer name ⊎ OpensTooLate days file.ranges offer name
  pub says : refusal ≡ refusal_of Rates offer.row name

-- lines that are made from a file are those of its offers, and keep the limits of a book's lines
abbrev pub LinesKeepRules : Type 0
LinesKeepRules =
    (days : PaymentDays) (file : RateFile) (lines : List Line) → IsSettlement days.settle → IsRateFile file
    → slgs_lines_of days file ≡ Ok lines → AreLinesOf days file lines × All (IsSecurityLine days) lines

abbrev pub EachOfferHasOneLine : Type 0
EachOfferHasOneLine = (days : PaymentDays) (file : RateFile) (lines : List Line) → AreLinesOf days file lines → length lines ≡ length file.offers

-- a file is refused for its first faulty offer
abbrev pub RefusalsNameFirstFault : Type 0
RefusalsNameFirstFault =
    (days : PaymentDays) (file : RateFile) (refusal : Refusal) → IsSettlement days.settle → IsRateFile file
    → slgs_lines_of days file ≡ Err refusal → IsFirstFaulty days file refusal
