-- Needs, the lines of an escrow, and what a book holds.
use Rattle.std.specs.Prelude.{◌≡◌, ◌*◌, ◌%◌, ◌^◌, ◌≤◌, ◌⊎◌, List, [], ◌∷◌, length, ℤ, ◌≤ℤ◌}
use Rattle.std.specs.List.{All}
use Rattle.day_sums.specs.SummedLaws.{AreAboveZero}
use Rattle.escrow_units.specs.Calendar.{years_after_of}
use Rattle.escrow_units.specs.Flows.{FallWithinFortyYears, Rise, total}
use Rattle.escrow_units.specs.OpenDays.{open_day}
use Rattle.escrow_units.specs.SlgsTerms.{IsSettlement, IsSlgs}
use Rattle.escrow_units.specs.declared.security.Flow.{Flow}
use Rattle.market_notes.specs.NoteTerms.{IsNote}
use Rattle.offer_book.specs.declared.line.LineKind.{LineKind}
use Rattle.offer_book.specs.declared.line.LineKind.TheVariants.{Cash, Market, Security}
use Rattle.offer_book.specs.declared.line.Line.{Line}
use Rattle.offer_book.specs.declared.payment_days.PaymentDays.{PaymentDays}
use Rattle.escrow_units.specs.declared.limits.TheConstants.{AMOUNT_LIMIT, MOST_LINES, MOST_NEED_DATES}

-- what a book holds: the settlement day and the days that are closed, the needs in order of day, and the lines, opening cash first
pub record BookContents : Type 0 where
  pub days : PaymentDays
  pub needs : List Flow
  pub lines : List Line

-- needs as this project bounds them: at most 480 days that strictly rise, from settlement to 40 years later,
-- each of at least one cent, and at most 10^13 cents together
pub record IsNeeds (settle : ℤ) (needs : List Flow) : Type 0 where
  pub few : length needs ≤ MOST_NEED_DATES
  pub rising : Rise needs
  pub within : FallWithinFortyYears settle needs
  pub positive : AreAboveZero needs
  pub small : total needs ≤ AMOUNT_LIMIT

-- opening cash: one unit is one cent, and at most 10^13 cents
pub record IsCashLine (line : Line) : Type 0 where
  pub kind : line.kind ≡ Cash
  pub step : line.step ≡ 1
  pub least : line.least ≡ 1
  pub most : line.most ≤ AMOUNT_LIMIT

-- what is bought is a SLGS security that keeps its terms (31 CFR part 344) and is issued on the settlement day, at a
-- rate of at most 30 percent (this project's own), or a marketable note that keeps the limits of notes and is bought on
-- that day
abbrev pub IsSecurity : PaymentDays → LineKind → Type 0
IsSecurity days Cash = ⊥
IsSecurity days (Security slgs) = (slgs.settle ≡ days.settle) × IsSlgs slgs × (slgs.rate.0 ≤ 30_000)
IsSecurity days (Market note) = (note.settle ≡ days.settle) × IsNote note

-- a maturity opens by 40 years after settlement
abbrev pub OpensInTime : PaymentDays → ℤ → Type 0
OpensInTime days maturity = open_day days.closed maturity ≤ℤ years_after_of days.settle 40

-- the last payment of what is bought falls by then, however many days are closed
abbrev pub EndsInTime : PaymentDays → LineKind → Type 0
EndsInTime days Cash = Unit {0}
EndsInTime days (Security slgs) = OpensInTime days slgs.maturity
EndsInTime days (Market note) = OpensInTime days note.maturity

-- a line of securities: its step, its least purchase and its cap as this project bounds them. The step is from 1 to
-- 1,000,000 whole dollars, the least purchase at most 1,000,000 dollars and the greatest at most 1,000,000,000 dollars
pub record IsSecurityLine (days : PaymentDays) (line : Line) : Type 0 where
  pub security : IsSecurity days line.kind
  pub ends : EndsInTime days line.kind
  pub whole_dollars : line.step % 100 ≡ 0
  pub step_at_least : 100 ≤ line.step
  pub step_at_most : line.step ≤ 10 ^ 8
  pub least : 1 ≤ line.least
  pub least_purchase : line.least * line.step ≤ 10 ^ 8
  pub ordered : line.least ≤ line.most
  pub cap : line.most * line.step ≤ 10 ^ 11

-- opening cash, or securities
abbrev pub IsLine : PaymentDays → Line → Type 0
IsLine days line = IsCashLine line ⊎ IsSecurityLine days line

-- opening cash, and then at most 512 lines of securities
abbrev pub AreLines : PaymentDays → List Line → Type 0
AreLines days [] = ⊥
AreLines days (cash ∷ securities) =
    IsCashLine cash × All (IsSecurityLine days) securities × (length securities ≤ MOST_LINES)

-- a book that keeps every limit
pub record IsBook (book : BookContents) : Type 0 where
  pub settlement : IsSettlement book.days.settle
  pub needs : IsNeeds book.days.settle book.needs
  pub lines : AreLines book.days book.lines

-- a SLGS security that bears no interest, which pays what it costs
abbrev pub IsKindWithoutInterest : LineKind → Type 0
IsKindWithoutInterest Cash = ⊥
IsKindWithoutInterest (Security slgs) = slgs.rate.0 ≡ 0
IsKindWithoutInterest (Market note) = ⊥

-- a line is a SLGS security of rate 0
abbrev pub IsWithoutInterest : Line → Type 0
IsWithoutInterest line = IsKindWithoutInterest line.kind

-- no line of securities bears interest
abbrev pub AreWithoutInterest : List Line → Type 0
AreWithoutInterest [] = Unit {0}
AreWithoutInterest (cash ∷ securities) = All IsWithoutInterest securities
