-- Portfolios of a book: which are permitted, what they pay and cost, and whether they meet the needs.
-- A portfolio is a list with one number of units for each line.
use Rattle.std.specs.Prelude.{◌≡◌, ℕ, ◌*◌, ◌<◌, ◌≤◌, ◌⊎◌, Bool, ◌&&◌, ◌||◌, nat_le, ◌==◌, List, length, drop, map, ℤ, ◌<ℤ◌}
use Rattle.std.specs.List.{All, sum_by, flat_map, zip}
use Rattle.escrow_units.specs.Flows.{total}
use Rattle.escrow_units.specs.declared.security.Flow.{Flow}
use Rattle.day_sums.specs.Summed.{summed, total_by}
use Rattle.payment_schedule.specs.Schedule.{flow_by}
use Rattle.market_notes.specs.NoteFlows.{cost_of as note_cost_of}
use Rattle.offer_book.specs.declared.line.LineKind.{LineKind}
use Rattle.offer_book.specs.declared.line.LineKind.TheVariants.{Cash, Market, Security}
use Rattle.offer_book.specs.declared.line.Line.{Line}
use Rattle.offer_book.specs.declared.payment_days.PaymentDays.{PaymentDays}
use Rattle.offer_book.specs.Book.{BookContents}
use Rattle.offer_book.specs.Schedule.{kind_rate, schedule_of}

-- 0 units, or from the least to the most of the line
abbrev pub IsPermittedUnits : Line → ℕ → Type 0
IsPermittedUnits line units = (units ≡ 0) ⊎ ((line.least ≤ units) × (units ≤ line.most))

-- units are permitted, as a test
abbrev pub permits : Line → ℕ → Bool
permits line units = (units == 0) || (nat_le line.least units && nat_le units line.most)

-- each line has a number of units, and each number is permitted
pub record IsPermitted (book : BookContents) (plan : List ℕ) : Type 0 where
  pub same_length : length plan ≡ length book.lines
  pub units : All (λ p. IsPermittedUnits p.0 p.1) (zip book.lines plan)

-- what units of a line come to at par, in cents: an amount of opening cash, or a face
abbrev pub par : Line → ℕ → ℕ
par line units = line.step * units

-- what an amount at par of a kind costs: opening cash and a SLGS security (31 CFR part 344) cost just that, and a
-- marketable note costs its price and its accrued interest, each rounded once over the whole face
abbrev pub kind_cost : LineKind → ℕ → ℕ
kind_cost Cash amount = amount
kind_cost (Security slgs) face = face
kind_cost (Market note) face = note_cost_of note face

-- what units of a line cost, in cents
abbrev pub line_cost : Line → ℕ → ℕ
line_cost line units = kind_cost line.kind (par line units)

-- the payments of units of a line, in order of date: what they come to at par pays by the schedule of the line
abbrev pub line_payments : PaymentDays → Line → ℕ → List Flow
line_payments days line units = map (flow_by (kind_rate line.kind) (par line units)) (schedule_of days line)

-- the payments of a portfolio, in the order of the lines
abbrev pub payments : BookContents → List ℕ → List Flow
payments book plan = flat_map (λ p. line_payments book.days p.0 p.1) (zip book.lines plan)

-- on every day the payments up to and on that day are at least the needs up to and on it. So a receipt serves a need
-- of its day, and carried cash earns nothing (this project's own)
abbrev pub Meets : BookContents → List ℕ → Type 0
Meets book plan = (t : ℤ) → total_by t book.needs ≤ total_by t (payments book plan)

-- t is the first day on which a portfolio doesn't meet the needs
pub record IsFirstShort (book : BookContents) (plan : List ℕ) (t : ℤ) : Type 0 where
  pub short : total_by t (payments book plan) < total_by t book.needs
  pub before : (s : ℤ) → s <ℤ t → total_by s book.needs ≤ total_by s (payments book plan)

-- the sum of the needs
abbrev pub total_needs : BookContents → ℕ
total_needs book = total book.needs

-- the cost of a portfolio, opening cash included
abbrev pub cost : BookContents → List ℕ → ℕ
cost book plan = sum_by (λ p. line_cost p.0 p.1) (zip book.lines plan)

-- the cost of the securities alone, without opening cash, which is line 0
abbrev pub security_cost : BookContents → List ℕ → ℕ
security_cost book plan = sum_by (λ p. line_cost p.0 p.1) (drop 1 (zip book.lines plan))

-- what the securities pay, summed by day: in order of day, each day once, none of 0 cents
abbrev pub security_flows : BookContents → List ℕ → List Flow
security_flows book plan = summed (flat_map (λ p. line_payments book.days p.0 p.1) (drop 1 (zip book.lines plan)))
