-- The verification report of an escrow: what is bought, what it costs and yields, what it pays, how the cash stands day by day,
-- and the yield's proof. The text is this project's own.
use Rattle.std.specs.Prelude.{ℕ, ◌+◌, ◌*◌, ◌/◌, ◌≤◌, nat_lt, if◌then◌else◌, List, [], ◌∷◌, ◌++◌, drop, codes, decimal, slice_index, ℤ}
use Rattle.std.specs.Int.{div_ceil}
use Rattle.std.specs.List.{flat_map}
use Rattle.escrow_units.specs.DateText.{day_text}
use Rattle.escrow_units.specs.Digits.{fixed}
use Rattle.escrow_units.specs.Flows.{index360_of}
use Rattle.escrow_units.specs.declared.limits.TheConstants.{GREATEST_YIELD}
use Rattle.escrow_units.specs.declared.security.Flow.{Flow}
use Rattle.escrow_units.specs.declared.security.SlgsKind.{SlgsKind}
use Rattle.escrow_units.specs.declared.security.SlgsKind.TheVariants as slgs
use Rattle.fixed_powers.specs.DiscountPowers.{high, low, one}
use Rattle.yield_enclosure.specs.declared.answer.YieldAnswer.{YieldAnswer}
use Rattle.yield_enclosure.specs.declared.answer.YieldAnswer.TheVariants as yields
use Rattle.offer_book.specs.Book.{BookContents}
use Rattle.offer_book.specs.Portfolio.{cost, line_cost, line_payments, par, security_flows}
use Rattle.offer_book.specs.declared.line.Line.{Line}
use Rattle.offer_book.specs.declared.line.LineKind.{LineKind}
use Rattle.offer_book.specs.declared.line.LineKind.TheVariants.{Cash, Market, Security}
use Rattle.offer_book.specs.declared.payment_days.PaymentDays.{PaymentDays}
use Rattle.cash_table.specs.Balances.{balances_of}
use Rattle.cash_table.specs.Points.{plan_yield}
use Rattle.cash_table.specs.declared.day_balances.Balance.{Balance}
use Rattle.case_file.specs.Case.{CaseContents}
use Rattle.verification_report.specs.Summary.{summary_text, text_line}
use Rattle.verification_report.specs.declared.figures.Figures.{Figures}

-- the figures of an escrow, with a gap
abbrev pub figures_of : CaseContents → List ℕ → ℕ → Figures
figures_of case plan gap = record {
  cost = record { 0 = cost case.book plan };
  answer = plan_yield case.book plan;
  limit = record { 0 = case.limit };
  gap = record { 0 = gap };
}

-- what a SLGS security is called
abbrev pub slgs_word : SlgsKind → List ℕ
slgs_word slgs.Certificate = codes "certificate"
slgs_word slgs.Note = codes "note"
slgs_word slgs.Bond = codes "bond"

-- what a line offers: its kind, its maturity, and its rate or coupon in percent
abbrev pub kind_text : LineKind → List ℕ
kind_text Cash = codes "cash"
kind_text (Security slgs) = slgs_word slgs.kind ++ 32 ∷ day_text slgs.maturity ++ 32 ∷ fixed 3 slgs.rate.0
kind_text (Market note) = codes "market" ++ 32 ∷ day_text note.maturity ++ 32 ∷ fixed 3 note.coupon.0

-- a purchase: the number of its line, what the line offers, its face and its cost
abbrev pub buy_line : ℕ → Line → ℕ → List ℕ
buy_line number line units =
    text_line (codes "buy ") (decimal number ++ 32 ∷ kind_text line.kind ++ 32 ∷ fixed 2 (par line units) ++ 32 ∷ fixed 2 (line_cost line units))

-- a text of a line and its units, where some are bought
abbrev pub bought_text : (ℕ → Line → ℕ → List ℕ) → ℕ → Line → ℕ → List ℕ
bought_text text number line units = if nat_lt 0 units then text number line units else []

-- a text for each line that is bought, of lines from a number on
abbrev pub of_bought : (ℕ → Line → ℕ → List ℕ) → ℕ → List Line → List ℕ → List ℕ
of_bought text number [] plan = []
of_bought text number (line ∷ lines) [] = []
of_bought text number (line ∷ lines) (units ∷ plan) = bought_text text number line units ++ of_bought text (number + 1) lines plan

-- a payment of a line, where it isn't 0
abbrev pub pay_line : ℕ → Flow → List ℕ
pay_line number flow =
    if nat_lt 0 flow.cents.0 then text_line (codes "pay ") (decimal number ++ 32 ∷ day_text flow.day ++ 32 ∷ fixed 2 flow.cents.0) else []

-- what units of a line pay
abbrev pub pay_lines : PaymentDays → ℕ → Line → ℕ → List ℕ
pay_lines days number line units = flat_map (pay_line number) (line_payments days line units)

-- the cash of a day: what is received, what is needed, and what is left
abbrev pub date_line : Balance → List ℕ
date_line entry =
    text_line (codes "date") (32 ∷ day_text entry.day ++ 32 ∷ fixed 2 entry.receipts.0 ++ 32 ∷ fixed 2 entry.needs.0 ++ 32 ∷ fixed 2 entry.balance.0)

-- cash that lies idle from a day to the next of those that follow, at no interest
abbrev pub idle_line : Balance → List Balance → List ℕ
idle_line entry [] = []
idle_line entry (next ∷ later) =
    if nat_lt 0 entry.balance.0 then text_line (codes "idle") (32 ∷ day_text entry.day ++ 32 ∷ day_text next.day ++ 32 ∷ fixed 2 entry.balance.0) else []

-- the cash, day by day, and what lies idle between
abbrev pub cash_lines : List Balance → List ℕ
cash_lines [] = []
cash_lines (entry ∷ entries) = date_line entry ++ idle_line entry entries ++ cash_lines entries

-- cents discounted by a power, in whole cents, rounded down and up
abbrev pub discounted_down : ℕ → ℕ → ℕ
discounted_down cents power = cents * power / one

-- cents discounted by a power, in whole cents, rounded up
abbrev pub discounted_up : ℕ → ℕ → ℕ
discounted_up cents power = div_ceil (cents * power) one

-- a flow of the securities, and its present values at the lower end of the yield, rounded down, and at the upper end, rounded up
abbrev pub proof_line : ℤ → ℕ → ℕ → Flow → List ℕ
proof_line settle lo hi flow =
    text_line (codes "proof")
    (32 ∷ day_text flow.day ++ 32 ∷ fixed 2 flow.cents.0
    ++ 32 ∷ fixed 2 (discounted_down flow.cents.0 (low lo (index360_of settle flow.day)))
    ++ 32 ∷ fixed 2 (discounted_up flow.cents.0 (high hi (index360_of settle flow.day))))

-- the ends of a yield, where it has two, are at most one unit above 30 percent
abbrev pub HasEndsWithin : YieldAnswer → Type 0
HasEndsWithin (yields.Between lo hi) = (lo.0 ≤ GREATEST_YIELD + 1) × (hi.0 ≤ GREATEST_YIELD + 1)
HasEndsWithin yields.Empty = Unit {0}
HasEndsWithin yields.Negative = Unit {0}
HasEndsWithin yields.Above = Unit {0}

-- the proof of a yield with two ends
abbrev pub proof_lines : ℤ → YieldAnswer → List Flow → List ℕ
proof_lines settle (yields.Between lo hi) flows = flat_map (proof_line settle lo.0 hi.0) flows
proof_lines settle yields.Empty flows = []
proof_lines settle yields.Negative flows = []
proof_lines settle yields.Above flows = []

-- the report of an escrow, with a gap
unfoldable pub report_text : CaseContents → List ℕ → ℕ → List ℕ
report_text case plan gap =
    text_line (codes "escrow report") []
    ++ text_line (codes "settlement ") (day_text case.book.days.settle)
    ++ of_bought buy_line 1 (drop 1 case.book.lines) (drop 1 plan)
    ++ text_line (codes "cash ") (fixed 2 (slice_index plan 0))
    ++ summary_text (figures_of case plan gap)
    ++ of_bought (pay_lines case.book.days) 1 (drop 1 case.book.lines) (drop 1 plan)
    ++ cash_lines (balances_of case.book plan)
    ++ proof_lines case.book.days.settle (plan_yield case.book plan) (security_flows case.book plan)
    ++ text_line (codes "end") []
