-- What units of a line cost and pay.
use Rattle.std.proofs.Common.{◌≡◌, ℕ, ◌+◌, ◌*◌, ◌^◌, ◌≤◌, ◌∙◌, sym, ap, subst, arith, inl, inr, ℤ, ◌≤ℤ◌, ◌<ℤ◌, true, List, [], ◌∷◌, length, map, pos, ◌+ℤ◌, int_le}
use Rattle.std.specs.List.{All}
use Rattle.std.proofs.Math.Nat.{mul-le-mul, mul-le-mul_left, mul-le-mul_right}
use Rattle.std.proofs.lemmas.List.{length-map}
use Rattle.std.proofs.lemmas.List.Elements.{All-cons, All-nil, All-map, All-same, All-weaker, filter_passes}
use Rattle.std.proofs.lemmas.List.Sums.{sum_by-le}
use Rattle.std.proofs.lemmas.Int.{ints}
use Rattle.escrow_units.specs.Interest.{earned_of}
use Rattle.escrow_units.specs.Calendar.{IsBaseDay, years_after_of}
use Rattle.escrow_units.specs.DayNumber.{IsDayNumber}
use Rattle.escrow_units.specs.Flows.{total, FallWithinFortyYears}
use Rattle.escrow_units.specs.SlgsTerms.{IsSettlement}
use Rattle.escrow_units.specs.declared.security.Flow.{Flow}
use Rattle.escrow_units.specs.declared.security.Slgs.{Slgs}
use Rattle.escrow_units.proofs.SeriesFacts.{years_after_of-none}
use Rattle.escrow_units.proofs.YearFacts.{years_after_of-passes}
use Rattle.payment_schedule.specs.Schedule.{IsShort}
use Rattle.payment_schedule.proofs.ScheduleFacts.{flows-none, flows_by}
use Rattle.slgs_interest.specs.Payments.{first_accrual_of, payment_dates, payment_on, slgs_schedule}
use Rattle.slgs_interest.specs.PaymentLaws.{AreSmall, AreWithinTerm}
use Rattle.escrow_units.proofs.RoundingFacts.{near-zero}
use Rattle.slgs_interest.proofs.PaymentFacts.{first-short, interest-sum, paid_on, payments-by_date, payments-face, payments-principal, payments-small, payments-within, slgs_flows}
use Rattle.slgs_interest.proofs.Series.{IsPaid, paid, certificate-first}
use Rattle.market_notes.proofs.FlowFacts.{note_flows}
use Rattle.market_notes.proofs.AmountFacts as notes
use Rattle.market_notes.specs.NoteFlows as market
use Rattle.market_notes.specs.NoteTerms.{IsNote}
use Rattle.market_notes.specs.declared.note.Note.{Note}
use Rattle.offer_book.specs.declared.line.LineKind.{LineKind}
use Rattle.offer_book.specs.declared.line.LineKind.TheVariants.{Cash, Market, Security}
use Rattle.offer_book.specs.declared.line.Line.{Line}
use Rattle.escrow_units.proofs.OpenDayFacts.{open_day-least}
use Rattle.escrow_units.specs.OpenDays.{Closings, open_day}
use Rattle.offer_book.specs.Book.{EndsInTime, IsCashLine, IsSecurity, IsSecurityLine, IsLine, IsKindWithoutInterest, IsWithoutInterest, OpensInTime}
use Rattle.offer_book.specs.Portfolio.{par, kind_cost, line_cost, line_payments}
use Rattle.offer_book.specs.Schedule.{kind_rate, kind_schedule, schedule_of}
use Rattle.offer_book.specs.declared.payment_days.PaymentDays.{PaymentDays}

-- 40 years from a settlement have at least 365 days each
pub forty-years : (settle : ℤ) → IsSettlement settle → (settle +ℤ pos 14_600) ≤ℤ years_after_of settle 40
forty-years settle h =
    let own : IsDayNumber settle = (omega (arith, ints, h.0), omega (arith, ints, h.1)) in
    let from : IsBaseDay settle = (h.0, omega (arith, ints, h.1)) in
    let none = years_after_of-none settle own in
    let forty = years_after_of-passes settle 0 40 from (omega arith) in
    omega (arith, ints, none, forty.least)

-- what units up to the most of a line come to at par
pub par-at_most : (days : PaymentDays) (line : Line) (units : ℕ) → IsSecurityLine days line → units ≤ line.most → par line units ≤ 10 ^ 11
par-at_most days line units security few = omega (arith, mul-le-mul_left line.step few, security.cap)

cash_par-at_most : (line : Line) (units : ℕ) → IsCashLine line → units ≤ line.most → par line units ≤ 10 ^ 13
cash_par-at_most line units cash few =
    let one : par line units ≡ 1 * units = ap (λ n. n * units) cash.step in
    omega (arith, one, few, cash.most)

pub line_par-at_most : (days : PaymentDays) (line : Line) (units : ℕ) → IsLine days line → units ≤ line.most → par line units ≤ 10 ^ 13
line_par-at_most days line units is_line few = elim is_line [
  | inl cash ↦ cash_par-at_most line units cash few
  | inr security ↦ omega (arith, par-at_most days line units security few)
]

-- a line that isn't opening cash costs a face of at most 10^11 cents
pub not_cash-par : (days : PaymentDays) (line : Line) (units : ℕ) → IsLine days line → units ≤ line.most → IsSecurity days line.kind → par line units ≤ 10 ^ 11
not_cash-par days line units is_line few security = elim is_line [
  | inl cash ↦ absurd (subst (IsSecurity days) cash.kind security)
  | inr own ↦ par-at_most days line units own few
]

-- opening cash costs its amount
pub cash-cost : (line : Line) (units : ℕ) → IsCashLine line → line_cost line units ≡ units
cash-cost line units cash =
    let at_par : line_cost line units ≡ par line units = ap (λ kind. kind_cost kind (par line units)) cash.kind in
    let one : par line units ≡ 1 * units = ap (λ n. n * units) cash.step in
    omega (arith, at_par, one)

-- what units up to the most of a line cost
pub cash-at_most : (line : Line) (units : ℕ) → IsCashLine line → units ≤ line.most → line_cost line units ≤ 10 ^ 13
cash-at_most line units cash few = omega (arith, cash-cost line units cash, few, cash.most)

kind_cost-at_most : (days : PaymentDays) (kind : LineKind) (face : ℕ) → IsSecurity days kind → face ≤ 10 ^ 11 → kind_cost kind face ≤ 316 * 10 ^ 9
kind_cost-at_most days Cash face security few = absurd security
kind_cost-at_most days (Security slgs) face security few = omega (arith, few)
kind_cost-at_most days (Market note) face security few = notes.cost-small note face security.1 few

pub security-at_most : (days : PaymentDays) (line : Line) (units : ℕ) → IsSecurityLine days line → units ≤ line.most → line_cost line units ≤ 316 * 10 ^ 9
security-at_most days line units security few = kind_cost-at_most days line.kind (par line units) security.security (par-at_most days line units security few)

-- units of a line of securities cost something
kind_cost-some : (days : PaymentDays) (kind : LineKind) (face : ℕ) → IsSecurity days kind → 100 ≤ face → 1 ≤ kind_cost kind face
kind_cost-some days Cash face security some = absurd security
kind_cost-some days (Security slgs) face security some = omega (arith, some)
kind_cost-some days (Market note) face security some = notes.cost-some note face security.1 some

pub par-some : (days : PaymentDays) (line : Line) (units : ℕ) → IsSecurityLine days line → 1 ≤ units → 100 ≤ par line units
par-some days line units security some = omega (arith, mul-le-mul security.step_at_least some)

pub security_cost-some : (days : PaymentDays) (line : Line) (units : ℕ) → IsSecurityLine days line → 1 ≤ units → 1 ≤ line_cost line units
security_cost-some days line units security some = kind_cost-some days line.kind (par line units) security.security (par-some days line units security some)

-- and none cost nothing
kind_cost-none : (kind : LineKind) (amount : ℕ) → amount ≡ 0 → kind_cost kind amount ≡ 0
kind_cost-none Cash amount none = none
kind_cost-none (Security slgs) amount none = none
kind_cost-none (Market note) amount none = notes.cost-none note amount none

pub line_cost-none : (line : Line) (units : ℕ) → units ≡ 0 → line_cost line units ≡ 0
line_cost-none line units none = kind_cost-none line.kind (par line units) (rw none (omega arith))

-- the payments of a security of a book
within : (days : PaymentDays) (slgs : Slgs) (flows : List Flow) → IsSecurity days (Security slgs) → OpensInTime days slgs.maturity → AreWithinTerm slgs days.closed flows → FallWithinFortyYears days.settle flows
within days slgs flows security ends h =
    All-weaker (λ (flow : Flow). (slgs.settle <ℤ flow.day) × (flow.day ≤ℤ open_day days.closed slgs.maturity)) (λ flow. (days.settle ≤ℤ flow.day) × (flow.day ≤ℤ years_after_of days.settle 40))
    (λ flow w.
    let late : days.settle <ℤ flow.day = rw security.0 at w.0 in
    (omega (arith, ints, late), omega (arith, ints, w.1, ends)))
    flows h

pub is_paid : (days : PaymentDays) (slgs : Slgs) → IsSettlement days.settle → IsSecurity days (Security slgs) → IsPaid slgs
is_paid days slgs h security = paid slgs (subst IsSettlement (sym security.0) h) security.1

-- its first interest is for at most sixteen months
pub is_short : (days : PaymentDays) (slgs : Slgs) → IsSettlement days.settle → IsSecurity days (Security slgs) → IsShort (first_accrual_of slgs)
is_short days slgs h security = first-short slgs (is_paid days slgs h security) (certificate-first slgs security.1)

pub dates-few : (slgs : Slgs) → IsPaid slgs → length (payment_dates slgs) ≤ 84
dates-few slgs p = omega (arith, p.count, p.few)

slgs_schedule-few : (slgs : Slgs) (closed : Closings) → IsPaid slgs → length (slgs_schedule slgs closed) ≤ 84
unfolding slgs_schedule
slgs_schedule-few slgs closed p = omega (arith, length-map (payment_dates slgs) (payment_on slgs closed), dates-few slgs p)

note_schedule-few : (note : Note) (closed : Closings) → IsNote note → length (market.note_schedule note closed) ≤ 84
unfolding market.note_schedule
note_schedule-few note closed h = omega (arith, length-map (market.payment_dates note) (market.payment_on note closed), notes.dates-few note h)

kind_schedule-few : (days : PaymentDays) (kind : LineKind) → IsSettlement days.settle → IsSecurity days kind → length (kind_schedule days kind) ≤ 84
kind_schedule-few days Cash h security = absurd security
kind_schedule-few days (Security slgs) h security = slgs_schedule-few slgs days.closed (is_paid days slgs h security)
kind_schedule-few days (Market note) h security = note_schedule-few note days.closed security.1

-- a line of securities pays at most 84 times
pub schedule-few : (days : PaymentDays) (line : Line) → IsSettlement days.settle → IsSecurityLine days line → length (schedule_of days line) ≤ 84
schedule-few days line h security = kind_schedule-few days line.kind h security.security

pub slgs_flows-few : (slgs : Slgs) (closed : Closings) (face : ℕ) → IsPaid slgs → length (slgs_flows slgs closed face) ≤ 84
slgs_flows-few slgs closed face p = omega (arith, ap length (payments-by_date slgs closed face), length-map (payment_dates slgs) (paid_on slgs closed face), dates-few slgs p)

pub small-total : (flows : List Flow) → length flows ≤ 84 → AreSmall flows → total flows ≤ 17 * 10 ^ 12
small-total flows few small =
    omega (arith, sum_by-le (λ (flow : Flow). flow.cents.0) (2 * 10 ^ 11) flows small, mul-le-mul_right (2 * 10 ^ 11) few)

-- what a kind pays
abbrev pub kind_flows : PaymentDays → LineKind → ℕ → List Flow
kind_flows days kind amount = flows_by (kind_rate kind) amount (kind_schedule days kind)

kind-within : (days : PaymentDays) (kind : LineKind) (amount : ℕ) → IsSettlement days.settle → IsSecurity days kind → EndsInTime days kind → FallWithinFortyYears days.settle (kind_flows days kind amount)
kind-within days Cash amount h security ends = absurd security
kind-within days (Security slgs) amount h security ends =
    within days slgs (slgs_flows slgs days.closed amount) security ends (payments-within slgs days.closed amount (is_paid days slgs h security))
kind-within days (Market note) face h security ends =
    subst (λ day. FallWithinFortyYears day (note_flows note days.closed face)) security.0
    (notes.payments-within note days.closed face security.1 (subst (λ day. open_day days.closed note.maturity ≤ℤ years_after_of day 40) (sym security.0) ends))

kind-total : (days : PaymentDays) (kind : LineKind) (amount : ℕ) → IsSettlement days.settle → IsSecurity days kind → amount ≤ 10 ^ 11 → total (kind_flows days kind amount) ≤ 17 * 10 ^ 12
kind-total days Cash amount h security few = absurd security
kind-total days (Security slgs) amount h security few =
    let p = is_paid days slgs h security in
    small-total (slgs_flows slgs days.closed amount) (slgs_flows-few slgs days.closed amount p) (payments-small slgs days.closed amount (is_short days slgs h security) few security.2)
kind-total days (Market note) face h security few = omega (arith, notes.payments-little note days.closed face security.1 few)

-- the face once, a first interest, and half coupons
pays-little : (slgs : Slgs) (closed : Closings) (face : ℕ) → IsPaid slgs → IsShort (first_accrual_of slgs) → face ≤ 10 ^ 11 → slgs.rate.0 ≤ 30_000
    → total (slgs_flows slgs closed face) ≤ 134 * 10 ^ 10
pays-little slgs closed face p short few low =
    omega (arith, payments-principal slgs closed face p, interest-sum slgs closed face p short few low)

kind-little : (days : PaymentDays) (kind : LineKind) (amount : ℕ) → IsSettlement days.settle → IsSecurity days kind → amount ≤ 10 ^ 11 → total (kind_flows days kind amount) ≤ 134 * 10 ^ 10
kind-little days Cash amount h security few = absurd security
kind-little days (Security slgs) amount h security few =
    pays-little slgs days.closed amount (is_paid days slgs h security) (is_short days slgs h security) few security.2
kind-little days (Market note) face h security few = omega (arith, notes.payments-little note days.closed face security.1 few)

kind-par : (days : PaymentDays) (kind : LineKind) (amount : ℕ) → IsSettlement days.settle → IsSecurity days kind → amount ≤ total (kind_flows days kind amount)
kind-par days Cash amount h security = absurd security
kind-par days (Security slgs) amount h security =
    omega (arith, payments-principal slgs days.closed amount (is_paid days slgs h security))
kind-par days (Market note) face h security = omega (arith, notes.payments-come-to note days.closed face security.1)

kind-face : (days : PaymentDays) (kind : LineKind) (amount : ℕ) → IsSettlement days.settle → IsSecurity days kind → IsKindWithoutInterest kind → total (kind_flows days kind amount) ≡ kind_cost kind amount
kind-face days Cash amount h security none = absurd security
kind-face days (Security slgs) amount h security none = payments-face slgs days.closed amount (is_paid days slgs h security) (is_short days slgs h security) none
kind-face days (Market note) face h security none = absurd none

-- opening cash is there on the settlement day
cash-flow : (days : PaymentDays) (amount : ℕ) → kind_flows days Cash amount ≡ record { day = days.settle; cents = record { 0 = amount } } ∷ []
cash-flow days amount = (λ i. record { day = days.settle; cents = record { 0 = cents i } } ∷ [])
  where
    cents : earned_of amount 0 1 2 + amount ≡ amount
    cents = omega (arith, near-zero (amount * 0 * 1) 200_000 (omega arith) (omega arith))

pub cash_kind-payments : (days : PaymentDays) (line : Line) (units : ℕ) → line.kind ≡ Cash → line_payments days line units ≡ record { day = days.settle; cents = record { 0 = par line units } } ∷ []
cash_kind-payments days line units is = ap (λ kind. kind_flows days kind (par line units)) is ∙ cash-flow days (par line units)

pub cash-payments : (days : PaymentDays) (line : Line) (units : ℕ) → IsCashLine line → line_payments days line units ≡ record { day = days.settle; cents = record { 0 = par line units } } ∷ []
cash-payments days line units cash = cash_kind-payments days line units cash.kind

-- what units of a line pay
pub line_payments-within : (days : PaymentDays) (line : Line) (units : ℕ) → IsSettlement days.settle → IsLine days line → FallWithinFortyYears days.settle (line_payments days line units)
line_payments-within days line units h is_line = elim is_line [
  | inl cash ↦ subst (FallWithinFortyYears days.settle) (sym (cash-payments days line units cash))
      (All-cons (λ (flow : Flow). (days.settle ≤ℤ flow.day) × (flow.day ≤ℤ years_after_of days.settle 40)) _ [] (omega (arith, ints), omega (arith, ints, forty-years days.settle h))
      (All-nil (λ (flow : Flow). (days.settle ≤ℤ flow.day) × (flow.day ≤ℤ years_after_of days.settle 40))))
  | inr security ↦ kind-within days line.kind (par line units) h security.security security.ends
]

pub line_payments-total : (days : PaymentDays) (line : Line) (units : ℕ) → IsSettlement days.settle → IsLine days line → units ≤ line.most → total (line_payments days line units) ≤ 17 * 10 ^ 12
line_payments-total days line units h is_line few = elim is_line [
  | inl cash ↦ omega (arith, ap total (cash-payments days line units cash), cash_par-at_most line units cash few)
  | inr security ↦ kind-total days line.kind (par line units) h security.security (par-at_most days line units security few)
]

pub line_payments-little : (days : PaymentDays) (line : Line) (units : ℕ) → IsSettlement days.settle → IsSecurityLine days line → units ≤ line.most → total (line_payments days line units) ≤ 134 * 10 ^ 10
line_payments-little days line units h security few = kind-little days line.kind (par line units) h security.security (par-at_most days line units security few)

-- no less than their face
pub line_payments-par : (days : PaymentDays) (line : Line) (units : ℕ) → IsSettlement days.settle → IsSecurityLine days line → par line units ≤ total (line_payments days line units)
line_payments-par days line units h security = kind-par days line.kind (par line units) h security.security

-- and just what they cost without interest
pub line_payments-face : (days : PaymentDays) (line : Line) (units : ℕ) → IsSettlement days.settle → IsSecurityLine days line → IsWithoutInterest line → total (line_payments days line units) ≡ line_cost line units
line_payments-face days line units h security none = kind-face days line.kind (par line units) h security.security none

-- nothing where nothing is bought
pub line_payments-none : (days : PaymentDays) (line : Line) (units : ℕ) → units ≡ 0 → All (λ flow. flow.cents.0 ≡ 0) (line_payments days line units)
line_payments-none days line units none = flows-none (kind_rate line.kind) (par line units) (schedule_of days line) (rw none (omega arith))

-- a security first pays at least 15 days after settlement
le_from_test : (a b : ℤ) → int_le a b ≡ true → a ≤ℤ b
le_from_test a b h = grind (arith, ints)

dates-kept : (slgs : Slgs) → All (λ date. int_le slgs.first date ≡ true) (payment_dates slgs)
unfolding payment_dates
dates-kept slgs = filter_passes (λ date. int_le slgs.first date) _

pub slgs_flows-late : (slgs : Slgs) (closed : Closings) (face : ℕ) → IsPaid slgs → All (λ flow. (slgs.settle +ℤ pos 15) ≤ℤ flow.day) (slgs_flows slgs closed face)
slgs_flows-late slgs closed face p =
    All-same (λ (flow : Flow). (slgs.settle +ℤ pos 15) ≤ℤ flow.day) (slgs_flows slgs closed face) (map (paid_on slgs closed face) (payment_dates slgs)) (payments-by_date slgs closed face)
    (All-map (λ (flow : Flow). (slgs.settle +ℤ pos 15) ≤ℤ flow.day) (paid_on slgs closed face) (payment_dates slgs)
    (All-weaker (λ date. int_le slgs.first date ≡ true) (λ date. (slgs.settle +ℤ pos 15) ≤ℤ open_day closed date)
    (λ date passes.
    let late = le_from_test slgs.first date passes in
    let opens = (open_day-least closed date).from in
    omega (arith, ints, late, opens, p.late)) (payment_dates slgs) (dates-kept slgs)))

-- a SLGS security first pays at least 15 days after settlement, and a note after it
kind-late : (days : PaymentDays) (kind : LineKind) (amount : ℕ) → IsSettlement days.settle → IsSecurity days kind → All (λ flow. days.settle <ℤ flow.day) (kind_flows days kind amount)
kind-late days Cash amount h security = absurd security
kind-late days (Security slgs) amount h security =
    All-weaker (λ (flow : Flow). (slgs.settle +ℤ pos 15) ≤ℤ flow.day) (λ flow. days.settle <ℤ flow.day) (λ flow late. omega (arith, ints, late, security.0))
    (slgs_flows slgs days.closed amount) (slgs_flows-late slgs days.closed amount (is_paid days slgs h security))
kind-late days (Market note) face h security =
    All-weaker (λ (flow : Flow). note.settle <ℤ flow.day) (λ flow. days.settle <ℤ flow.day) (λ flow late. omega (arith, ints, late, security.0))
    (note_flows note days.closed face) (notes.payments-later note days.closed face security.1)

pub line_payments-late : (days : PaymentDays) (line : Line) (units : ℕ) → IsSettlement days.settle → IsSecurityLine days line → All (λ flow. days.settle <ℤ flow.day) (line_payments days line units)
line_payments-late days line units h security = kind-late days line.kind (par line units) h security.security

-- a line's rate is at most 30 percent
kind-low : (days : PaymentDays) (kind : LineKind) → IsSecurity days kind → kind_rate kind ≤ 30_000
kind-low days Cash h = absurd h
kind-low days (Security slgs) h = h.2
kind-low days (Market note) h = h.1.coupon

pub rate-low : (days : PaymentDays) (line : Line) → IsLine days line → kind_rate line.kind ≤ 30_000
rate-low days line (inl cash) = subst (λ kind. kind_rate kind ≤ 30_000) (sym cash.kind) (omega arith)
rate-low days line (inr security) = kind-low days line.kind security.security

-- and a unit at most a million dollars at par
pub step-at_most : (days : PaymentDays) (line : Line) → IsLine days line → line.step ≤ 10 ^ 8
step-at_most days line (inl cash) = omega (arith, cash.step)
step-at_most days line (inr security) = security.step_at_most
