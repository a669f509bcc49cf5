-- What the payments of a security are.
use Rattle.std.specs.Prelude.{All}
use Rattle.std.proofs.Common.{◌≡◌, ◌∙◌, ℕ, ◌+◌, ◌*◌, ◌<◌, ◌≤◌, zero, suc, refl, sym, ap, subst, arith, ℤ, ◌≤ℤ◌, ◌<ℤ◌, Bool, true, false, if◌then◌else◌, List, [], ◌∷◌, ◌++◌, ◌-◌, map, length, take, sum_by, get_or, pos, ◌+ℤ◌, ◌^◌, int_lt}
use Rattle.std.proofs.lemmas.Int.{ints}
use Rattle.escrow_units.proofs.FlowFacts.{choice-false, choice-true, days_between_of-some, days_between_of-whole, int_lt-not, order-map}
use Rattle.escrow_units.proofs.SeriesFacts.{half_back_of-falls}
use Rattle.escrow_units.proofs.LastDates.{last_dates, last_dates-all, last_dates-last, last_dates-rise, length-last_dates, dates_before, half_back_of-order, half_back_of-reach, half_back_of-zero}
use Rattle.escrow_units.specs.Flows.{ComeInOrder, EndsOn, FallOnOpenDays, total}
use Rattle.escrow_units.specs.OpenDays.{Closings, IsBy2190, is_closed, no_closings, open_day}
use Rattle.escrow_units.proofs.OpenDayFacts.{open_day-least, open_day-order}
use Rattle.escrow_units.specs.Interest.{earned_of, half_coupon_of}
use Rattle.escrow_units.specs.Series.{days_between_of}
use Rattle.std.specs.Ordering.{int_eq}
use Rattle.std.proofs.lemmas.Bool.Decides.{Decides-int_eq}
use Rattle.std.proofs.lemmas.List.{length-map, map-append, take_all}
use Rattle.std.proofs.Math.Nat.{mul-le-mul_right}
use Rattle.std.proofs.lemmas.List.Elements.{All-head, All-map, All-same, All-weaker}
use Rattle.std.proofs.lemmas.List.Sums.{sum_by-cons, sum_by-le}
use Rattle.std.proofs.lemmas.Simd.{map-map}
use Rattle.jiff_core.proofs.SignedLemmas.{signed_arith}
use Rattle.escrow_units.specs.Calendar.{half_back_of}
use Rattle.escrow_units.specs.declared.interest.Accrual.{Accrual}
use Rattle.escrow_units.specs.declared.security.Flow.{Flow}
use Rattle.escrow_units.specs.declared.security.Slgs.{Slgs}
use Rattle.escrow_units.specs.declared.security.SlgsKind.{SlgsKind}
use Rattle.escrow_units.specs.declared.security.SlgsKind.TheVariants as kind
use Rattle.escrow_units.specs.declared.security.StepRule.TheVariants as rule
use Rattle.payment_schedule.specs.Schedule.{IsShort, flow_by, half_year_accrual, interest_by, principal_by}
use Rattle.payment_schedule.specs.declared.schedule.ScheduledPayment.{ScheduledPayment}
use Rattle.payment_schedule.proofs.ScheduleFacts.{each-flow, flows_by, half-coupon, half-short}
use Rattle.slgs_interest.specs.Payments.{payment_dates, payment_on, slgs_schedule, first_accrual_of, first_period_accrual, certificate_accrual, accrual_of_kind, before_first, second_before_first, has_leap_day, basis_of}
use Rattle.slgs_interest.specs.PaymentLaws.{AreSmall, EarnLittle, AreWithinTerm, KeepAmounts, PayPrincipalOnce, PayFaceAlone, PayEqualInterest}
use Rattle.slgs_interest.proofs.Amounts.{half-at-most, interest-at-most, no-interest, whole-period}
use Rattle.slgs_interest.proofs.Series.{IsPaid}

-- what a face pays, and on a date
abbrev pub slgs_flows : Slgs → Closings → ℕ → List Flow
slgs_flows slgs closed face = flows_by slgs.rate.0 face (slgs_schedule slgs closed)

abbrev pub paid_on : Slgs → Closings → ℕ → ℤ → Flow
paid_on slgs closed face date = flow_by slgs.rate.0 face (payment_on slgs closed date)

-- what a walk over the dates makes
pub schedule-is : (slgs : Slgs) (closed : Closings) (schedule : List ScheduledPayment) (i : ℕ) (dates : List ℤ) → schedule ≡ map (payment_on slgs closed) (take i dates)
    → length dates ≤ i → dates ≡ payment_dates slgs → schedule ≡ slgs_schedule slgs closed
unfolding slgs_schedule
schedule-is slgs closed schedule i dates e all f = e ∙ ap (map (payment_on slgs closed)) (take_all i dates all ∙ f)

schedule-series : (slgs : Slgs) (closed : Closings) (p : IsPaid slgs) → slgs_schedule slgs closed ≡ map (payment_on slgs closed) (last_dates slgs.maturity rule.SameDay (p.steps + 1))
unfolding slgs_schedule
schedule-series slgs closed p = ap (map (payment_on slgs closed)) p.dates

-- what is paid, by the dates
pub payments-by_date : (slgs : Slgs) (closed : Closings) (face : ℕ) → slgs_flows slgs closed face ≡ map (paid_on slgs closed face) (payment_dates slgs)
unfolding slgs_schedule
payments-by_date slgs closed face = map-map (flow_by slgs.rate.0 face) (payment_on slgs closed) (payment_dates slgs)

payments-series : (slgs : Slgs) (closed : Closings) (face : ℕ) (p : IsPaid slgs) → slgs_flows slgs closed face ≡ map (paid_on slgs closed face) (last_dates slgs.maturity rule.SameDay (p.steps + 1))
payments-series slgs closed face p = payments-by_date slgs closed face ∙ ap (map (paid_on slgs closed face)) p.dates

pub payments-order : (slgs : Slgs) (closed : Closings) (face : ℕ) → IsPaid slgs → ComeInOrder (slgs_flows slgs closed face)
payments-order slgs closed face p =
    subst ComeInOrder (sym (payments-series slgs closed face p))
    (order-map (open_day closed) (paid_on slgs closed face) (open_day-order closed) (λ day. refl) (last_dates slgs.maturity rule.SameDay (p.steps + 1))
    (last_dates-rise slgs.maturity rule.SameDay (p.steps + 1) p.base (omega (arith, p.few))))

-- none on a closed day
pub payments-open : (slgs : Slgs) (closed : Closings) (face : ℕ) → FallOnOpenDays closed (slgs_flows slgs closed face)
payments-open slgs closed face =
    All-same (λ (flow : Flow). is_closed closed flow.day ≡ false) (slgs_flows slgs closed face) (map (paid_on slgs closed face) (payment_dates slgs)) (payments-by_date slgs closed face)
    (All-map (λ (flow : Flow). is_closed closed flow.day ≡ false) (paid_on slgs closed face) (payment_dates slgs)
    (λ k d lt. (open_day-least closed (get_or (payment_dates slgs) k d)).is_open))

-- and the same amounts whichever days are closed
amounts-by_date : (slgs : Slgs) (closed : Closings) (face : ℕ)
    → map (λ (flow : Flow). flow.cents.0) (slgs_flows slgs closed face) ≡ map (λ (date : ℤ). (paid_on slgs closed face date).cents.0) (payment_dates slgs)
amounts-by_date slgs closed face =
    ap (map (λ (flow : Flow). flow.cents.0)) (payments-by_date slgs closed face)
    ∙ map-map (λ (flow : Flow). flow.cents.0) (paid_on slgs closed face) (payment_dates slgs)

pub payments-amounts : (slgs : Slgs) (closed : Closings) (face : ℕ) → KeepAmounts slgs face (slgs_flows slgs closed face)
payments-amounts slgs closed face = amounts-by_date slgs closed face ∙ sym (amounts-by_date slgs no_closings face)

pub payments-end : (slgs : Slgs) (closed : Closings) (face : ℕ) → IsPaid slgs → EndsOn (open_day closed slgs.maturity) (slgs_flows slgs closed face)
payments-end slgs closed face p =
    let less : p.steps + 1 - 1 ≡ p.steps = omega arith in
    let last : last_dates slgs.maturity rule.SameDay (p.steps + 1) ≡ dates_before slgs.maturity rule.SameDay p.steps ++ slgs.maturity ∷ [] =
    rw less at (last_dates-last slgs.maturity rule.SameDay (p.steps + 1) p.base (omega arith)) in
    record {
      before = map (paid_on slgs closed face) (dates_before slgs.maturity rule.SameDay p.steps);
      last = paid_on slgs closed face slgs.maturity;
      order = payments-series slgs closed face p
          ∙ (ap (map (paid_on slgs closed face)) last ∙ map-append (paid_on slgs closed face) (dates_before slgs.maturity rule.SameDay p.steps) (slgs.maturity ∷ []));
      falls = refl;
    }

-- the dates lie after settlement and up to maturity
dates-within : (slgs : Slgs) (p : IsPaid slgs) → All (λ date. (slgs.settle <ℤ date) × (date ≤ℤ slgs.maturity)) (last_dates slgs.maturity rule.SameDay (p.steps + 1))
dates-within slgs p =
    last_dates-all (λ date. (slgs.settle <ℤ date) × (date ≤ℤ slgs.maturity)) slgs.maturity rule.SameDay (p.steps + 1) (λ j less.
    let late = half_back_of-order slgs.maturity rule.SameDay j p.steps p.base (omega arith) (omega (arith, p.few)) in
    let reach = half_back_of-reach slgs.maturity rule.SameDay j p.base (omega (arith, p.few)) in
    (omega (arith, signed_arith, p.late, p.first, late), omega (arith, signed_arith, reach)))

pub dates-by : (slgs : Slgs) (p : IsPaid slgs) → All IsBy2190 (payment_dates slgs)
dates-by slgs p =
    subst (All IsBy2190) (sym p.dates)
    (All-weaker (λ date. (slgs.settle <ℤ date) × (date ≤ℤ slgs.maturity)) IsBy2190
    (λ date within. omega (arith, signed_arith, within.1, p.base.1)) (last_dates slgs.maturity rule.SameDay (p.steps + 1)) (dates-within slgs p))

pub payments-within : (slgs : Slgs) (closed : Closings) (face : ℕ) → IsPaid slgs → AreWithinTerm slgs closed (slgs_flows slgs closed face)
payments-within slgs closed face p =
    let dates = last_dates slgs.maturity rule.SameDay (p.steps + 1) in
    All-same (λ (flow : Flow). (slgs.settle <ℤ flow.day) × (flow.day ≤ℤ open_day closed slgs.maturity)) (slgs_flows slgs closed face) (map (paid_on slgs closed face) dates) (payments-series slgs closed face p)
    (All-map (λ (flow : Flow). (slgs.settle <ℤ flow.day) × (flow.day ≤ℤ open_day closed slgs.maturity)) (paid_on slgs closed face) dates
    (λ k d lt.
    let date = get_or dates k d in
    let within = dates-within slgs p k d lt in
    (omega (arith, signed_arith, within.0, (open_day-least closed date).from), open_day-order closed date slgs.maturity within.1)))

-- flows of interest and principal
flow_of : (ScheduledPayment → ℕ) → (ScheduledPayment → ℕ) → ScheduledPayment → Flow
flow_of interest principal payment = record { day = payment.day; cents = record { 0 = interest payment + principal payment } }

cents_of : Flow → ℕ
cents_of flow = flow.cents.0

-- where the principal falls at maturity alone, it is paid once
principal-sum : (interest principal : ScheduledPayment → ℕ) (payment : ℤ → ScheduledPayment) (face : ℕ) (maturity : ℤ) (k : ℕ)
    → principal (payment (half_back_of maturity 0 rule.SameDay)) ≡ face
    → ((j : ℕ) → 1 ≤ j → j ≤ k → principal (payment (half_back_of maturity j rule.SameDay)) ≡ 0)
    → sum_by cents_of (map (flow_of interest principal) (map payment (last_dates maturity rule.SameDay (suc k))))
    ≡ face + sum_by interest (map payment (last_dates maturity rule.SameDay (suc k)))
unfolding last_dates flow_of cents_of
principal-sum interest principal payment face maturity zero last none =
    let due = payment (half_back_of maturity 0 rule.SameDay) in
    omega (arith, sum_by-cons cents_of (flow_of interest principal due) [], sum_by-cons interest due [], last)
principal-sum interest principal payment face maturity (suc k) last none =
    let due = payment (half_back_of maturity (suc k) rule.SameDay) in
    let rest = principal-sum interest principal payment face maturity k last (λ j some few. none j some (omega arith)) in
    omega (
      arith,
      sum_by-cons cents_of (flow_of interest principal due) (map (flow_of interest principal) (map payment (last_dates maturity rule.SameDay (suc k)))),
      sum_by-cons interest due (map payment (last_dates maturity rule.SameDay (suc k))),
      rest,
      none (suc k) (omega arith) (omega arith),
    )

pub payments-principal : (slgs : Slgs) (closed : Closings) (face : ℕ) → IsPaid slgs → PayPrincipalOnce slgs closed face (slgs_flows slgs closed face)
unfolding flow_of cents_of
payments-principal slgs closed face p =
    let more : p.steps + 1 ≡ suc p.steps = omega arith in
    let series : slgs_schedule slgs closed ≡ map (payment_on slgs closed) (last_dates slgs.maturity rule.SameDay (suc p.steps)) =
    schedule-series slgs closed p ∙ ap (λ (n : ℕ). map (payment_on slgs closed) (last_dates slgs.maturity rule.SameDay n)) more in
    subst (λ (schedule : List ScheduledPayment). total (flows_by slgs.rate.0 face schedule) ≡ face + sum_by (interest_by slgs.rate.0 face) schedule) (sym series)
    (principal-sum (interest_by slgs.rate.0 face) (λ payment. principal_by payment face) (payment_on slgs closed) face slgs.maturity p.steps
    (choice-true (int_eq (half_back_of slgs.maturity 0 rule.SameDay) slgs.maturity) face 0 ((Decides-int_eq (half_back_of slgs.maturity 0 rule.SameDay) slgs.maturity).1 (half_back_of-zero slgs.maturity rule.SameDay p.base)))
    (λ j some few.
    let reach = half_back_of-reach slgs.maturity rule.SameDay j p.base (omega (arith, p.few)) in
    choice-false (int_eq (half_back_of slgs.maturity j rule.SameDay) slgs.maturity) face 0
    (λ t. omega (arith, signed_arith, reach, (Decides-int_eq (half_back_of slgs.maturity j rule.SameDay) slgs.maturity).0 t))))

-- the first accrual is of at most sixteen months
basis-least : (settle maturity : ℤ) → 365 ≤ basis_of settle maturity
basis-least settle maturity = at (has_leap_day settle (days_between_of settle maturity))
  where
    at : (t : Bool) → 365 ≤ (if t then 366 else 365)
    at true = omega arith
    at false = omega arith

pub first-short : (slgs : Slgs) → IsPaid slgs → (slgs.kind ≡ kind.Certificate → slgs.first ≡ slgs.maturity) → IsShort (first_accrual_of slgs)
unfolding first_accrual_of
first-short slgs p same = at slgs.kind same
  where
    before : before_first slgs +ℤ pos (days_between_of (before_first slgs) slgs.first) ≡ slgs.first
    before = days_between_of-whole (before_first slgs) slgs.first (omega (arith, signed_arith, p.before.least))

    second : second_before_first slgs +ℤ pos (days_between_of (second_before_first slgs) (before_first slgs)) ≡ before_first slgs
    second = days_between_of-whole (second_before_first slgs) (before_first slgs) (omega (arith, signed_arith, p.second_before.least))

    term : slgs.settle +ℤ pos (days_between_of slgs.settle slgs.first) ≡ slgs.first
    term = days_between_of-whole slgs.settle slgs.first (omega (arith, signed_arith, p.late))

    of_period : (t : Bool) → int_lt slgs.settle (before_first slgs) ≡ t
        → IsShort (if t
        then record { parts = days_between_of (second_before_first slgs) (before_first slgs) + days_between_of slgs.settle (before_first slgs); year = 2 * days_between_of (second_before_first slgs) (before_first slgs) }
        else record { parts = days_between_of slgs.settle slgs.first; year = 2 * days_between_of (before_first slgs) slgs.first })
    of_period true e =
        let less : slgs.settle <ℤ before_first slgs = omega (arith, ints) in
        let days = days_between_of-whole slgs.settle (before_first slgs) (omega (arith, signed_arith, less)) in
        record {
          year = omega (arith, signed_arith, second, p.second_before.least);
          parts = omega (arith, signed_arith, second, days, p.second_before.least, p.second_before.most, p.before.least, p.early);
          days = omega (arith, signed_arith, second, days, p.second_before.least, p.second_before.most, p.before.least, p.early);
        }
    of_period false e = record {
      year = omega (arith, signed_arith, before, p.before.least);
      parts = omega (arith, signed_arith, before, term, p.before.least, p.early);
      days = omega (arith, signed_arith, before, term, p.before.least, p.early);
    }

    at : (k : SlgsKind) → (k ≡ kind.Certificate → slgs.first ≡ slgs.maturity) → IsShort (accrual_of_kind k slgs)
    at kind.Certificate same =
        let e : days_between_of slgs.settle slgs.maturity ≡ days_between_of slgs.settle slgs.first = ap (λ (day : ℤ). days_between_of slgs.settle day) (sym (same refl)) in
        record {
          year = omega (arith, basis-least slgs.settle slgs.maturity);
          parts = omega (arith, signed_arith, e, term, p.early, basis-least slgs.settle slgs.maturity);
          days = omega (arith, signed_arith, e, term, p.early);
        }
    at kind.Note same = of_period (int_lt slgs.settle (before_first slgs)) refl
    at kind.Bond same = of_period (int_lt slgs.settle (before_first slgs)) refl

-- the first accrual, by kind
pub first-of_certificate : (slgs : Slgs) → slgs.kind ≡ kind.Certificate → certificate_accrual slgs ≡ first_accrual_of slgs
unfolding first_accrual_of
first-of_certificate slgs e = ap (λ k. accrual_of_kind k slgs) (sym e)

pub first-of_period : (slgs : Slgs) → ¬ (slgs.kind ≡ kind.Certificate) → first_period_accrual slgs ≡ first_accrual_of slgs
unfolding first_accrual_of
first-of_period slgs other = at slgs.kind other
  where
    at : (k : SlgsKind) → ¬ (k ≡ kind.Certificate) → first_period_accrual slgs ≡ accrual_of_kind k slgs
    at kind.Certificate other = absurd (other refl)
    at kind.Note other = refl
    at kind.Bond other = refl

-- each payment's interest is for at most sixteen months
pub schedule-short : (slgs : Slgs) (closed : Closings) → IsShort (first_accrual_of slgs) → All (λ payment. IsShort payment.accrual) (slgs_schedule slgs closed)
unfolding slgs_schedule
schedule-short slgs closed first =
    All-map (λ (payment : ScheduledPayment). IsShort payment.accrual) (payment_on slgs closed) (payment_dates slgs) (λ k d lt. at (int_eq (get_or (payment_dates slgs) k d) slgs.first))
  where
    at : (t : Bool) → IsShort (if t then first_accrual_of slgs else half_year_accrual)
    at true = first
    at false = half-short

-- no interest without a rate
interest-none : (slgs : Slgs) (closed : Closings) (face : ℕ) → IsShort (first_accrual_of slgs) → slgs.rate.0 ≡ 0 → All (λ payment. interest_by slgs.rate.0 face payment ≤ 0) (slgs_schedule slgs closed)
interest-none slgs closed face first none = λ k d lt.
    let payment = get_or (slgs_schedule slgs closed) k d in
    omega (arith, no-interest face slgs.rate.0 payment.accrual.parts payment.accrual.year none (schedule-short slgs closed first k d lt).year)

pub payments-face : (slgs : Slgs) (closed : Closings) (face : ℕ) → IsPaid slgs → IsShort (first_accrual_of slgs) → PayFaceAlone slgs face (slgs_flows slgs closed face)
payments-face slgs closed face p short = λ none.
    omega (
      arith,
      payments-principal slgs closed face p,
      sum_by-le (interest_by slgs.rate.0 face) 0 (slgs_schedule slgs closed) (interest-none slgs closed face short none),
    )

-- equal interest
first-whole : (slgs : Slgs) (face : ℕ) → IsPaid slgs → ¬ (slgs.kind ≡ kind.Certificate) → slgs.settle ≡ before_first slgs
    → earned_of face slgs.rate.0 (first_accrual_of slgs).parts (first_accrual_of slgs).year ≡ half_coupon_of face slgs.rate.0
unfolding first_accrual_of
first-whole slgs face p other e = at slgs.kind other
  where
    half : ℕ
    half = days_between_of slgs.settle slgs.first

    some : 0 < half
    some = days_between_of-some slgs.settle slgs.first (omega (arith, signed_arith, p.late))

    of_period : first_period_accrual slgs ≡ record { parts = half; year = 2 * half }
    of_period =
        let least : before_first slgs ≤ℤ slgs.settle = omega (arith, signed_arith, e) in
        rw (int_lt-not slgs.settle (before_first slgs) least)
        (ap (λ (day : ℤ). record { parts = half; year = 2 * days_between_of day slgs.first }) (sym e))

    earns : (accrual : Accrual) → accrual ≡ record { parts = half; year = 2 * half } → earned_of face slgs.rate.0 accrual.parts accrual.year ≡ half_coupon_of face slgs.rate.0
    earns accrual is = rw is (whole-period face slgs.rate.0 half some)

    at : (k : SlgsKind) → ¬ (k ≡ kind.Certificate) → earned_of face slgs.rate.0 (accrual_of_kind k slgs).parts (accrual_of_kind k slgs).year ≡ half_coupon_of face slgs.rate.0
    at kind.Certificate other = absurd (other refl)
    at kind.Note other = earns (first_period_accrual slgs) of_period
    at kind.Bond other = earns (first_period_accrual slgs) of_period

interest-equal : (slgs : Slgs) (closed : Closings) (face : ℕ) (date : ℤ) → earned_of face slgs.rate.0 (first_accrual_of slgs).parts (first_accrual_of slgs).year ≡ half_coupon_of face slgs.rate.0
    → interest_by slgs.rate.0 face (payment_on slgs closed date) ≡ half_coupon_of face slgs.rate.0
interest-equal slgs closed face date first = at (int_eq date slgs.first)
  where
    at : (t : Bool) → earned_of face slgs.rate.0 (if t then first_accrual_of slgs else half_year_accrual).parts (if t then first_accrual_of slgs else half_year_accrual).year
        ≡ half_coupon_of face slgs.rate.0
    at true = first
    at false = half-coupon face slgs.rate.0

all-equal : (slgs : Slgs) (closed : Closings) (face : ℕ) → earned_of face slgs.rate.0 (first_accrual_of slgs).parts (first_accrual_of slgs).year ≡ half_coupon_of face slgs.rate.0
    → All (λ payment. (flow_by slgs.rate.0 face payment).cents.0 ≡ half_coupon_of face slgs.rate.0 + principal_by payment face) (slgs_schedule slgs closed)
unfolding slgs_schedule
all-equal slgs closed face first =
    All-map (λ (payment : ScheduledPayment). (flow_by slgs.rate.0 face payment).cents.0 ≡ half_coupon_of face slgs.rate.0 + principal_by payment face) (payment_on slgs closed) (payment_dates slgs)
    (λ k d lt.
    let date = get_or (payment_dates slgs) k d in
    ap (λ (n : ℕ). n + principal_by (payment_on slgs closed date) face) (interest-equal slgs closed face date first))

pub payments-equal : (slgs : Slgs) (closed : Closings) (face : ℕ) → IsPaid slgs → PayEqualInterest slgs closed face (slgs_flows slgs closed face)
payments-equal slgs closed face p = λ other e.
    each-flow (λ payment flow. flow.cents.0 ≡ half_coupon_of face slgs.rate.0 + principal_by payment face) slgs.rate.0 face (slgs_schedule slgs closed)
    (all-equal slgs closed face (first-whole slgs face p other e))

-- no interest is above 400 million dollars
pub interest-little : (slgs : Slgs) (closed : Closings) (face : ℕ) → IsShort (first_accrual_of slgs) → face ≤ 10 ^ 11 → slgs.rate.0 ≤ 30_000
    → All (λ payment. interest_by slgs.rate.0 face payment ≤ 4 * 10 ^ 10) (slgs_schedule slgs closed)
interest-little slgs closed face first f r = λ k d lt.
    let short = schedule-short slgs closed first k d lt in
    let payment = get_or (slgs_schedule slgs closed) k d in
    interest-at-most face slgs.rate.0 payment.accrual.parts payment.accrual.year f r short.year short.parts

-- after the first payment it is half a coupon, at most 150 million dollars
interest-later : (slgs : Slgs) (closed : Closings) (face : ℕ) (date : ℤ) → face ≤ 10 ^ 11 → slgs.rate.0 ≤ 30_000 → slgs.first <ℤ date
    → interest_by slgs.rate.0 face (payment_on slgs closed date) ≤ 15 * 10 ^ 9
interest-later slgs closed face date f r later = at (int_eq date slgs.first) refl
  where
    at : (t : Bool) → int_eq date slgs.first ≡ t
        → earned_of face slgs.rate.0 (if t then first_accrual_of slgs else half_year_accrual).parts (if t then first_accrual_of slgs else half_year_accrual).year ≤ 15 * 10 ^ 9
    at true e = absurd (omega (arith, signed_arith, later, (Decides-int_eq date slgs.first).0 e))
    at false e = half-at-most face slgs.rate.0 f r

-- all interest together: the first and at most 80 half coupons
pub interest-sum : (slgs : Slgs) (closed : Closings) (face : ℕ) → IsPaid slgs → IsShort (first_accrual_of slgs) → face ≤ 10 ^ 11 → slgs.rate.0 ≤ 30_000
    → sum_by (interest_by slgs.rate.0 face) (slgs_schedule slgs closed) ≤ 124 * 10 ^ 10
unfolding last_dates
interest-sum slgs closed face p short f r =
    let interest : ScheduledPayment → ℕ = interest_by slgs.rate.0 face in
    let payment : ℤ → ScheduledPayment = payment_on slgs closed in
    let dates : List ℤ = last_dates slgs.maturity rule.SameDay p.steps in
    let first : ℤ = half_back_of slgs.maturity p.steps rule.SameDay in
    let more : p.steps + 1 ≡ suc p.steps = omega arith in
    let series : slgs_schedule slgs closed ≡ payment first ∷ map payment dates =
    schedule-series slgs closed p ∙ ap (λ (n : ℕ). map payment (last_dates slgs.maturity rule.SameDay n)) more in
    let little : All (λ payment. interest payment ≤ 4 * 10 ^ 10) (payment first ∷ map payment dates) =
    subst (All (λ payment. interest payment ≤ 4 * 10 ^ 10)) series (interest-little slgs closed face short f r) in
    let each = last_dates-all (λ date. interest (payment date) ≤ 15 * 10 ^ 9) slgs.maturity rule.SameDay p.steps (λ j less.
    interest-later slgs closed face (half_back_of slgs.maturity j rule.SameDay) f r
    (omega (arith, signed_arith, p.first, half_back_of-falls slgs.maturity rule.SameDay j p.steps p.base less (omega (arith, p.few))))) in
    let rest = sum_by-le interest (15 * 10 ^ 9) (map payment dates) (All-map (λ payment. interest payment ≤ 15 * 10 ^ 9) payment dates each) in
    let count : length (map payment dates) ≤ 80 = omega (arith, length-map dates payment, length-last_dates slgs.maturity rule.SameDay p.steps, p.few) in
    omega (
      arith,
      ap (sum_by interest) series,
      sum_by-cons interest (payment first) (map payment dates),
      All-head (λ payment. interest payment ≤ 4 * 10 ^ 10) (payment first) (map payment dates) little,
      rest,
      mul-le-mul_right (15 * 10 ^ 9) count,
    )

pub payments-interest : (slgs : Slgs) (closed : Closings) (face : ℕ) → IsShort (first_accrual_of slgs) → face ≤ 10 ^ 11 → slgs.rate.0 ≤ 30_000
    → EarnLittle slgs closed face (slgs_flows slgs closed face)
payments-interest slgs closed face short f r =
    each-flow (λ payment flow. flow.cents.0 ≤ 4 * 10 ^ 10 + principal_by payment face) slgs.rate.0 face (slgs_schedule slgs closed)
    (λ k d lt. more _ _ (interest-little slgs closed face short f r k d lt))
  where
    more : (m n : ℕ) → m ≤ 4 * 10 ^ 10 → m + n ≤ 4 * 10 ^ 10 + n
    more m n a = omega arith

-- and no principal above the greatest face
pub payments-small : (slgs : Slgs) (closed : Closings) (face : ℕ) → IsShort (first_accrual_of slgs) → face ≤ 10 ^ 11 → slgs.rate.0 ≤ 30_000
    → AreSmall (slgs_flows slgs closed face)
payments-small slgs closed face short f r =
    All-map (λ (flow : Flow). flow.cents.0 ≤ 2 * 10 ^ 11) (flow_by slgs.rate.0 face) (slgs_schedule slgs closed)
    (λ k d lt. sum_at_most _ _ (interest-little slgs closed face short f r k d lt) (choice-most (get_or (slgs_schedule slgs closed) k d).principal face 0 (10 ^ 11) f (omega arith)))
  where
    choice-most : (t : Bool) (a b c : ℕ) → a ≤ c → b ≤ c → (if t then a else b) ≤ c
    choice-most true a b c e f = e
    choice-most false a b c e f = f

    sum_at_most : (m n : ℕ) → m ≤ 4 * 10 ^ 10 → n ≤ 10 ^ 11 → m + n ≤ 2 * 10 ^ 11
    sum_at_most m n a b = omega arith
