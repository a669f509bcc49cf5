-- Coefficients enclose what units cost and pay.
use Rattle.std.proofs.Common.{◌≡◌, ◌∙◌, sym, subst, ℕ, ◌+◌, ◌*◌, ◌/◌, ◌^◌, ◌<◌, ◌≤◌, refl, ap, arith, inl, inr, List, [], ◌∷◌, map, Bool, true, false, if◌then◌else◌}
use Rattle.std.specs.Int.{div_ceil}
use Rattle.std.specs.List.{AllZip}
use Rattle.std.proofs.Math.Nat.{div-eq_of_lt, mul-div-le, mul-le-mul_left, mul-le-mul_right}
use Rattle.std.proofs.lemmas.Bool.{cases_lt}
use Rattle.std.proofs.lemmas.Bool.Decides.{nat_tests}
use Rattle.std.specs.Prelude.{All, ◌==◌}
use Rattle.std.proofs.lemmas.Grind.{div_ceil_times}
use Rattle.std.proofs.lemmas.List.Elements.{All-head, All-tail}
use Rattle.escrow_units.specs.Interest.{earned_of, face_price_of}
use Rattle.escrow_units.specs.Rounding.{near, IsNearest}
use Rattle.escrow_units.specs.SlgsTerms.{IsSettlement}
use Rattle.escrow_units.specs.declared.interest.Accrual.{Accrual}
use Rattle.escrow_units.proofs.RoundingFacts.{near-IsNearest, near-zero}
use Rattle.market_notes.specs.NoteFlows as notes
use Rattle.market_notes.specs.NoteTerms.{IsNote}
use Rattle.market_notes.specs.declared.note.Note.{Note}
use Rattle.market_notes.proofs.AmountFacts.{accrual-some}
use Rattle.payment_schedule.specs.Schedule.{IsShort, flow_by, principal_by}
use Rattle.payment_schedule.specs.declared.schedule.ScheduledPayment.{ScheduledPayment}
use Rattle.offer_book.specs.Book.{IsLine, IsSecurity}
use Rattle.offer_book.specs.Coefficients.{Encloses, EnclosesPayment, EnclosesUnits, interest_high, interest_low, interest_slack, kind_costs, pay_by}
use Rattle.offer_book.specs.Portfolio.{kind_cost, par}
use Rattle.offer_book.specs.Schedule.{kind_rate, schedule_of}
use Rattle.offer_book.specs.declared.coefficients.TheConstants.{COEFFICIENT_SCALE}
use Rattle.offer_book.specs.declared.line.Line.{Line}
use Rattle.offer_book.specs.declared.line.LineKind.{LineKind}
use Rattle.offer_book.specs.declared.line.LineKind.TheVariants.{Cash, Market, Security}
use Rattle.payment_schedule.proofs.ScheduleFacts.{flows_by}
use Rattle.offer_book.proofs.ScheduleFacts.{schedule-short}
use Rattle.offer_book.specs.declared.payment_days.PaymentDays.{PaymentDays}

-- a factor above 0 of both sides
cancel : (b m n : ℕ) → 0 < b → b * m ≤ b * n → m ≤ n
cancel b m n some h = elim (cases_lt n m) [
  | inl more ↦ absurd (omega (arith, h, mul-le-mul_left b more))
  | inr at_most ↦ at_most
]

-- a rounded quotient, enclosed by half a cent
record AreHalves (scale low high units n : ℕ) : Type 0 where
  least : 2 * (low * units) ≤ 2 * (scale * n) + scale
  most : 2 * (scale * n) ≤ 2 * (high * units) + scale

halves : (scale a b low high units n : ℕ) → 0 < b → IsNearest (a * units) b n → low * b ≤ scale * a → scale * a ≤ high * b → AreHalves scale low high units n
halves scale a b low high units n some nearest down up =
    let below : 2 * (a * units) ≤ 2 * b * n + b = omega (arith, nearest.below) in
    let above = nearest.above in
    let scaled_below : scale * (2 * (a * units)) ≤ scale * (2 * b * n + b) = mul-le-mul_left scale below in
    let scaled_above : scale * (2 * b * n) ≤ scale * (2 * (a * units) + b) = mul-le-mul_left scale above in
    let low_units : low * b * units ≤ scale * a * units = mul-le-mul_right units down in
    let high_units : scale * a * units ≤ high * b * units = mul-le-mul_right units up in
    record {
      least = cancel b _ _ some (omega (arith, scaled_below, low_units));
      most = cancel b _ _ some (omega (arith, scaled_above, high_units));
    }

-- the scale times a quotient, rounded down and up
down : (a b : ℕ) → a / b * b ≤ a
down a b = omega (arith, mul-div-le a b)

up : (a b : ℕ) → 0 < b → a ≤ div_ceil a b * b
up a b some = (div_ceil_times a b some).0

rounded : (a b units n : ℕ) → 0 < b → n ≡ near (a * units) b → AreHalves COEFFICIENT_SCALE (COEFFICIENT_SCALE * a / b) (div_ceil (COEFFICIENT_SCALE * a) b) units n
rounded a b units n some e =
    halves COEFFICIENT_SCALE a b _ _ units n some (rw e (near-IsNearest (a * units) b some)) (down (COEFFICIENT_SCALE * a) b) (up (COEFFICIENT_SCALE * a) b some)

-- interest of an accrual on the face of so many steps
EnclosesInterest : ℕ → ℕ → Accrual → ℕ → ℕ → Type 0
EnclosesInterest step rate accrual units n =
    Encloses (record { low = interest_low step rate accrual; high = interest_high step rate accrual; slack = interest_slack rate }) units n

-- a rate of nothing earns nothing
earns-nothing : (step rate parts units b : ℕ) → rate ≡ 0 → 0 < b → near (step * rate * parts * units) b ≡ 0
earns-nothing step rate parts units b none some = near-zero _ b (rw none (omega arith)) some

none-of : (a b : ℕ) → a ≡ 0 → 0 < b → a / b ≡ 0
none-of a b none some = div-eq_of_lt (omega arith)

by-halves : (step : ℕ) (rate : ℕ) (accrual : Accrual) (units n : ℕ) → AreHalves COEFFICIENT_SCALE (interest_low step rate accrual) (interest_high step rate accrual) units n
    → n ≡ near (step * rate * accrual.parts * units) (100_000 * accrual.year) → 0 < accrual.year → EnclosesInterest step rate accrual units n
unfolding EnclosesInterest
by-halves step rate accrual units n half e some = at (rate == 0) refl
  where
    at : (t : Bool) → (rate == 0) ≡ t
        → Encloses (record { low = interest_low step rate accrual; high = interest_high step rate accrual; slack = if t then 0 else COEFFICIENT_SCALE / 2 }) units n
    at true is =
        let zero_rate : rate ≡ 0 = grind (arith, nat_tests) in
        let none : n ≡ 0 = e ∙ earns-nothing step rate accrual.parts units (100_000 * accrual.year) zero_rate (omega arith) in
        let low : interest_low step rate accrual ≡ 0 = none-of (COEFFICIENT_SCALE * (step * rate * accrual.parts)) (100_000 * accrual.year) (rw zero_rate (omega arith)) (omega arith) in
        record { least = rw low (omega arith); most = omega (arith, none) }
    at false is = record { least = omega (arith, half.least); most = omega (arith, half.most) }

interest-enclosed : (step rate : ℕ) (accrual : Accrual) (units n : ℕ) → 0 < accrual.year → n ≡ near (step * rate * accrual.parts * units) (100_000 * accrual.year)
    → EnclosesInterest step rate accrual units n
interest-enclosed step rate accrual units n some e =
    by-halves step rate accrual units n (rounded (step * rate * accrual.parts) (100_000 * accrual.year) units n (omega arith) e) e some

earned-enclosed : (step rate : ℕ) (accrual : Accrual) (units : ℕ) → 0 < accrual.year
    → EnclosesInterest step rate accrual units (earned_of (step * units) rate accrual.parts accrual.year)
earned-enclosed step rate accrual units some =
    let same : step * units * rate * accrual.parts ≡ step * rate * accrual.parts * units = omega arith in
    interest-enclosed step rate accrual units _ some (ap (λ (face : ℕ). near face (100_000 * accrual.year)) same)

-- and the principal is exact
with-principal : (payment : ScheduledPayment) (step rate units n principal : ℕ) → EnclosesInterest step rate payment.accrual units n → principal ≡ principal_by payment step * units
    → EnclosesPayment units (pay_by rate step payment) (record { day = payment.day; cents = record { 0 = n + principal } })
unfolding EnclosesInterest
with-principal payment step rate units n principal h e = record {
  day = refl;
  amount = record { least = omega (arith, h.least, e); most = omega (arith, h.most, e) };
}

principal-units : (t : Bool) (step units : ℕ) → (if t then step * units else 0) ≡ (if t then step else 0) * units
principal-units true step units = refl
principal-units false step units = omega arith

-- each payment of a schedule
payment-enclosed : (rate step units : ℕ) (payment : ScheduledPayment) → 0 < payment.accrual.year → EnclosesPayment units (pay_by rate step payment) (flow_by rate (step * units) payment)
payment-enclosed rate step units payment some =
    with-principal payment step rate units _ _ (earned-enclosed step rate payment.accrual units some) (principal-units payment.principal step units)

schedule-enclosed : (rate step units : ℕ) (schedule : List ScheduledPayment) → All (λ payment. IsShort payment.accrual) schedule
    → AllZip (EnclosesPayment units) (map (pay_by rate step) schedule) (flows_by rate (step * units) schedule)
schedule-enclosed rate step units [] short = tt
schedule-enclosed rate step units (payment ∷ schedule) short = (
  payment-enclosed rate step units payment (All-head (λ (p : ScheduledPayment). IsShort p.accrual) payment schedule short).year,
  schedule-enclosed rate step units schedule (All-tail (λ (p : ScheduledPayment). IsShort p.accrual) payment schedule short),
)

-- what a note costs
price-enclosed : (step price units : ℕ) → AreHalves COEFFICIENT_SCALE (COEFFICIENT_SCALE * (step * price) / 10 ^ 10) (div_ceil (COEFFICIENT_SCALE * (step * price)) (10 ^ 10)) units (face_price_of (step * units) price)
price-enclosed step price units =
    let same : step * units * price ≡ step * price * units = omega arith in
    rounded (step * price) (10 ^ 10) units _ (omega arith) (ap (λ (face : ℕ). near face (10 ^ 10)) same)

accrued-enclosed : (note : Note) (step units : ℕ) → IsNote note
    → AreHalves COEFFICIENT_SCALE (interest_low step note.coupon.0 (notes.accrual_of note)) (interest_high step note.coupon.0 (notes.accrual_of note)) units (notes.accrued_interest note (step * units))
unfolding notes.accrued_interest
accrued-enclosed note step units h =
    let accrual = notes.accrual_of note in
    let same : step * units * note.coupon.0 * accrual.parts ≡ step * note.coupon.0 * accrual.parts * units = omega arith in
    rounded (step * note.coupon.0 * accrual.parts) (100_000 * accrual.year) units _ (omega (arith, accrual-some note h))
    (ap (λ (face : ℕ). near face (100_000 * accrual.year)) same)

sum-enclosed : (low high price_low price_high interest_low interest_high units price accrued : ℕ) → AreHalves COEFFICIENT_SCALE price_low price_high units price
    → AreHalves COEFFICIENT_SCALE interest_low interest_high units accrued → low ≡ price_low + interest_low → high ≡ price_high + interest_high
    → Encloses (record { low = low; high = high; slack = COEFFICIENT_SCALE }) units (price + accrued)
sum-enclosed low high price_low price_high interest_low interest_high units price accrued p a e f =
    rw (e, f) (record { least = omega (arith, p.least, a.least); most = omega (arith, p.most, a.most) })

exactly : (step units : ℕ) → Encloses (record { low = COEFFICIENT_SCALE * step; high = COEFFICIENT_SCALE * step; slack = 0 }) units (step * units)
exactly step units = record { least = omega arith; most = omega arith }

-- each kind of line
kind-cost-enclosed : (days : PaymentDays) (kind : LineKind) (step units : ℕ) → IsSecurity days kind → Encloses (kind_costs kind step) units (kind_cost kind (step * units))
kind-cost-enclosed days Cash step units security = absurd security
kind-cost-enclosed days (Security slgs) step units security = exactly step units
kind-cost-enclosed days (Market note) step units security =
    sum-enclosed _ _ _ _ _ _ units (face_price_of (step * units) note.price.0) (notes.accrued_interest note (step * units))
    (price-enclosed step note.price.0 units) (accrued-enclosed note step units security.1) refl refl

pub coefficients-enclose : (days : PaymentDays) (line : Line) → IsSettlement days.settle → IsLine days line → (units : ℕ) → EnclosesUnits days line units
coefficients-enclose days line h is_line units = record {
  costs = elim is_line [
    | inl cash ↦ subst (λ kind. Encloses (kind_costs kind line.step) units (kind_cost kind (par line units))) (sym cash.kind) (exactly line.step units)
    | inr own ↦ kind-cost-enclosed days line.kind line.step units own.security
  ];
  pays = schedule-enclosed (kind_rate line.kind) line.step units (schedule_of days line) (schedule-short days line h is_line);
}
