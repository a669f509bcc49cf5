-- What a schedule pays.
use Rattle.std.proofs.Common.{◌≡◌, ℕ, ◌+◌, ◌*◌, ◌≤◌, zero, suc, refl, ap, arith, Bool, true, false, if◌then◌else◌, List, [], ◌∷◌, get_or, map}
use Rattle.std.specs.Prelude.{All}
use Rattle.std.specs.List.{AllZip}
use Rattle.std.proofs.Math.Nat.{div-zero, mul-le-mul_right}
use Rattle.std.proofs.lemmas.List.Elements.{All-head, All-map, All-tail}
use Rattle.escrow_units.specs.Interest.{earned_of, half_coupon_of}
use Rattle.escrow_units.specs.Rounding.{near}
use Rattle.escrow_units.specs.declared.security.Flow.{Flow}
use Rattle.escrow_units.proofs.RoundingFacts.{near-mono, near-zero}
use Rattle.payment_schedule.specs.Schedule.{IsShort, flow_by, half_year_accrual}
use Rattle.payment_schedule.specs.declared.schedule.ScheduledPayment.{ScheduledPayment}

-- what an amount at par pays by a schedule
abbrev pub flows_by : ℕ → ℕ → List ScheduledPayment → List Flow
flows_by rate amount schedule = map (flow_by rate amount) schedule

-- half a year is short, and its interest half a coupon
pub half-short : IsShort half_year_accrual
half-short = record { year = omega arith; parts = omega arith; days = omega arith }

pub half-coupon : (amount rate : ℕ) → earned_of amount rate 1 2 ≡ half_coupon_of amount rate
half-coupon amount rate = ap (λ (n : ℕ). near n 200_000) (times-one (amount * rate))
  where
    times-one : (n : ℕ) → n * 1 ≡ n
    times-one n = omega arith

-- what holds of each payment and what it pays holds along the lists
pub each-flow : (R : ScheduledPayment → Flow → Type 0) (rate amount : ℕ) (schedule : List ScheduledPayment)
    → All (λ payment. R payment (flow_by rate amount payment)) schedule → AllZip R schedule (flows_by rate amount schedule)
each-flow R rate amount [] h = tt
each-flow R rate amount (x ∷ xs) h = (
  All-head (λ payment. R payment (flow_by rate amount payment)) x xs h,
  each-flow R rate amount xs (All-tail (λ payment. R payment (flow_by rate amount payment)) x xs h),
)

-- nothing earns and pays nothing
pub near-nothing : (a b : ℕ) → a ≡ 0 → near a b ≡ 0
unfolding near
near-nothing a zero e = rw e refl
near-nothing a (suc b) e = near-zero a (suc b) e (omega arith)

no-amount : (amount rate parts : ℕ) → amount ≡ 0 → amount * rate * parts ≡ 0
no-amount amount rate parts none = rw none (omega arith)

choice-none : (t : Bool) (a b : ℕ) → a ≡ 0 → b ≡ 0 → (if t then a else b) ≡ 0
choice-none true a b e f = e
choice-none false a b e f = f

pub flow-none : (rate amount : ℕ) (payment : ScheduledPayment) → amount ≡ 0 → (flow_by rate amount payment).cents.0 ≡ 0
flow-none rate amount payment none =
    join _ _ (near-nothing _ _ (no-amount amount rate payment.accrual.parts none)) (choice-none payment.principal amount 0 none refl)
  where
    join : (m n : ℕ) → m ≡ 0 → n ≡ 0 → m + n ≡ 0
    join m n a b = omega arith

pub flows-none : (rate amount : ℕ) (schedule : List ScheduledPayment) → amount ≡ 0 → All (λ flow. flow.cents.0 ≡ 0) (flows_by rate amount schedule)
flows-none rate amount schedule none =
    All-map (λ (flow : Flow). flow.cents.0 ≡ 0) (flow_by rate amount) schedule (λ k d within. flow-none rate amount (get_or schedule k d) none)

-- and a greater amount pays no less
pub near-more : (a b c : ℕ) → a ≤ c → near a b ≤ near c b
unfolding near
near-more a zero c le = omega (arith, div-zero (2 * a + 0), div-zero (2 * c + 0))
near-more a (suc b) c le = near-mono a (suc b) c (omega arith) le

choice-more : (t : Bool) (a b : ℕ) → a ≤ b → (if t then a else 0) ≤ (if t then b else 0)
choice-more true a b le = le
choice-more false a b le = omega arith

pub flow-more : (rate amount more : ℕ) (payment : ScheduledPayment) → amount ≤ more → (flow_by rate amount payment).cents.0 ≤ (flow_by rate more payment).cents.0
flow-more rate amount more payment le =
    join _ _ _ _ (near-more _ (100_000 * payment.accrual.year) _ (mul-le-mul_right payment.accrual.parts (mul-le-mul_right rate le)))
    (choice-more payment.principal amount more le)
  where
    join : (a b c d : ℕ) → a ≤ c → b ≤ d → a + b ≤ c + d
    join a b c d le more = omega arith
