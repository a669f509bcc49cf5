-- A payment of a line that pays nothing adds nothing to a sum over its payments.
use Rattle.std.proofs.Common.{◌≡◌, ◌∙◌, ℕ, zero, suc, ◌*◌, ◌/◌, ◌==◌, List, [], ◌∷◌, cond, ap, arith, refl, ℤ, pos, ◌+ℤ◌, ◌*ℤ◌, int_le, Bool, true, false, not, ◌||◌, if◌then◌else◌, ◌≤◌, ◌+◌, map, sym}
use Rattle.std.specs.Int.{div_ceil}
use Rattle.std.specs.List.{filter, sum_by}
use Rattle.std.specs.Ordering.{int_eq}
use Rattle.std.proofs.Math.Bool.{or-false}
use Rattle.std.proofs.Math.Nat.{zero-div}
use Rattle.std.proofs.lemmas.Bool.{or_right}
use Rattle.std.proofs.lemmas.Bool.Decides.{Decides-int_eq, nat_tests}
use Rattle.std.proofs.lemmas.Int.{ints}
use Rattle.std.proofs.lemmas.List.Sums.{sum_by-cons}
use Rattle.escrow_units.specs.Rounding.{near}
use Rattle.escrow_units.proofs.RoundingFacts.{near-zero}
use Rattle.escrow_units.proofs.LastDates.{half_back_of-reach, half_back_of-zero, last_dates}
use Rattle.escrow_units.specs.Calendar.{half_back_of}
use Rattle.escrow_units.specs.OpenDays.{Closings, IsBy2190}
use Rattle.escrow_units.specs.SlgsTerms.{IsSettlement, IsSlgs}
use Rattle.escrow_units.specs.declared.security.Slgs.{Slgs}
use Rattle.escrow_units.specs.declared.security.StepRule.TheVariants as rule
use Rattle.slgs_interest.specs.Payments.{first_accrual_of, payment_on, slgs_schedule}
use Rattle.slgs_interest.proofs.Series.{paid}
use Rattle.offer_book.specs.Coefficients.{interest_slack, pay_by}
use Rattle.offer_book.specs.declared.coefficients.TheConstants.{COEFFICIENT_SCALE}
use Rattle.payment_schedule.specs.Schedule.{due_on, flow_by, half_year_accrual}
use Rattle.payment_schedule.specs.declared.schedule.ScheduledPayment.{ScheduledPayment}
use Rattle.dual_bound.specs.Columns.{is_principal, pays_at}
use Rattle.dual_bound.specs.LeafBound.{least_side, signed_sum}

-- ---- which payments pay
-- at a rate each pays
pub all-pay : (rate : ℕ) (schedule : List ScheduledPayment) → (rate == 0) ≡ false → filter (pays_at rate) schedule ≡ schedule
all-pay rate [] e = refl
all-pay rate (p ∷ ps) e = (λ i. cond (or_right p.principal (not (rate == 0)) (ap not e) i) (p ∷ all-pay rate ps e i) (filter (pays_at rate) ps))

-- without one the principal alone
pub principal-pays : (rate : ℕ) (schedule : List ScheduledPayment) → (rate == 0) ≡ true → filter (pays_at rate) schedule ≡ filter is_principal schedule
principal-pays rate [] e = refl
principal-pays rate (p ∷ ps) e = (λ i. cond ((ap (λ t. p.principal || t) (ap not e) ∙ or-false p.principal) i) (p ∷ principal-pays rate ps e i) (principal-pays rate ps e i))

-- ---- what pays nothing
record IsUnpaid (rate : ℕ) (p : ScheduledPayment) : Type 0 where
  none : rate ≡ 0
  principal : p.principal ≡ false

unpaid : (rate : ℕ) (p : ScheduledPayment) → pays_at rate p ≡ false → IsUnpaid rate p
unpaid rate p e = by p.principal (rate == 0) refl refl e
  where
    by : (a b : Bool) → p.principal ≡ a → (rate == 0) ≡ b → (a || not b) ≡ false → IsUnpaid rate p
    by false true x y e = record { none = grind (arith, nat_tests); principal = x }
    by false false x y e = absurd (cc)
    by true b x y e = absurd (cc)

no-part : (a b : ℕ) → a ≡ 0 → a / b ≡ 0
no-part a b e = ap (λ n. n / b) e ∙ zero-div b

no-parts : (a b : ℕ) → a ≡ 0 → div_ceil a b ≡ 0
no-parts a b e = ap (λ n. div_ceil n b) e ∙ omega (arith, zero-div b)

none-near : (a b : ℕ) → a ≡ 0 → near a b ≡ 0
unfolding near
none-near a zero e = rw e refl
none-near a (suc b) e = near-zero a (suc b) e (omega arith)

no-face : (step rate parts : ℕ) → rate ≡ 0 → step * rate * parts ≡ 0
no-face step rate parts e = rw e (omega arith)

pub unpaid-low : (rate step : ℕ) (p : ScheduledPayment) → pays_at rate p ≡ false → (pay_by rate step p).low ≡ 0
unpaid-low rate step p e =
    let u = unpaid rate p e in
    let interest = no-part (COEFFICIENT_SCALE * (step * rate * p.accrual.parts)) (100_000 * p.accrual.year) (omega (arith, no-face step rate p.accrual.parts u.none)) in
    let principal : COEFFICIENT_SCALE * (if p.principal then step else 0) ≡ 0 = (λ i. COEFFICIENT_SCALE * (if u.principal i then step else 0)) in
    omega (arith, interest, principal)

pub unpaid-high : (rate step : ℕ) (p : ScheduledPayment) → pays_at rate p ≡ false → (pay_by rate step p).high ≡ 0
unpaid-high rate step p e =
    let u = unpaid rate p e in
    let interest = no-parts (COEFFICIENT_SCALE * (step * rate * p.accrual.parts)) (100_000 * p.accrual.year) (omega (arith, no-face step rate p.accrual.parts u.none)) in
    let principal : COEFFICIENT_SCALE * (if p.principal then step else 0) ≡ 0 = (λ i. COEFFICIENT_SCALE * (if u.principal i then step else 0)) in
    omega (arith, interest, principal)

pub unpaid-slack : (rate step : ℕ) (p : ScheduledPayment) → pays_at rate p ≡ false → (pay_by rate step p).slack ≡ 0
unpaid-slack rate step p e = ap interest_slack (unpaid rate p e).none

pub unpaid-cents : (rate amount : ℕ) (p : ScheduledPayment) → pays_at rate p ≡ false → (flow_by rate amount p).cents.0 ≡ 0
unpaid-cents rate amount p e =
    let u = unpaid rate p e in
    let interest = none-near (amount * rate * p.accrual.parts) (100_000 * p.accrual.year) (no-face amount rate p.accrual.parts u.none) in
    let principal : (if p.principal then amount else 0) ≡ 0 = (λ i. if u.principal i then amount else 0) in
    omega (arith, interest, principal)

-- coefficients of nothing add nothing to a slope
pub no-side : (weight : ℤ) (low high : ℕ) → low ≡ 0 → high ≡ 0 → least_side weight low high ≡ pos 0
no-side weight low high e f = (λ i. least_side weight (e i) (f i)) ∙ at (int_le (pos 0) weight)
  where
    at : (t : Bool) → (if t then weight *ℤ pos 0 else weight *ℤ pos 0) ≡ pos 0
    at true = omega (arith, ints)
    at false = omega (arith, ints)

-- ---- sums
pub kept-sum : (f : ScheduledPayment → ℤ) (q : ScheduledPayment → Bool) → ((p : ScheduledPayment) → q p ≡ false → f p ≡ pos 0)
    → (schedule : List ScheduledPayment) → signed_sum f schedule ≡ signed_sum f (filter q schedule)
kept-sum f q none [] = refl
kept-sum f q none (p ∷ ps) = at (q p) refl (kept-sum f q none ps)
  where
    at : (t : Bool) → q p ≡ t → signed_sum f ps ≡ signed_sum f (filter q ps) → f p +ℤ signed_sum f ps ≡ signed_sum f (cond t (p ∷ filter q ps) (filter q ps))
    at true e rest = ap (λ z. f p +ℤ z) rest
    at false e rest = omega (arith, ints, none p e, rest)

pub kept-count : (f : ScheduledPayment → ℕ) (q : ScheduledPayment → Bool) → ((p : ScheduledPayment) → q p ≡ false → f p ≡ 0)
    → (schedule : List ScheduledPayment) → sum_by f schedule ≡ sum_by f (filter q schedule)
kept-count f q none [] = refl
kept-count f q none (p ∷ ps) = at (q p) refl (kept-count f q none ps)
  where
    at : (t : Bool) → q p ≡ t → sum_by f ps ≡ sum_by f (filter q ps) → sum_by f (p ∷ ps) ≡ sum_by f (cond t (p ∷ filter q ps) (filter q ps))
    at true e rest = omega (arith, sum_by-cons f p ps, sum_by-cons f p (filter q ps), rest)
    at false e rest = omega (arith, sum_by-cons f p ps, none p e, rest)

-- ---- the principal of a security
not-true : (b : Bool) → (b ≡ true → ⊥) → b ≡ false
not-true true f = absurd (f refl)
not-true false f = refl

-- where the principal falls at maturity alone, that payment is all there is
alone : (payment : ℤ → ScheduledPayment) (maturity : ℤ) (k : ℕ) → (payment (half_back_of maturity 0 rule.SameDay)).principal ≡ true
    → ((j : ℕ) → 1 ≤ j → j ≤ k → (payment (half_back_of maturity j rule.SameDay)).principal ≡ false)
    → filter is_principal (map payment (last_dates maturity rule.SameDay (suc k))) ≡ payment (half_back_of maturity 0 rule.SameDay) ∷ []
unfolding last_dates
alone payment maturity zero last none = ap (λ (b : Bool). cond b (payment (half_back_of maturity 0 rule.SameDay) ∷ []) []) last
alone payment maturity (suc k) last none =
    let rest = map payment (last_dates maturity rule.SameDay (suc k)) in
    ap (λ (b : Bool). cond b (payment (half_back_of maturity (suc k) rule.SameDay) ∷ filter is_principal rest) (filter is_principal rest)) (none (suc k) (omega arith) (omega arith))
    ∙ alone payment maturity k last (λ j some few. none j some (omega arith))

-- a security whose first payment isn't its last pays its principal at maturity, with half a year's interest
pub late-principal : (slgs : Slgs) (closed : Closings) → IsSettlement slgs.settle → IsSlgs slgs → (slgs.first ≡ slgs.maturity → ⊥)
    → filter is_principal (slgs_schedule slgs closed) ≡ due_on closed slgs.maturity half_year_accrual true ∷ []
unfolding slgs_schedule
late-principal slgs closed h terms late =
    let p = paid slgs h terms in
    let more : p.steps + 1 ≡ suc p.steps = omega arith in
    let start = half_back_of-zero slgs.maturity rule.SameDay p.base in
    let series : slgs_schedule slgs closed ≡ map (payment_on slgs closed) (last_dates slgs.maturity rule.SameDay (suc p.steps)) =
    ap (map (payment_on slgs closed)) (p.dates ∙ ap (last_dates slgs.maturity rule.SameDay) more) in
    let apart : int_eq slgs.maturity slgs.first ≡ false = not-true (int_eq slgs.maturity slgs.first) (λ t. late (sym ((Decides-int_eq slgs.maturity slgs.first).0 t))) in
    let same : int_eq slgs.maturity slgs.maturity ≡ true = (Decides-int_eq slgs.maturity slgs.maturity).1 refl in
    let ended = alone (payment_on slgs closed) slgs.maturity p.steps ((Decides-int_eq (half_back_of slgs.maturity 0 rule.SameDay) slgs.maturity).1 start)
    (λ j some few.
    let reach = half_back_of-reach slgs.maturity rule.SameDay j p.base (omega (arith, p.few)) in
    not-true (int_eq (half_back_of slgs.maturity j rule.SameDay) slgs.maturity)
    (λ t. omega (arith, ints, some, reach, (Decides-int_eq (half_back_of slgs.maturity j rule.SameDay) slgs.maturity).0 t))) in
    ap (filter is_principal) series ∙ ended ∙ ap (λ (day : ℤ). payment_on slgs closed day ∷ []) start
    ∙ (λ i. due_on closed slgs.maturity (if apart i then first_accrual_of slgs else half_year_accrual) (same i) ∷ [])

pub maturity-by : (slgs : Slgs) → IsSettlement slgs.settle → IsSlgs slgs → IsBy2190 slgs.maturity
maturity-by slgs h terms = (paid slgs h terms).base.1
