-- How large coefficients, weights and forms are: nothing leaves 128 bits.
use Rattle.std.proofs.Common.{◌≡◌, ℕ, zero, suc, ◌+◌, ◌*◌, ◌/◌, ◌^◌, ◌<◌, ◌≤◌, refl, sym, ap, subst, arith, inl, inr, List, [], ◌∷◌, ℤ, pos, negsuc, ◌+ℤ◌, ◌-ℤ◌, ◌*ℤ◌, neg_ℤ, int_le, unsigned_abs, Bool, true, false, if◌then◌else◌, get_or, length, map, All, ◌==◌}
use Rattle.std.specs.Int.{div_ceil}
use Rattle.std.specs.List.{sum_by}
use Rattle.std.proofs.Math.Nat.{mul-div-le, mul-le-mul, mul-le-mul_left, mul-le-mul_right}
use Rattle.std.proofs.lemmas.Bool.{cases_lt}
use Rattle.std.proofs.lemmas.Grind.{div_ceil_times}
use Rattle.std.proofs.lemmas.Int.{ints, unsigned_abs-mul}
use Rattle.std.proofs.lemmas.List.{length-map}
use Rattle.std.proofs.lemmas.List.Elements.{All-head, All-map, All-tail}
use Rattle.std.proofs.lemmas.List.Sums.{sum_by-cons}
use Rattle.escrow_units.specs.Flows.{index360_of}
use Rattle.escrow_units.specs.SlgsTerms.{IsSettlement}
use Rattle.escrow_units.specs.declared.interest.Accrual.{Accrual}
use Rattle.escrow_units.specs.declared.security.Flow.{Flow}
use Rattle.fixed_powers.specs.DiscountPowers.{low}
use Rattle.fixed_powers.specs.declared.side.Side.TheVariants.{Low}
use Rattle.fixed_powers.proofs.PowerFacts.{power_of-within}
use Rattle.market_notes.proofs.AmountFacts.{accrual-short, accrual-some}
use Rattle.market_notes.specs.NoteFlows as notes
use Rattle.offer_book.specs.Book.{BookContents, IsCashLine, IsLine, IsSecurity, IsSecurityLine}
use Rattle.offer_book.specs.Coefficients.{cost_coefficients, interest_high, interest_low, interest_slack, kind_costs, pay_by, pay_coefficients}
use Rattle.offer_book.specs.Portfolio.{line_cost}
use Rattle.offer_book.specs.declared.coefficients.PayCoefficients.{PayCoefficients}
use Rattle.offer_book.specs.declared.coefficients.TheConstants.{COEFFICIENT_SCALE}
use Rattle.offer_book.specs.declared.line.Line.{Line}
use Rattle.offer_book.specs.declared.line.LineKind.{LineKind}
use Rattle.offer_book.specs.declared.line.LineKind.TheVariants.{Cash, Market, Security}
use Rattle.payment_schedule.specs.Schedule.{IsShort, principal_by}
use Rattle.payment_schedule.specs.declared.schedule.ScheduledPayment.{ScheduledPayment}
use Rattle.offer_book.specs.Schedule.{kind_rate, kind_schedule, schedule_of}
use Rattle.offer_book.proofs.CoefficientBounds.{IsClose}
use Rattle.offer_book.proofs.LineFacts.{cash-at_most, rate-low, schedule-few, security-at_most}
use Rattle.offer_book.proofs.ScheduleFacts.{schedule-short}
use Rattle.dual_bound.specs.LeafBound.{cost_worth, least_side, limit_price, limit_multiplier, paid_worth, price_on, signed_sum}
use Rattle.proof_tree.specs.Tree.{IsLeaf}
use Rattle.proof_tree.specs.declared.prices.TheConstants.{PRICE_SCALE}
use Rattle.proof_tree.specs.declared.tree.Leaf.{Leaf}
use Rattle.offer_book.specs.declared.payment_days.PaymentDays.{PaymentDays}

-- ---- weights
pub price_on-small : (needs : List Flow) (prices : List ℕ) (day : ℤ) → All (λ price. price ≤ 2 * PRICE_SCALE) prices → price_on needs prices day ≤ 2 * PRICE_SCALE
unfolding price_on
price_on-small [] prices day small = omega arith
price_on-small (need ∷ needs) [] day small = omega arith
price_on-small (need ∷ needs) (price ∷ prices) day small =
    at (int_le day need.day) (price_on-small needs prices day (All-tail (λ (p : ℕ). p ≤ 2 * PRICE_SCALE) price prices small))
  where
    at : (t : Bool) → price_on needs prices day ≤ 2 * PRICE_SCALE → (if t then price else price_on needs prices day) ≤ 2 * PRICE_SCALE
    at true rest = All-head (λ (p : ℕ). p ≤ 2 * PRICE_SCALE) price prices small
    at false rest = rest

pub limit_multiplier-small : (leaf : Leaf) (kind : LineKind) → leaf.mu ≤ PRICE_SCALE → limit_multiplier leaf kind ≤ PRICE_SCALE
limit_multiplier-small leaf Cash small = omega arith
limit_multiplier-small leaf (Security slgs) small = small
limit_multiplier-small leaf (Market note) small = small

-- the limit takes no more than its weight
pub limit_price-small : (n : ℕ) (settle : ℤ) (weight : ℕ) (day : ℤ) → weight ≤ PRICE_SCALE → limit_price n settle weight day ≤ PRICE_SCALE
limit_price-small n settle weight day small =
    let power = power_of-within Low n (index360_of settle day) in
    let product = mul-le-mul_left weight power in
    omega (arith, small, product)

-- a difference is no larger than the larger part
pub abs-difference : (a b most : ℕ) → a ≤ most → b ≤ most → unsigned_abs (pos a -ℤ pos b) ≤ most
abs-difference a b most first second = omega (arith, ints)

-- what a cent is worth is at most 2, and what it costs counts at most 1
pub paid_worth-light : (n : ℕ) (book : BookContents) (leaf : Leaf) (kind : LineKind) → IsLeaf (length book.needs) leaf → (day : ℤ) → unsigned_abs (paid_worth n book leaf kind day) ≤ 2 * PRICE_SCALE
paid_worth-light n book leaf kind well day =
    abs-difference (price_on book.needs leaf.prices day) (limit_price n book.days.settle (limit_multiplier leaf kind) day) (2 * PRICE_SCALE)
    (price_on-small book.needs leaf.prices day well.range)
    (omega (arith, limit_price-small n book.days.settle (limit_multiplier leaf kind) day (limit_multiplier-small leaf kind well.limit)))

pub cost_worth-light : (leaf : Leaf) (kind : LineKind) → leaf.rho ≤ PRICE_SCALE → leaf.mu ≤ PRICE_SCALE → unsigned_abs (cost_worth leaf kind) ≤ PRICE_SCALE
cost_worth-light leaf kind weight small =
    abs-difference leaf.rho (limit_multiplier leaf kind) PRICE_SCALE weight (limit_multiplier-small leaf kind small)

pub abs-sum : (a b : ℤ) → unsigned_abs (a +ℤ b) ≤ unsigned_abs a + unsigned_abs b
abs-sum a b = omega (arith, ints)

-- ---- coefficients of one unit
-- a quotient rounded up is within a multiple that covers it
div_ceil-le : (a b most : ℕ) → 0 < b → a ≤ most * b → div_ceil a b ≤ most
div_ceil-le a b most some within = elim (cases_lt most (div_ceil a b)) [
  | inl more ↦ absurd (omega (arith, (div_ceil_times a b some).1, mul-le-mul_right b more, within))
  | inr at_most ↦ at_most
]

div-le : (a b most : ℕ) → 0 < b → a ≤ most * b → a / b ≤ most
div-le a b most some within = elim (cases_lt most (a / b)) [
  | inl more ↦ absurd (omega (arith, mul-div-le a b, mul-le-mul_right b more, within))
  | inr at_most ↦ at_most
]

-- a step is at most 1,000,000 dollars
pub step-small : (days : PaymentDays) (line : Line) → IsLine days line → line.step ≤ 10 ^ 8
step-small days line (inl cash) = omega (arith, cash.step)
step-small days line (inr security) = security.step_at_most

-- what a date pays of a step: at most fourteen tenths of it, scaled
pub record IsSized (step : ℕ) (pay : PayCoefficients) : Type 0 where
  pub low : pay.low ≤ 1_400_000_000 * step
  pub high : pay.high ≤ 1_400_000_000 * step
  pub slack : pay.slack ≤ 500_000_000

-- interest of at most sixteen months at no more than 30 percent
interest-within : (step rate : ℕ) (accrual : Accrual) → rate ≤ 30_000 → 3 * accrual.parts ≤ 4 * accrual.year
    → COEFFICIENT_SCALE * (step * rate * accrual.parts) ≤ 400_000_000 * step * (100_000 * accrual.year)
interest-within step rate accrual low few =
    let a = mul-le-mul_left step (mul-le-mul_right accrual.parts low) in
    let b = mul-le-mul_left step few in
    omega (arith, a, b)

interest_low-small : (step rate : ℕ) (accrual : Accrual) → rate ≤ 30_000 → 0 < accrual.year → 3 * accrual.parts ≤ 4 * accrual.year → interest_low step rate accrual ≤ 400_000_000 * step
interest_low-small step rate accrual low some few =
    div-le (COEFFICIENT_SCALE * (step * rate * accrual.parts)) (100_000 * accrual.year) (400_000_000 * step) (omega arith) (interest-within step rate accrual low few)

interest_high-small : (step rate : ℕ) (accrual : Accrual) → rate ≤ 30_000 → 0 < accrual.year → 3 * accrual.parts ≤ 4 * accrual.year → interest_high step rate accrual ≤ 400_000_000 * step
interest_high-small step rate accrual low some few =
    div_ceil-le (COEFFICIENT_SCALE * (step * rate * accrual.parts)) (100_000 * accrual.year) (400_000_000 * step) (omega arith) (interest-within step rate accrual low few)

interest_slack-small : (rate : ℕ) → interest_slack rate ≤ 500_000_000
interest_slack-small rate = at (rate == 0)
  where
    at : (t : Bool) → (if t then 0 else COEFFICIENT_SCALE / 2) ≤ 500_000_000
    at true = omega arith
    at false = omega arith

pub principal-little : (payment : ScheduledPayment) (amount : ℕ) → principal_by payment amount ≤ amount
principal-little payment amount = at payment.principal
  where
    at : (t : Bool) → (if t then amount else 0) ≤ amount
    at true = omega arith
    at false = omega arith

pub pay-sized : (rate step : ℕ) (payment : ScheduledPayment) → rate ≤ 30_000 → IsShort payment.accrual → IsSized step (pay_by rate step payment)
pay-sized rate step payment low short = record {
  low = omega (arith, interest_low-small step rate payment.accrual low short.year short.parts, principal-little payment step);
  high = omega (arith, interest_high-small step rate payment.accrual low short.year short.parts, principal-little payment step);
  slack = interest_slack-small rate;
}

pub pays-sized : (days : PaymentDays) (line : Line) → IsSettlement days.settle → IsLine days line → All (IsSized line.step) (pay_coefficients days line)
pays-sized days line h is =
    All-map (IsSized line.step) (pay_by (kind_rate line.kind) line.step) (schedule_of days line)
    (λ k d few. pay-sized (kind_rate line.kind) line.step (get_or (schedule_of days line) k d) (rate-low days line is) (schedule-short days line h is k d few))

-- what a line costs of a step: at most four steps, scaled
pub record IsCostSized (line : Line) : Type 0 where
  pub low : (cost_coefficients line).low ≤ 4_000_000_000 * line.step
  pub high : (cost_coefficients line).high ≤ 4_000_000_000 * line.step
  pub slack : (cost_coefficients line).slack ≤ COEFFICIENT_SCALE

price-within : (step price : ℕ) → price ≤ 30_000_000_000 → COEFFICIENT_SCALE * (step * price) ≤ 3_000_000_000 * step * 10 ^ 10
price-within step price low = omega (arith, mul-le-mul_left step low)

record IsKindSized (kind : LineKind) (step : ℕ) : Type 0 where
  low : (kind_costs kind step).low ≤ 4_000_000_000 * step
  high : (kind_costs kind step).high ≤ 4_000_000_000 * step
  slack : (kind_costs kind step).slack ≤ COEFFICIENT_SCALE

kind-cost-sized : (days : PaymentDays) (kind : LineKind) (step : ℕ) → IsSecurity days kind → IsKindSized kind step
kind-cost-sized days Cash step security = absurd security
kind-cost-sized days (Security security) step keeps = record { low = omega arith; high = omega arith; slack = omega arith }
kind-cost-sized days (Market note) step keeps =
    let some = accrual-some note keeps.1 in
    let few = accrual-short note keeps.1 in
    let price = price-within step note.price.0 keeps.1.most_price in
    let price_low = div-le (COEFFICIENT_SCALE * (step * note.price.0)) (10 ^ 10) (3_000_000_000 * step) (omega arith) price in
    let price_high = div_ceil-le (COEFFICIENT_SCALE * (step * note.price.0)) (10 ^ 10) (3_000_000_000 * step) (omega arith) price in
    record {
      low = omega (arith, price_low, interest_low-small step note.coupon.0 (notes.accrual_of note) keeps.1.coupon some few);
      high = omega (arith, price_high, interest_high-small step note.coupon.0 (notes.accrual_of note) keeps.1.coupon some few);
      slack = omega arith;
    }

pub cost-sized : (days : PaymentDays) (line : Line) → IsLine days line → IsCostSized line
cost-sized days line (inl cash) =
    let is = sym cash.kind in
    record {
      low = subst (λ kind. (kind_costs kind line.step).low ≤ 4_000_000_000 * line.step) is (omega arith);
      high = subst (λ kind. (kind_costs kind line.step).high ≤ 4_000_000_000 * line.step) is (omega arith);
      slack = subst (λ kind. (kind_costs kind line.step).slack ≤ COEFFICIENT_SCALE) is (omega arith);
    }
cost-sized days line (inr security) =
    let sized = kind-cost-sized days line.kind line.step security.security in
    record { low = sized.low; high = sized.high; slack = sized.slack }

-- a line pays on at most 84 dates, and opening cash on one
pub pays-few : (days : PaymentDays) (line : Line) → IsSettlement days.settle → IsSecurityLine days line → length (pay_coefficients days line) ≤ 84
pays-few days line h security =
    omega (arith, length-map (schedule_of days line) (pay_by (kind_rate line.kind) line.step), schedule-few days line h security)

pub cash-once : (days : PaymentDays) (line : Line) → IsCashLine line → length (pay_coefficients days line) ≡ 1
cash-once days line cash = ap (λ kind. length (map (pay_by (kind_rate kind) line.step) (kind_schedule days kind))) cash.kind

-- ---- forms
-- a weight times a side
pub side-small : (weight : ℤ) (low high weigh most : ℕ) → unsigned_abs weight ≤ weigh → low ≤ most → high ≤ most → unsigned_abs (least_side weight low high) ≤ weigh * most
side-small weight low high weigh most small first second = at (int_le (pos 0) weight)
  where
    product : (side : ℕ) → side ≤ most → unsigned_abs (weight *ℤ pos side) ≤ weigh * most
    product side few = omega (arith, unsigned_abs-mul weight (pos side), mul-le-mul small few)

    at : (t : Bool) → unsigned_abs (if t then weight *ℤ pos low else weight *ℤ pos high) ≤ weigh * most
    at true = product low first
    at false = product high second

-- the slope of payments
abbrev pub pays_slope : (ℤ → ℤ) → List PayCoefficients → ℤ
pays_slope weight pays = signed_sum (λ pay. least_side (neg_ℤ (weight pay.day)) pay.low pay.high) pays

abbrev pub IsLight : (ℤ → ℤ) → Type 0
IsLight weight = (day : ℤ) → unsigned_abs (weight day) ≤ 2 * PRICE_SCALE

pub abs-neg : (z : ℤ) → unsigned_abs (neg_ℤ z) ≡ unsigned_abs z
abs-neg (pos zero) = refl
abs-neg (pos (suc n)) = refl
abs-neg (negsuc n) = refl

pub pays_slope-small : (weight : ℤ → ℤ) (step : ℕ) (pays : List PayCoefficients) → IsLight weight → All (IsSized step) pays
    → unsigned_abs (pays_slope weight pays) ≤ length pays * (2 * PRICE_SCALE * (1_400_000_000 * step))
pays_slope-small weight step [] light sized = omega arith
pays_slope-small weight step (pay ∷ pays) light sized =
    let own = All-head (IsSized step) pay pays sized in
    let first = side-small (neg_ℤ (weight pay.day)) pay.low pay.high (2 * PRICE_SCALE) (1_400_000_000 * step) (omega (arith, abs-neg (weight pay.day), light pay.day)) own.low own.high in
    let rest = pays_slope-small weight step pays light (All-tail (IsSized step) pay pays sized) in
    omega (arith, first, rest, abs-sum (least_side (neg_ℤ (weight pay.day)) pay.low pay.high) (pays_slope weight pays))

-- what units add by it is within twice a price of all that they pay
slope-more : (weigh whole side slope high units slack rest : ℕ) → whole ≤ side + slope → side ≤ weigh * high → slope * units ≤ weigh * rest
    → whole * units ≤ weigh * ((high * units + slack) + rest)
slope-more weigh whole side slope high units slack rest sum own others =
    omega (arith, mul-le-mul_right units sum, mul-le-mul_right units own, others)

pub pays_slope-units : (weight : ℤ → ℤ) (units : ℕ) (pays : List PayCoefficients) → IsLight weight → All IsClose pays
    → unsigned_abs (pays_slope weight pays) * units ≤ 2 * PRICE_SCALE * sum_by (λ pay. pay.high * units + pay.slack) pays
pays_slope-units weight units [] light close = omega arith
pays_slope-units weight units (pay ∷ pays) light close =
    let own = All-head IsClose pay pays close in
    let side = least_side (neg_ℤ (weight pay.day)) pay.low pay.high in
    let first = side-small (neg_ℤ (weight pay.day)) pay.low pay.high (2 * PRICE_SCALE) pay.high (omega (arith, abs-neg (weight pay.day), light pay.day)) own.ordered (omega arith) in
    let rest = pays_slope-units weight units pays light (All-tail IsClose pay pays close) in
    rw (sum_by-cons (λ (pay : PayCoefficients). pay.high * units + pay.slack) pay pays)
    (slope-more (2 * PRICE_SCALE) (unsigned_abs (pays_slope weight (pay ∷ pays))) (unsigned_abs side) (unsigned_abs (pays_slope weight pays)) pay.high units pay.slack
    (sum_by (λ (pay : PayCoefficients). pay.high * units + pay.slack) pays) (abs-sum side (pays_slope weight pays)) first rest)

abbrev pub pay_slack : (ℤ → ℤ) → PayCoefficients → ℕ
pay_slack weight pay = unsigned_abs (weight pay.day) * pay.slack

pub pays_slack-small : (weight : ℤ → ℤ) (step : ℕ) (pays : List PayCoefficients) → IsLight weight → All (IsSized step) pays
    → sum_by (pay_slack weight) pays ≤ length pays * (2 * PRICE_SCALE * 500_000_000)
pays_slack-small weight step [] light sized = omega arith
pays_slack-small weight step (pay ∷ pays) light sized =
    let own = All-head (IsSized step) pay pays sized in
    let first = mul-le-mul (light pay.day) own.slack in
    let rest = pays_slack-small weight step pays light (All-tail (IsSized step) pay pays sized) in
    omega (arith, first, rest, sum_by-cons (pay_slack weight) pay pays)

-- ---- reduced costs
pub line_cost-small : (days : PaymentDays) (line : Line) (units : ℕ) → IsLine days line → units ≤ line.most → line_cost line units ≤ 10 ^ 13
line_cost-small days line units (inl cash) few = cash-at_most line units cash few
line_cost-small days line units (inr security) few = omega (arith, security-at_most days line units security few)
