-- Present values by outward powers, one flow after another.
use Rattle.std.proofs.Common.{◌≡◌, ◌∙◌, ℕ, zero, suc, ◌+◌, ◌-◌, ◌*◌, ◌^◌, ◌<◌, ◌≤◌, List, [], ◌∷◌, length, get_or, inl, inr, sym, ap, subst, arith}
use Rattle.std.specs.List.{sum_by}
use Rattle.std.proofs.lemmas.Bool.{cases_lt}
use Rattle.std.proofs.lemmas.List.Sums.{sum_by-cons}
use Rattle.std.proofs.lemmas.Nat.{pow-add}
use Rattle.std.proofs.Math.Nat.{mul-le-mul_left, mul-le-mul_right, pow-suc, pow-zero}
use Rattle.escrow_units.specs.PresentValue.{IndexedFlow, half_year, two_hundred_percent, last_index, AtLeastDayFactor, AtMostDayFactor}
use Rattle.fixed_powers.specs.DiscountPowers.{one, down, up, root_low, power_of}
use Rattle.fixed_powers.specs.PresentValues.{total_cents, present_value, LowValueEncloses, HighValueEncloses, ValueFallsWithYield, LowValueAtMostHigh, ValueFits, ValueIsTotalAtZero, ValueIsSharp, LowValueExcludes}
use Rattle.fixed_powers.specs.declared.side.Side.{Side}
use Rattle.fixed_powers.specs.declared.side.Side.TheVariants.{Low, High}
use Rattle.fixed_powers.proofs.PowerFacts.{power_of-within, low-encloses, high-encloses, low-le-high, falls_with_yield, one_at_zero, one_at_no_days}
use Rattle.fixed_powers.proofs.ChainFacts.{down-below, up-above}
use Rattle.fixed_powers.proofs.RootFacts.{root_low-is}
use Rattle.fixed_powers.proofs.Sharpness.{sharp}
use Rattle.fixed_powers.proofs.WholeNumbers.{cancel-le, cross-le}

-- what one flow is worth
abbrev worth : Side → ℕ → IndexedFlow → ℕ
worth side n flow = flow.cents * power_of side n flow.index

-- a sum of terms that are no less is no less
sum_by-mono : (f g : IndexedFlow → ℕ) (flows : List IndexedFlow) → ((flow : IndexedFlow) → f flow ≤ g flow) → sum_by f flows ≤ sum_by g flows
sum_by-mono f g [] le = omega arith
sum_by-mono f g (flow ∷ flows) le =
    omega (arith, sum_by-cons f flow flows, sum_by-cons g flow flows, le flow, sum_by-mono f g flows le)

-- the sum at a constant power
total-at_one : (flows : List IndexedFlow) → sum_by (λ flow. flow.cents * one) flows ≡ one * total_cents flows
total-at_one [] = omega arith
total-at_one (flow ∷ flows) =
    omega (arith, sum_by-cons (λ f. f.cents * one) flow flows, sum_by-cons (λ f. f.cents) flow flows, total-at_one flows)

pub value_falls : ValueFallsWithYield
value_falls side n m flows le =
    sum_by-mono (worth side m) (worth side n) flows (λ flow. mul-le-mul_left flow.cents (falls_with_yield side n m flow.index le))

pub low_value-le-high : LowValueAtMostHigh
low_value-le-high n flows =
    sum_by-mono (worth Low n) (worth High n) flows (λ flow. mul-le-mul_left flow.cents (low-le-high n flow.index))

-- discounting never adds
pub value-within : (side : Side) (n : ℕ) (flows : List IndexedFlow) → present_value side n flows ≤ one * total_cents flows
value-within side n flows =
    let terms = sum_by-mono (worth side n) (λ flow. flow.cents * one) flows (λ flow. mul-le-mul_left flow.cents (power_of-within side n flow.index)) in
    omega (arith, terms, total-at_one flows)

-- those of at most 10^15 cents fit in 113 bits
pub value-fits : ValueFits
value-fits side n flows few = omega (arith, few, value-within side n flows, mul-le-mul_left one few)

pub value-at_zero : ValueIsTotalAtZero
value-at_zero side [] = omega arith
value-at_zero side (flow ∷ flows) =
    let head = ap (λ p. flow.cents * p) (one_at_zero side flow.index) in
    omega (arith, head, sum_by-cons (worth side 0) flow flows, sum_by-cons (λ f. f.cents) flow flows, value-at_zero side flows)

-- a flow discounted by a / b for each index day, times b ^ D
abbrev discounted_to : ℕ → ℕ → ℕ → IndexedFlow → ℕ
discounted_to a b D flow = flow.cents * a ^ flow.index * b ^ (D - flow.index)

power_parts : (b i D : ℕ) → i ≤ D → b ^ D ≡ b ^ i * b ^ (D - i)
power_parts b i D h =
    let whole : i + (D - i) ≡ D = omega arith in
    ap (λ n. b ^ n) (sym whole) ∙ pow-add b i (D - i)

low_flow : (n a b D : ℕ) (flow : IndexedFlow) → 0 < b → AtLeastDayFactor n a b → flow.index ≤ D → worth Low n flow * b ^ D ≤ one * discounted_to a b D flow
low_flow n a b D flow some factor within =
    let parts = ap (λ p. worth Low n flow * p) (power_parts b flow.index D within) in
    let below = mul-le-mul_left flow.cents (mul-le-mul_right (b ^ (D - flow.index)) (low-encloses n flow.index a b some factor)) in
    omega (arith, parts, below)

high_flow : (n a b D : ℕ) (flow : IndexedFlow) → 0 < b → AtMostDayFactor n a b → flow.index ≤ D → one * discounted_to a b D flow ≤ worth High n flow * b ^ D
high_flow n a b D flow some factor within =
    let parts = ap (λ p. worth High n flow * p) (power_parts b flow.index D within) in
    let above = mul-le-mul_left flow.cents (mul-le-mul_right (b ^ (D - flow.index)) (high-encloses n flow.index a b some factor)) in
    omega (arith, parts, above)

low_flows : (n a b D : ℕ) (flows : List IndexedFlow) → 0 < b → AtLeastDayFactor n a b → last_index flows ≤ D → present_value Low n flows * b ^ D ≤ one * sum_by (discounted_to a b D) flows
low_flows n a b D [] some factor within = omega arith
low_flows n a b D (flow ∷ flows) some factor within =
    let first = low_flow n a b D flow some factor (omega arith) in
    let rest = low_flows n a b D flows some factor (omega arith) in
    let whole = ap (λ s. s * b ^ D) (sum_by-cons (worth Low n) flow flows) in
    omega (arith, first, rest, whole, sum_by-cons (discounted_to a b D) flow flows)

high_flows : (n a b D : ℕ) (flows : List IndexedFlow) → 0 < b → AtMostDayFactor n a b → last_index flows ≤ D → one * sum_by (discounted_to a b D) flows ≤ present_value High n flows * b ^ D
high_flows n a b D [] some factor within = omega arith
high_flows n a b D (flow ∷ flows) some factor within =
    let first = high_flow n a b D flow some factor (omega arith) in
    let rest = high_flows n a b D flows some factor (omega arith) in
    let whole = ap (λ s. s * b ^ D) (sum_by-cons (worth High n) flow flows) in
    omega (arith, first, rest, whole, sum_by-cons (discounted_to a b D) flow flows)

pub low_value-encloses : LowValueEncloses
low_value-encloses n flows cost covers = λ a b some factor.
    let below = low_flows n a b (last_index flows) flows some factor (omega arith) in
    let covered = mul-le-mul_right (b ^ last_index flows) covers in
    omega (arith, below, covered)

pub high_value-encloses : HighValueEncloses
high_value-encloses n flows cost covers = λ a b some factor.
    let above = high_flows n a b (last_index flows) flows some factor (omega arith) in
    let covered = mul-le-mul_right (b ^ last_index flows) covers in
    omega (arith, above, covered)

pub value-ordered : (n : ℕ) (flows : List IndexedFlow) → n ≤ 3_000_000_000 → last_index flows ≤ 14_400 → present_value High (n + 1) flows ≤ present_value Low n flows
value-ordered n [] yield days = omega arith
value-ordered n (flow ∷ flows) yield days =
    let head = mul-le-mul_left flow.cents (sharp n flow.index yield (omega arith)).ordered in
    let rest = value-ordered n flows yield (omega arith) in
    omega (arith, head, rest, sum_by-cons (worth High (n + 1)) flow flows, sum_by-cons (worth Low n) flow flows)

-- a later amount above 0 is worth less at the next yield
later-lt : (n : ℕ) (flow : IndexedFlow) → n ≤ 3_000_000_000 → flow.index ≤ 14_400 → 0 < flow.cents → 1 ≤ flow.index → worth High (n + 1) flow < worth Low n flow
later-lt n flow yield days some later =
    let less = mul-le-mul_left flow.cents ((sharp n flow.index yield days).strict later) in
    omega (arith, less)

value-lt-at : (n k : ℕ) (later : IndexedFlow) (flows : List IndexedFlow) → n ≤ 3_000_000_000 → last_index flows ≤ 14_400 → k < length flows → get_or flows k later ≡ later → 0 < later.cents → 1 ≤ later.index → present_value High (n + 1) flows < present_value Low n flows
value-lt-at n k later [] yield days within here some index = absurd (omega (arith, within))
value-lt-at n zero later (flow ∷ flows) yield days within here some index =
    let some_here = subst (λ (f : IndexedFlow). 0 < f.cents) (sym here) some in
    let index_here = subst (λ (f : IndexedFlow). 1 ≤ f.index) (sym here) index in
    let head = later-lt n flow yield (omega arith) some_here index_here in
    let rest = value-ordered n flows yield (omega arith) in
    omega (arith, head, rest, sum_by-cons (worth High (n + 1)) flow flows, sum_by-cons (worth Low n) flow flows)
value-lt-at n (suc k) later (flow ∷ flows) yield days within here some index =
    let head = mul-le-mul_left flow.cents (sharp n flow.index yield (omega arith)).ordered in
    let rest = value-lt-at n k later flows yield (omega arith) (omega (arith, within)) here some index in
    omega (arith, head, rest, sum_by-cons (worth High (n + 1)) flow flows, sum_by-cons (worth Low n) flow flows)

pub value_sharp : ValueIsSharp
value_sharp n flows yield days = record {
  ordered = value-ordered n flows yield days;
  strict = λ later. value-lt-at n later.0 later.1 flows yield days later.2 later.3 later.4.0 later.4.1;
}

-- a flow that some yield discounts is a later amount above 0
discounted_flow-lt : (n m : ℕ) (flow : IndexedFlow) → n ≤ 3_000_000_000 → flow.index ≤ 14_400 → worth Low m flow < flow.cents * one → worth High (n + 1) flow < worth Low n flow
discounted_flow-lt n m flow yield days less =
    elim (cases_lt 0 flow.index) [
      | inl later ↦ elim (cases_lt 0 flow.cents) [
        | inl some ↦ later-lt n flow yield days some later
        | inr none ↦
            let nothing : flow.cents ≡ 0 = omega arith in
            absurd (omega (arith, less, ap (λ c. c * one) nothing, ap (λ c. c * power_of Low m flow.index) nothing))
      ]
      | inr now ↦
          let at_once : flow.index ≡ 0 = omega arith in
          let whole : power_of Low m flow.index ≡ one = ap (power_of Low m) at_once ∙ one_at_no_days Low m in
          absurd (omega (arith, less, ap (λ p. flow.cents * p) whole))
    ]

-- where some yield discounts the flows at all, the next yield does so more
pub value-lt : (n m : ℕ) (flows : List IndexedFlow) → n ≤ 3_000_000_000 → last_index flows ≤ 14_400 → present_value Low m flows < one * total_cents flows → present_value High (n + 1) flows < present_value Low n flows
value-lt n m [] yield days less = absurd (omega (arith, less))
value-lt n m (flow ∷ flows) yield days less =
    let head = mul-le-mul_left flow.cents (sharp n flow.index yield (omega arith)).ordered in
    let rest = value-ordered n flows yield (omega arith) in
    elim (cases_lt (present_value Low m flows) (one * total_cents flows)) [
      | inl tail ↦
          let tail_less = value-lt n m flows yield (omega arith) tail in
          omega (arith, head, tail_less, sum_by-cons (worth High (n + 1)) flow flows, sum_by-cons (worth Low n) flow flows)
      | inr whole ↦
          let here : worth Low m flow < flow.cents * one = omega (arith, less, whole, sum_by-cons (worth Low m) flow flows, sum_by-cons (λ f. f.cents) flow flows) in
          let head_less = discounted_flow-lt n m flow yield (omega arith) here in
          omega (arith, head_less, rest, sum_by-cons (worth High (n + 1)) flow flows, sum_by-cons (worth Low n) flow flows)
    ]

-- the fraction root_low / one is at most the day's factor: q ^ k / o ^ k ≤ u / o ≤ m / t
power_below : (o q u m t k : ℕ) → 0 < o → q ^ k * o ≤ u * o ^ k → u * t ≤ o * m → q ^ k * t ≤ o ^ k * m
power_below o q u m t k pos exact enough =
    omega (arith, cross-le (q ^ k) (o ^ k) u o m t pos exact (omega (arith, enough)))

one-pow-pos : (k : ℕ) → 0 < one ^ k
one-pow-pos zero = omega (arith, pow-zero one)
one-pow-pos (suc k) = omega (arith, pow-suc one k, one-pow-pos k)

up-exact : (q k : ℕ) → q ^ k * one ≤ up q k * one ^ k
up-exact q k = omega (arith, up-above q q one k (omega arith))

down-exact : (q k : ℕ) → down q k * one ^ k ≤ one * q ^ k
down-exact q k = down-below q q one k (omega arith)

root_low-factor : (n : ℕ) → AtMostDayFactor n (root_low n) one
root_low-factor n =
    let exact = up-exact (root_low n) half_year in
    power_below one (root_low n) (up (root_low n) half_year) two_hundred_percent (two_hundred_percent + n) half_year (omega arith) exact (root_low-is n).enough

-- the low worth is at most what the flow is worth by that fraction
low_flow-root : (n D : ℕ) (flow : IndexedFlow) → flow.index ≤ D → worth Low n flow * one ^ D ≤ one * discounted_to (root_low n) one D flow
low_flow-root n D flow within =
    let parts = ap (λ p. worth Low n flow * p) (power_parts one flow.index D within) in
    let exact = down-exact (root_low n) flow.index in
    let below = mul-le-mul_left flow.cents (mul-le-mul_right (one ^ (D - flow.index)) exact) in
    omega (arith, parts, below)

low_flows-root : (n D : ℕ) (flows : List IndexedFlow) → last_index flows ≤ D → present_value Low n flows * one ^ D ≤ one * sum_by (discounted_to (root_low n) one D) flows
low_flows-root n D [] within = omega arith
low_flows-root n D (flow ∷ flows) within =
    let first = low_flow-root n D flow (omega arith) in
    let rest = low_flows-root n D flows (omega arith) in
    let whole = ap (λ s. s * one ^ D) (sum_by-cons (worth Low n) flow flows) in
    omega (arith, first, rest, whole, sum_by-cons (discounted_to (root_low n) one D) flow flows)

pub low_value-excludes : LowValueExcludes
low_value-excludes n flows cost dearer at_most =
    let below = low_flows-root n (last_index flows) flows (omega arith) in
    let exact = at_most (root_low n) one (omega arith) (root_low-factor n) in
    let whole : present_value Low n flows * one ^ last_index flows ≤ one * cost * one ^ last_index flows = omega (arith, below, exact) in
    let less = cancel-le (present_value Low n flows) (one * cost) (one ^ last_index flows) (one-pow-pos (last_index flows)) whole in
    absurd (omega (arith, less, dearer))
