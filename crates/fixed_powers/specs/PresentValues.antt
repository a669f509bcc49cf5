-- Present values by outward powers, in units of 2^-62 of a cent: this project's own.
use Rattle.std.specs.Prelude.{◌≡◌, ℕ, ◌+◌, ◌*◌, ◌^◌, ◌<◌, ◌≤◌, List}
use Rattle.std.specs.List.{Any, sum_by}
use Rattle.escrow_units.specs.PresentValue.{IndexedFlow, last_index, PresentValueAtLeast, PresentValueAtMost}
use Rattle.fixed_powers.specs.DiscountPowers.{one, power_of}
use Rattle.fixed_powers.specs.declared.side.Side.{Side}
use Rattle.fixed_powers.specs.declared.side.Side.TheVariants.{Low, High}
use Rattle.escrow_units.specs.declared.limits.TheConstants.{FLOWS_LIMIT, GREATEST_INDEX, GREATEST_YIELD}

-- the sum of the flows, not discounted
abbrev pub total_cents : List IndexedFlow → ℕ
total_cents flows = sum_by (λ flow. flow.cents) flows

-- the present value of the flows at the yield n, rounded to a side: the sum of cents times the power of the index
abbrev pub present_value : Side → ℕ → List IndexedFlow → ℕ
present_value side n flows = sum_by (λ flow. flow.cents * power_of side n flow.index) flows

-- at least one amount above 0 falls at an index of 1 or more, so that the yield matters
abbrev pub HasLaterAmount : List IndexedFlow → Type 0
HasLaterAmount flows = Any (λ flow. (0 < flow.cents) × (1 ≤ flow.index)) flows

-- where the low present value covers the cost, so does the exact one
abbrev pub LowValueEncloses : Type 0
LowValueEncloses = (n : ℕ) (flows : List IndexedFlow) (cost : ℕ)
    → one * cost ≤ present_value Low n flows
    → PresentValueAtLeast n flows cost

-- where the high present value is within the cost, so is the exact one
abbrev pub HighValueEncloses : Type 0
HighValueEncloses = (n : ℕ) (flows : List IndexedFlow) (cost : ℕ)
    → present_value High n flows ≤ one * cost
    → PresentValueAtMost n flows cost

-- a present value doesn't rise with the yield
abbrev pub ValueFallsWithYield : Type 0
ValueFallsWithYield = (side : Side) (n m : ℕ) (flows : List IndexedFlow)
    → n ≤ m
    → present_value side m flows ≤ present_value side n flows

-- the two sides are in order
abbrev pub LowValueAtMostHigh : Type 0
LowValueAtMostHigh = (n : ℕ) (flows : List IndexedFlow) → present_value Low n flows ≤ present_value High n flows

-- at the yield 0 it is the sum of the flows
abbrev pub ValueIsTotalAtZero : Type 0
ValueIsTotalAtZero = (side : Side) (flows : List IndexedFlow) → present_value side 0 flows ≡ one * total_cents flows

-- flows of at most 10^15 cents together are worth less than 2^113 units, on either side
abbrev pub ValueFits : Type 0
ValueFits = (side : Side) (n : ℕ) (flows : List IndexedFlow) → total_cents flows ≤ FLOWS_LIMIT → present_value side n flows < 2 ^ 113

-- the present values of a yield, rounded down, lie above those of the next yield, rounded up
pub record SeparatesValues (n : ℕ) (flows : List IndexedFlow) : Type 0 where
  pub ordered : present_value High (n + 1) flows ≤ present_value Low n flows
  pub strict : HasLaterAmount flows → present_value High (n + 1) flows < present_value Low n flows

-- rounding never hides a step of one unit of yield, up to 30 percent and 40 years of 360 days
abbrev pub ValueIsSharp : Type 0
ValueIsSharp = (n : ℕ) (flows : List IndexedFlow)
    → n ≤ GREATEST_YIELD
    → last_index flows ≤ GREATEST_INDEX
    → SeparatesValues n flows

-- where the low present value is more than the cost, so is the exact one
abbrev pub LowValueExcludes : Type 0
LowValueExcludes = (n : ℕ) (flows : List IndexedFlow) (cost : ℕ)
    → one * cost < present_value Low n flows
    → ¬ PresentValueAtMost n flows cost
