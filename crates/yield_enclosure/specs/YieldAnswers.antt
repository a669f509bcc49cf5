-- The yield of flows for a cost, as an interval: this project's own, over the exact yield of 26 CFR 1.148-5(b).
use Rattle.std.specs.Prelude.{◌≡◌, ℕ, ◌+◌, ◌-◌, ◌*◌, ◌<◌, ◌≤◌, Bool, true, false, nat_lt, nat_le, ◌==◌, ◌&&◌, if◌then◌else◌, List, [], length}
use Rattle.escrow_units.specs.PresentValue.{IndexedFlow, PresentValueAtLeast, PresentValueAtMost, YieldLiesIn}
use Rattle.fixed_powers.specs.DiscountPowers.{one}
use Rattle.fixed_powers.specs.PresentValues.{total_cents, present_value}
use Rattle.fixed_powers.specs.Searches.{greatest_passing, least_passing}
use Rattle.fixed_powers.specs.declared.side.Side.TheVariants.{Low, High}
use Rattle.yield_enclosure.specs.declared.answer.YieldAnswer.{YieldAnswer}
use Rattle.yield_enclosure.specs.declared.answer.YieldAnswer.TheVariants.{Empty, Negative, Between, Above}
use Rattle.escrow_units.specs.declared.limits.TheConstants.{GREATEST_YIELD}

-- at the yield n the flows are worth the cost, rounded down
abbrev pub is_worth : List IndexedFlow → ℕ → ℕ → Bool
is_worth flows cost n = nat_le (one * cost) (present_value Low n flows)

-- at the yield n the flows are worth no more than the cost, rounded up
abbrev pub is_no_dearer : List IndexedFlow → ℕ → ℕ → Bool
is_no_dearer flows cost n = nat_le (present_value High n flows) (one * cost)

-- the greatest yield at which the low present value is at least the cost
abbrev pub lower_end : List IndexedFlow → ℕ → ℕ
lower_end flows cost = greatest_passing (is_worth flows cost) GREATEST_YIELD

-- the least yield at which the high present value is at most the cost
abbrev pub upper_end : List IndexedFlow → ℕ → ℕ
upper_end flows cost = least_passing (is_no_dearer flows cost) (GREATEST_YIELD + 1)

-- the answer where the flows sum to the cost or more
abbrev pub answer_of_covered : List IndexedFlow → ℕ → YieldAnswer
answer_of_covered flows cost =
    if is_worth flows cost GREATEST_YIELD then Above
    else Between (record { 0 = lower_end flows cost }) (record { 0 = upper_end flows cost })

-- the answer of flows and a cost: the first that holds
abbrev pub yield_answer_of : List IndexedFlow → ℕ → YieldAnswer
yield_answer_of flows cost =
    if (length flows == 0) && (cost == 0) then Empty
    else if nat_lt (total_cents flows) cost then Negative
    else answer_of_covered flows cost

-- lo is the greatest yield at which the low present value is at least the cost: this says what it is without a search
pub record IsLowerEnd (flows : List IndexedFlow) (cost lo : ℕ) : Type 0 where
  pub worth : one * cost ≤ present_value Low lo flows
  pub greatest : (n : ℕ) → one * cost ≤ present_value Low n flows → n ≤ lo

-- hi is the least yield at which the high present value is at most the cost
pub record IsUpperEnd (flows : List IndexedFlow) (cost hi : ℕ) : Type 0 where
  pub no_dearer : present_value High hi flows ≤ one * cost
  pub least : (n : ℕ) → present_value High n flows ≤ one * cost → hi ≤ n

-- lo and hi are the ends, at most two units apart and below 30 percent, and the exact yield lies between them
pub record AreYieldEnds (flows : List IndexedFlow) (cost lo hi : ℕ) : Type 0 where
  pub lower : IsLowerEnd flows cost lo
  pub upper : IsUpperEnd flows cost hi
  pub ordered : lo ≤ hi
  pub narrow : hi ≤ lo + 2
  pub below : lo < GREATEST_YIELD
  pub exact : YieldLiesIn flows cost lo hi

-- what an answer says of the flows and the cost
abbrev pub IsYieldAnswer : List IndexedFlow → ℕ → YieldAnswer → Type 0
IsYieldAnswer flows cost Empty = (flows ≡ []) × (cost ≡ 0)
IsYieldAnswer flows cost Negative = total_cents flows < cost
IsYieldAnswer flows cost (Between lo hi) = AreYieldEnds flows cost lo.0 hi.0
IsYieldAnswer flows cost Above = PresentValueAtLeast GREATEST_YIELD flows cost

-- a yield is within the limit: there is none, or it is below 0, or the upper end is at most the limit
abbrev pub is_within : ℕ → YieldAnswer → Bool
is_within limit Empty = true
is_within limit Negative = true
is_within limit (Between lo hi) = nat_le hi.0 limit
is_within limit Above = false

-- one unit below the limit the flows are worth more than the cost, even rounded down; so they are exactly
pub record AreDearerBelow (flows : List IndexedFlow) (cost limit : ℕ) : Type 0 where
  pub rounded : one * cost < present_value Low (limit - 1) flows
  pub exact : ¬ PresentValueAtMost (limit - 1) flows cost
