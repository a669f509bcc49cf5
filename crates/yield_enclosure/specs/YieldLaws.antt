-- What is true of all yields, whatever the code does.
use Rattle.std.specs.Prelude.{◌≡◌, ℕ, ◌≤◌, true, false, List, []}
use Rattle.std.specs.List.{All}
use Rattle.escrow_units.specs.PresentValue.{IndexedFlow}
use Rattle.fixed_powers.specs.PresentValues.{HasLaterAmount, total_cents}
use Rattle.yield_enclosure.specs.YieldAnswers.{AreDearerBelow, is_within, yield_answer_of}
use Rattle.yield_enclosure.specs.declared.answer.YieldAnswer.TheVariants.{Between}
use Rattle.escrow_units.specs.declared.limits.TheConstants.{GREATEST_INDEX, GREATEST_YIELD}

-- flows within 40 years of 360 days that sum to their cost, with an amount above 0 at an index of 1 or more, yield just 0
abbrev pub YieldsZeroAtItsSum : Type 0
YieldsZeroAtItsSum = (flows : List IndexedFlow) (cost : ℕ)
    → All (λ flow. flow.index ≤ GREATEST_INDEX) flows
    → HasLaterAmount flows
    → total_cents flows ≡ cost
    → yield_answer_of flows cost ≡ Between (record { 0 = 0 }) (record { 0 = 0 })

-- flows within 40 years of 360 days, with an amount above 0 at an index of 1 or more, whose yield isn't within a limit of one
-- unit to 30 percent, are worth more than their cost one unit below the limit
abbrev pub AreDearerBelowTheirLimit : Type 0
AreDearerBelowTheirLimit = (limit : ℕ) (flows : List IndexedFlow) (cost : ℕ)
    → All (λ flow. flow.index ≤ GREATEST_INDEX) flows
    → HasLaterAmount flows
    → 1 ≤ limit
    → limit ≤ GREATEST_YIELD
    → is_within limit (yield_answer_of flows cost) ≡ false
    → AreDearerBelow flows cost limit

-- where there are no flows, every limit is kept
abbrev pub NothingIsWithin : Type 0
NothingIsWithin = (limit cost : ℕ) → is_within limit (yield_answer_of [] cost) ≡ true
