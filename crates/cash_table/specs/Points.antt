-- When a single portfolio is no rival, as a point of a tree says it.
use Rattle.std.specs.Prelude.{◌≡◌, ◌⊎◌, ℕ, ◌-◌, ◌*◌, ◌<◌, ◌≤◌, Bool, false, ◌||◌, nat_lt, is_some, List, ℤ}
use Rattle.escrow_units.specs.Flows.{indexed}
use Rattle.escrow_units.specs.declared.limits.TheConstants.{GREATEST_YIELD}
use Rattle.day_sums.specs.Summed.{total_by}
use Rattle.fixed_powers.specs.DiscountPowers.{one}
use Rattle.fixed_powers.specs.PresentValues.{present_value}
use Rattle.fixed_powers.specs.declared.side.Side.TheVariants.{Low}
use Rattle.yield_enclosure.specs.YieldAnswers.{is_within, yield_answer_of}
use Rattle.yield_enclosure.specs.declared.answer.YieldAnswer.{YieldAnswer}
use Rattle.offer_book.specs.Book.{BookContents, IsBook}
use Rattle.offer_book.specs.Portfolio.{payments, security_cost, security_flows}
use Rattle.offer_book.specs.Rival.{IsRival}
use Rattle.cash_table.specs.First.{first_short_of}

-- on some day the payments up to and on it are less than the needs up to and on it
abbrev pub IsShort : BookContents → List ℕ → Type 0
IsShort book plan = (t : ℤ) × (total_by t (payments book plan) < total_by t book.needs)

-- what the securities are worth at the yield n, rounded down, in units of 2^-62 of a cent
abbrev pub low_value : BookContents → ℕ → List ℕ → ℕ
low_value book n plan = present_value Low n (indexed book.days.settle (security_flows book plan))

-- at the yield n a portfolio is excluded: it is short on a day, or its securities are worth more than they cost
abbrev pub IsExcluded : BookContents → ℕ → List ℕ → Type 0
IsExcluded book n plan = IsShort book plan ⊎ (one * security_cost book plan < low_value book n plan)

-- a portfolio is excluded, as a test
abbrev pub is_excluded : BookContents → ℕ → List ℕ → Bool
is_excluded book n plan = is_some (first_short_of book plan) || nat_lt (one * security_cost book plan) (low_value book n plan)

-- the yield of a portfolio's securities, as an interval
abbrev pub plan_yield : BookContents → List ℕ → YieldAnswer
plan_yield book plan = yield_answer_of (indexed book.days.settle (security_flows book plan)) (security_cost book plan)

-- a portfolio's yield is within a limit
abbrev pub is_within_limit : ℕ → BookContents → List ℕ → Bool
is_within_limit limit book plan = is_within limit (plan_yield book plan)

-- a portfolio that is excluded one unit below a limit is no rival under it
abbrev pub ExcludedAreNoRivals : Type 0
ExcludedAreNoRivals = (limit : ℕ) (book : BookContents) (plan : List ℕ)
    → IsExcluded book (limit - 1) plan
    → ¬ IsRival limit book plan

-- a portfolio whose yield isn't within a limit of one unit to 30 percent is excluded one unit below it
abbrev pub BeyondLimitAreExcluded : Type 0
BeyondLimitAreExcluded = (limit : ℕ) (book : BookContents) (plan : List ℕ)
    → IsBook book
    → 1 ≤ limit
    → limit ≤ GREATEST_YIELD
    → is_within_limit limit book plan ≡ false
    → IsExcluded book (limit - 1) plan

-- so it is no rival
abbrev pub BeyondLimitAreNoRivals : Type 0
BeyondLimitAreNoRivals = (limit : ℕ) (book : BookContents) (plan : List ℕ)
    → IsBook book
    → 1 ≤ limit
    → limit ≤ GREATEST_YIELD
    → is_within_limit limit book plan ≡ false
    → ¬ IsRival limit book plan
