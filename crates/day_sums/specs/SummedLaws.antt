-- What the sums of amounts by day are.
use Rattle.std.specs.Prelude.{◌≡◌, ℕ, ◌*◌, ◌≤◌, List, [], ◌++◌, All, sum_by, ℤ}
use Rattle.escrow_units.specs.Flows.{FallWithin, Rise, total}
use Rattle.escrow_units.specs.declared.security.Flow.{Flow}
use Rattle.day_sums.specs.Summed.{summed, cents_on, total_by}

-- each amount is at least one cent
abbrev pub AreAboveZero : List Flow → Type 0
AreAboveZero flows = All (λ flow. 1 ≤ flow.cents.0) flows

-- sums stand for amounts: in order of day, none of 0 cents, and on each day as much as the amounts come to
pub record AreSums (flows sums : List Flow) : Type 0 where
  pub rise : Rise sums
  pub above : AreAboveZero sums
  pub days : (day : ℤ) → cents_on day sums ≡ cents_on day flows

-- amounts have such sums
abbrev pub SummedAreSums : Type 0
SummedAreSums = (flows : List Flow) → AreSums flows (summed flows)

-- and no others
abbrev pub SumsAreUnique : Type 0
SumsAreUnique = (flows sums : List Flow) → AreSums flows sums → sums ≡ summed flows

-- they come to the total
abbrev pub SummedKeepTotal : Type 0
SummedKeepTotal = (flows : List Flow) → total (summed flows) ≡ total flows

-- by each day they come to as much as the amounts
abbrev pub SummedKeepTotalBy : Type 0
SummedKeepTotalBy = (day : ℤ) (flows : List Flow) → total_by day (summed flows) ≡ total_by day flows

-- the amounts where a cent of each day counts so much, as when it is discounted from its day
abbrev pub weighted : (ℤ → ℕ) → List Flow → ℕ
weighted weight flows = sum_by (λ flow. flow.cents.0 * weight flow.day) flows

-- by any weights of the days they come to as much as the amounts
abbrev pub SummedKeepWeighted : Type 0
SummedKeepWeighted = (weight : ℤ → ℕ) (flows : List Flow) → weighted weight (summed flows) ≡ weighted weight flows

-- amounts that fall within a span of days have sums within it
abbrev pub SummedFallWithin : Type 0
SummedFallWithin = (from to : ℤ) (flows : List Flow) → FallWithin from to flows → FallWithin from to (summed flows)

-- nothing has no sums
abbrev pub NothingSumsToNothing : Type 0
NothingSumsToNothing = summed [] ≡ []

-- amounts may be summed first, and others added then
abbrev pub SummedInSteps : Type 0
SummedInSteps = (first others : List Flow) → summed (summed first ++ others) ≡ summed (first ++ others)
