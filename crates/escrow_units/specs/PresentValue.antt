-- Present value without roots: discount factors are fractions of whole numbers.
use Rattle.std.specs.Prelude.{ℕ, ◌+◌, ◌-◌, ◌*◌, ◌^◌, ◌≤◌, ◌<◌, max, List, sum_by, [], ◌∷◌}

-- an amount of cents that falls on an index day, counted from settlement by the 30E/360 index
pub record IndexedFlow : Type 0 where
  pub index : ℕ
  pub cents : ℕ

-- the greatest index of the flows, or 0 where there are none
abbrev pub last_index : List IndexedFlow → ℕ
last_index [] = 0
last_index (flow ∷ flows) = max flow.index (last_index flows)

-- the flows discounted by the fraction a / b for each index day, times b ^ last_index
abbrev pub discounted : ℕ → ℕ → List IndexedFlow → ℕ
discounted a b flows = sum_by (λ flow. flow.cents * a ^ flow.index * b ^ (last_index flows - flow.index)) flows

-- a half-year is 180 index days
abbrev pub half_year : ℕ
half_year = 180

-- 200 percent of a yield, in units of 10^-10: a yield of n units discounts a half-year by 200 percent / (200 percent + n)
abbrev pub two_hundred_percent : ℕ
two_hundred_percent = 2 * 10 ^ 10

-- the fraction a / b is at least the discount factor of one index day at the yield n
abbrev pub AtLeastDayFactor : ℕ → ℕ → ℕ → Type 0
AtLeastDayFactor n a b = b ^ half_year * two_hundred_percent ≤ a ^ half_year * (two_hundred_percent + n)

-- the fraction a / b is at most the discount factor of one index day at the yield n
abbrev pub AtMostDayFactor : ℕ → ℕ → ℕ → Type 0
AtMostDayFactor n a b = a ^ half_year * (two_hundred_percent + n) ≤ b ^ half_year * two_hundred_percent

-- the exact present value of the flows at the yield n is at least the cost: semiannual compounding on a
-- 30E/360 index (26 CFR 1.148-4(a) permits both), said of every fraction that is at least the day's factor
abbrev pub PresentValueAtLeast : ℕ → List IndexedFlow → ℕ → Type 0
PresentValueAtLeast n flows cost =
    (a b : ℕ) → 0 < b → AtLeastDayFactor n a b → cost * b ^ last_index flows ≤ discounted a b flows

-- the exact present value of the flows at the yield n is at most the cost
abbrev pub PresentValueAtMost : ℕ → List IndexedFlow → ℕ → Type 0
PresentValueAtMost n flows cost =
    (a b : ℕ) → 0 < b → AtMostDayFactor n a b → discounted a b flows ≤ cost * b ^ last_index flows

-- the exact yield of the flows for the cost lies from low to high, in units of 10^-10 (26 CFR 1.148-5(b))
pub record YieldLiesIn (flows : List IndexedFlow) (cost low high : ℕ) : Type 0 where
  pub at_least : PresentValueAtLeast low flows cost
  pub at_most : PresentValueAtMost high flows cost
