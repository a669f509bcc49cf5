-- Powers of one index day's discount factor in fixed point of 62 fraction bits, rounded outward: this project's own.
-- A yield of n units of 10^-10 discounts a half-year of 180 index days by 200 percent / (200 percent + n).
use Rattle.std.specs.Prelude.{◌≡◌, ℕ, zero, suc, ◌+◌, ◌*◌, ◌/◌, ◌^◌, ◌<◌, ◌≤◌, Bool, nat_le, List, length, slice_index}
use Rattle.std.specs.Int.{div_ceil}
use Rattle.escrow_units.specs.declared.limits.TheConstants.{GREATEST_INDEX}
use Rattle.escrow_units.specs.PresentValue.{half_year, two_hundred_percent, AtLeastDayFactor, AtMostDayFactor}
use Rattle.fixed_powers.specs.Searches.{greatest_passing, least_passing}
use Rattle.fixed_powers.specs.declared.side.Side.{Side}
use Rattle.fixed_powers.specs.declared.side.Side.TheVariants.{Low, High}

-- one, as a number of 62 fraction bits
abbrev pub one : ℕ
one = 2 ^ 62

-- the power d of the factor q, rounded down after each multiplication
unfoldable pub down : ℕ → ℕ → ℕ
down q zero = one
down q (suc d) = down q d * q / one

-- the power d of the factor q, rounded up after each multiplication
unfoldable pub up : ℕ → ℕ → ℕ
up q zero = one
up q (suc d) = div_ceil (up q d * q) one

-- the half-year's power of q, rounded up, is at most the half-year's discount factor at the yield n
abbrev pub is_low_enough : ℕ → ℕ → Bool
is_low_enough n q = nat_le (up q half_year * (two_hundred_percent + n)) (one * two_hundred_percent)

-- the half-year's power of q, rounded down, is at least the half-year's discount factor at the yield n
abbrev pub is_high_enough : ℕ → ℕ → Bool
is_high_enough n q = nat_le (one * two_hundred_percent) (down q half_year * (two_hundred_percent + n))

-- the factor of one index day at the yield n, rounded down: the greatest that is low enough
unfoldable pub root_low : ℕ → ℕ
root_low n = greatest_passing (is_low_enough n) one

-- the factor of one index day at the yield n, rounded up: the least that is high enough
unfoldable pub root_high : ℕ → ℕ
root_high n = least_passing (is_high_enough n) one

-- the discount factor of d index days at the yield n, rounded down
abbrev pub low : ℕ → ℕ → ℕ
low n d = down (root_low n) d

-- the discount factor of d index days at the yield n, rounded up
abbrev pub high : ℕ → ℕ → ℕ
high n d = up (root_high n) d

-- the factor of one index day, rounded to a side
abbrev pub root_of : Side → ℕ → ℕ
root_of Low n = root_low n
root_of High n = root_high n

-- the power of a factor, rounded to a side
abbrev pub chain : Side → ℕ → ℕ → ℕ
chain Low q d = down q d
chain High q d = up q d

-- the discount factor of d index days at the yield n, rounded to a side
abbrev pub power_of : Side → ℕ → ℕ → ℕ
power_of Low n d = low n d
power_of High n d = high n d

-- the numbers are the powers of 0, 1, 2 .. index days at the yield n, rounded to a side
abbrev pub ArePowers : Side → ℕ → List ℕ → Type 0
ArePowers side n powers = (d : ℕ) → d < length powers → slice_index powers d ≡ power_of side n d

-- what a table of powers holds: the powers of one yield, rounded to one side, of 0 to longest index days
pub record PowerTable : Type 0 where
  pub yield_units : ℕ
  pub side : Side
  pub longest : ℕ

-- q is the greatest factor that is low enough: this says what root_low is, without its search
pub record IsRootLow (n q : ℕ) : Type 0 where
  pub within : q ≤ one
  pub enough : up q half_year * (two_hundred_percent + n) ≤ one * two_hundred_percent
  pub greatest : (p : ℕ) → p ≤ one → up p half_year * (two_hundred_percent + n) ≤ one * two_hundred_percent → p ≤ q

-- q is the least factor that is high enough: this says what root_high is, without its search
pub record IsRootHigh (n q : ℕ) : Type 0 where
  pub within : q ≤ one
  pub enough : one * two_hundred_percent ≤ down q half_year * (two_hundred_percent + n)
  pub least : (p : ℕ) → one * two_hundred_percent ≤ down p half_year * (two_hundred_percent + n) → q ≤ p

-- the value is at most the exact power d, in units of 1 / one, of the day's factor at the yield n: said without a root
-- and without a division, of each fraction a / b that is at least that factor
abbrev pub IsAtMostPower : ℕ → ℕ → ℕ → Type 0
IsAtMostPower n d value = (a b : ℕ) → 0 < b → AtLeastDayFactor n a b → value * b ^ d ≤ one * a ^ d

-- the value is at least the exact power d of the day's factor, said of each fraction a / b that is at most that factor
abbrev pub IsAtLeastPower : ℕ → ℕ → ℕ → Type 0
IsAtLeastPower n d value = (a b : ℕ) → 0 < b → AtMostDayFactor n a b → one * a ^ d ≤ value * b ^ d

-- the value lies on its side of the exact power d of the day's factor
abbrev pub LiesOutward : Side → ℕ → ℕ → ℕ → Type 0
LiesOutward Low n d value = IsAtMostPower n d value
LiesOutward High n d value = IsAtLeastPower n d value

-- a table of powers rounded down, for each day of 40 years
pub record IsLowTable (table : PowerTable) : Type 0 where
  pub side : table.side ≡ Low
  pub longest : table.longest ≡ GREATEST_INDEX
