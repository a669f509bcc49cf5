-- What is true of all outward powers, whatever the code does.
use Rattle.std.specs.Prelude.{◌≡◌, ℕ, ◌+◌, ◌*◌, ◌^◌, ◌<◌, ◌≤◌}
use Rattle.fixed_powers.specs.DiscountPowers.{one, chain, root_of, power_of, low, high, LiesOutward}
use Rattle.fixed_powers.specs.declared.side.Side.{Side}
use Rattle.escrow_units.specs.declared.limits.TheConstants.{GREATEST_INDEX, GREATEST_YIELD}

-- each power lies on its side of the exact one
abbrev pub PowersEnclose : Type 0
PowersEnclose = (side : Side) (n d : ℕ) → LiesOutward side n d (power_of side n d)

-- a power doesn't rise with the days
abbrev pub FallsWithDays : Type 0
FallsWithDays = (side : Side) (n d e : ℕ) → d ≤ e → power_of side n e ≤ power_of side n d

-- a power doesn't rise with the yield
abbrev pub FallsWithYield : Type 0
FallsWithYield = (side : Side) (n m d : ℕ) → n ≤ m → power_of side m d ≤ power_of side n d

-- the two sides are in order
abbrev pub LowAtMostHigh : Type 0
LowAtMostHigh = (n d : ℕ) → low n d ≤ high n d

-- nothing is discounted at the yield 0
abbrev pub IsOneAtZero : Type 0
IsOneAtZero = (side : Side) (d : ℕ) → power_of side 0 d ≡ one

-- nothing is discounted within no days
abbrev pub IsOneAtNoDays : Type 0
IsOneAtNoDays = (side : Side) (n : ℕ) → power_of side n 0 ≡ one

-- no multiplication of a chain leaves 124 bits: the product of a power and its factor
abbrev pub ProductsFit : Type 0
ProductsFit = (side : Side) (n d : ℕ) → power_of side n d * root_of side n ≤ 2 ^ 124

-- a greater factor has powers that are no less: this is why bisection finds the greatest and the least
abbrev pub ChainsRise : Type 0
ChainsRise = (side : Side) (p q d : ℕ) → p ≤ q → chain side p d ≤ chain side q d

-- the powers of a yield, rounded down, lie above those of the next yield, rounded up
pub record SeparatesYields (n d : ℕ) : Type 0 where
  pub ordered : high (n + 1) d ≤ low n d
  pub strict : 1 ≤ d → high (n + 1) d < low n d

-- rounding never hides a step of one unit of yield, up to 30 percent and 40 years of 360 days
abbrev pub IsSharp : Type 0
IsSharp = (n d : ℕ) → n ≤ GREATEST_YIELD → d ≤ GREATEST_INDEX → SeparatesYields n d
