-- Present values between two whole numbers of cents, rounded outward: this project's own.
use Rattle.std.specs.Prelude.{ℕ, ◌/◌, List, ℤ}
use Rattle.std.specs.Int.{div_ceil}
use Rattle.escrow_units.specs.Flows.{indexed}
use Rattle.escrow_units.specs.PresentValue.{IndexedFlow, PresentValueAtLeast, PresentValueAtMost}
use Rattle.escrow_units.specs.declared.security.Flow.{Flow}
use Rattle.fixed_powers.specs.DiscountPowers.{one}
use Rattle.fixed_powers.specs.PresentValues.{present_value}
use Rattle.fixed_powers.specs.declared.side.Side.TheVariants.{High, Low}
use Rattle.savings_table.specs.declared.discounting.PvRange.{PvRange}

-- the exact present value of the flows at the yield n, which is defined without roots, lies between the two ends
pub record LiesInRange (n : ℕ) (flows : List IndexedFlow) (range : PvRange) : Type 0 where
  pub at_least : PresentValueAtLeast n flows range.lo
  pub at_most : PresentValueAtMost n flows range.hi

-- the low present value at the yield n in whole cents, rounded down, and the high one, rounded up
abbrev pub present_range : ℤ → ℕ → List Flow → PvRange
present_range settle n flows = record {
  lo = present_value Low n (indexed settle flows) / one;
  hi = div_ceil (present_value High n (indexed settle flows)) one;
}
