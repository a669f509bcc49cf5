-- Present values between whole cents.
use Rattle.std.proofs.Common.{arith, ℕ, ◌*◌, ◌/◌, ◌≤◌, List, ℤ}
use Rattle.std.specs.Int.{div_ceil}
use Rattle.escrow_units.specs.Flows.{indexed, total}
use Rattle.escrow_units.specs.declared.security.Flow.{Flow}
use Rattle.fixed_powers.specs.DiscountPowers.{one}
use Rattle.fixed_powers.specs.PresentValues.{present_value}
use Rattle.fixed_powers.specs.declared.side.Side.{Side}
use Rattle.fixed_powers.specs.declared.side.Side.TheVariants.{High, Low}
use Rattle.fixed_powers.proofs.PresentValueFacts.{high_value-encloses, low_value-encloses, value-within}
use Rattle.fixed_powers.proofs.WholeNumbers.{le-div_ceil-mul}
use Rattle.yield_enclosure.proofs.EndFacts.{total-indexed}
use Rattle.savings_table.specs.PresentRange.{LiesInRange, present_range}

-- discounted flows are worth no more than their sum
pub value-small : (side : Side) (n : ℕ) (settle : ℤ) (flows : List Flow) → total flows ≤ 2_000_000_000_000_000
    → present_value side n (indexed settle flows) ≤ one * 2_000_000_000_000_000
value-small side n settle flows small = omega (arith, value-within side n (indexed settle flows), total-indexed settle flows, small)

-- the exact present value lies between the two ends
pub range-lies : (settle : ℤ) (n : ℕ) (flows : List Flow) → LiesInRange n (indexed settle flows) (present_range settle n flows)
range-lies settle n flows =
    let low = present_value Low n (indexed settle flows) in
    let high = present_value High n (indexed settle flows) in
    record {
      at_least = low_value-encloses n (indexed settle flows) (low / one) (omega arith);
      at_most = high_value-encloses n (indexed settle flows) (div_ceil high one) (omega (arith, le-div_ceil-mul high one (omega arith)));
    }
