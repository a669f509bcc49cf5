use Rattle.std.proofs.Common.{◌≡◌, ◌*◌, ◌^◌, ◌≤◌, ◌*ℤ◌, pos, take, unsigned_abs}
use Rattle.escrow_units.specs.declared.security.Flow.{Flow}
use Rattle.dual_bound.specs.LeafBound.{paid_worth, signed_sum}
use Rattle.dual_bound.proofs.leaf_bound.priced_cost.Given as goal

abbrev pub invariant-loop-flow : goal.invariant-loop-flow
invariant-loop-flow l =
    (l.paid ≡ signed_sum (λ (flow : Flow). paid_worth l.powers.yield_units l.book l.leaf l.line.kind flow.day *ℤ pos flow.cents.0) (take l.flow-index l.flow-items))
    × (unsigned_abs l.paid ≤ l.flow-index * (4 * 10 ^ 25))
