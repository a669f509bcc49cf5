use Rattle.std.proofs.Common.{◌≡◌, ◌+◌, ◌*◌, ◌^◌, ◌≤◌, ◌+ℤ◌, pos, take, unsigned_abs}
use Rattle.std.specs.List.{zip}
use Rattle.offer_book.specs.declared.coefficients.TheConstants.{COEFFICIENT_SCALE}
use Rattle.offer_book.specs.declared.line.Line.{Line}
use Rattle.dual_bound.specs.LeafBound.{least_within, priced_needs, signed_sum, weighed_ends}
use Rattle.proof_tree.specs.declared.interval.Interval.{Interval}
use Rattle.dual_bound.proofs.leaf_bound.bound.Given as goal

abbrev pub invariant-loop-place : goal.invariant-loop-place
invariant-loop-place l =
    (l.bound ≡ pos (COEFFICIENT_SCALE * priced_needs l.book.needs l.leaf.prices) +ℤ weighed_ends l.book l.ranges.sums l.leaf.weights
    +ℤ signed_sum (λ (p : Line × Interval). least_within l.powers.yield_units l.book l.leaf p.0 p.1) (take l.place (zip l.lines l.intervals)))
    × (unsigned_abs l.bound ≤ 33 * 10 ^ 35 + l.place * (71 * 10 ^ 33))
