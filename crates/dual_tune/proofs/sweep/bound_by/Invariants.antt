use Rattle.std.proofs.Common.{◌≡◌, ◌+◌, ◌*◌, ◌^◌, ◌≤◌, ◌+ℤ◌, pos, take, unsigned_abs}
use Rattle.std.specs.List.{zip}
use Rattle.offer_book.specs.declared.coefficients.TheConstants.{COEFFICIENT_SCALE}
use Rattle.offer_book.specs.declared.line.Line.{Line}
use Rattle.dual_bound.specs.LeafBound.{least_within, priced_needs, signed_sum}
use Rattle.proof_tree.specs.declared.interval.Interval.{Interval}
use Rattle.dual_tune.proofs.sweep.bound_by.Given as goal

abbrev pub invariant-loop-line : goal.invariant-loop-line
invariant-loop-line l =
    (l.bound ≡ pos (COEFFICIENT_SCALE * priced_needs l.given.book.now.needs l.leaf.prices)
    +ℤ signed_sum (λ (p : Line × Interval). least_within l.given.yield_units.0 l.given.book.now l.leaf p.0 p.1) (take l.line (zip l.given.book.now.lines l.given.ranges.now.lines)))
    × (unsigned_abs l.bound ≤ 2 * 10 ^ 34 + l.line * (71 * 10 ^ 33))
