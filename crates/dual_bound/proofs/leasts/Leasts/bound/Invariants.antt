use Rattle.std.proofs.Common.{◌≡◌, ℕ, ◌+◌, ◌*◌, ◌^◌, ◌<◌, ◌≤◌, ◌+ℤ◌, get_or, pos, take, unsigned_abs}
use Rattle.std.specs.List.{zip}
use Rattle.offer_book.specs.declared.coefficients.TheConstants.{COEFFICIENT_SCALE}
use Rattle.offer_book.specs.declared.line.Line.{Line}
use Rattle.dual_bound.specs.LeafBound.{least_within, priced_needs, signed_sum, weighed_ends}
use Rattle.dual_bound.specs.Leasts.{AreLeasts, IsRight}
use Rattle.dual_bound.specs.Loads.{with_weights}
use Rattle.dual_bound.specs.declared.leasts.Least.{Least}
use Rattle.proof_tree.specs.declared.interval.Interval.{Interval}
use Rattle.dual_bound.proofs.leasts.Leasts.bound.Given as goal

abbrev pub invariant-loop-line : goal.invariant-loop-line
invariant-loop-line l = record {
  sum : l.bound ≡ pos (COEFFICIENT_SCALE * priced_needs l.book.needs l.tableau.priced.leaf.prices) +ℤ weighed_ends l.book l.ranges.sums l.loads.weights.items
      +ℤ signed_sum (λ (p : Line × Interval). least_within l.tableau.yield_units.0 l.book (with_weights l.tableau.priced.leaf l.loads.weights.items) p.0 p.1) (take l.line (zip l.book.lines l.intervals));
  small : unsigned_abs l.bound ≤ 33 * 10 ^ 35 + l.line * (71 * 10 ^ 33);
  leasts : AreLeasts l.tableau.yield_units.0 l.book l.tableau.priced.leaf l.self;
  right : (k : ℕ) (d : Line) (e : Least) → k < l.line → IsRight l.tableau.yield_units.0 l.book l.tableau.priced.leaf (get_or l.book.lines k d) (get_or l.self.lines.items k e);
}
