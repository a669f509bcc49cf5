use Rattle.std.proofs.Common.{◌≡◌, ◌<◌, ◌≤◌, ◌*◌, ◌^◌, ℕ, All, get_or, length, unsigned_abs}
use Rattle.offer_book.specs.declared.line.Line.{Line}
use Rattle.dual_bound.specs.LeafBound.{least_within}
use Rattle.proof_tree.specs.declared.interval.Interval.{Interval}
use Rattle.dual_tune.specs.declared.sweep.LineLeast.{LineLeast}
use Rattle.dual_tune.proofs.sweep.Sweep.keep_leasts.Given as goal

abbrev pub invariant-loop-line : goal.invariant-loop-line
invariant-loop-line l = record {
  columns : l.self.columns ≡ l.fn.self.columns;
  table : l.self.table ≡ l.fn.self.table;
  points : l.self.points ≡ l.fn.self.points;
  trial : l.self.trial ≡ l.fn.self.trial;
  places : length l.self.leasts.items ≡ length l.given.book.now.lines;
  small : All (λ least. unsigned_abs least.least ≤ 71 * 10 ^ 33) l.self.leasts.items;
  leasts : (line : ℕ) (d : Line) (e : Interval) (f : LineLeast) → line < l.line
      → (get_or l.self.leasts.items line f).least
      ≡ least_within l.given.yield_units.0 l.given.book.now l.given.leaf.now (get_or l.given.book.now.lines line d) (get_or l.given.ranges.now.lines line e);
}
