use Rattle.std.proofs.Common.{◌≡◌, ◌<◌, ◌≤◌, ℕ}
use Rattle.halving_tree.specs.Halving.{width_at}
use Rattle.halving_tree.proofs.rule.widest.Given as goal

abbrev pub invariant-loop-other : goal.invariant-loop-other
invariant-loop-other l =
    (l.line < l.other) × (l.greatest ≡ width_at l.book.lines l.ranges.lines l.line)
    × ((k : ℕ) → k < l.other → width_at l.book.lines l.ranges.lines k ≤ l.greatest)
    × ((k : ℕ) → k < l.line → width_at l.book.lines l.ranges.lines k < l.greatest)
