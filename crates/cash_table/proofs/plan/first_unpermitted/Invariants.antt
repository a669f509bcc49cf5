use Rattle.std.proofs.Common.{◌≡◌, ℕ, ◌<◌, true, slice_index, slice_index_or}
use Rattle.offer_book.specs.declared.line.Line.{Line}
use Rattle.offer_book.specs.Portfolio.{permits}
use Rattle.cash_table.proofs.plan.first_unpermitted.Given as goal

abbrev pub invariant-loop-line : goal.invariant-loop-line
invariant-loop-line l =
    (k : ℕ) (d : Line) → k < l.line → permits (slice_index_or l.book.lines k d) (slice_index l.plan k) ≡ true
