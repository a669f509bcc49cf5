use Rattle.std.proofs.Common.{◌≡◌, length, take}
use Rattle.std.specs.List.{sum_by, zip}
use Rattle.offer_book.specs.Portfolio.{line_cost}
use Rattle.cash_table.proofs.costs.lines_cost.Given as goal

abbrev pub invariant-loop-line : goal.invariant-loop-line
invariant-loop-line l = l.total ≡ sum_by (λ p. line_cost p.0 p.1) (take (length l.yielded) (zip l.lines l.plan))
