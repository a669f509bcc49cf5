use Rattle.std.proofs.Common.{◌≡◌, take, map}
use Rattle.offer_book.specs.Sums.{line_depth}
use Rattle.offer_book.proofs.sums.line_depths.Given as goal

abbrev pub invariant-loop-line : goal.invariant-loop-line
invariant-loop-line l = l.found.items ≡ map (line_depth l.book) (take l.line-index l.lines)
