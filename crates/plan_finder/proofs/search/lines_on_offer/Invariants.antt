use Rattle.std.proofs.Common.{◌<◌, ◌≤◌, All, length}
use Rattle.plan_finder.proofs.search.lines_on_offer.Given as goal

abbrev pub invariant-loop-line : goal.invariant-loop-line
invariant-loop-line l = record {
  there : All (λ line. line < length l.book.lines) l.lines.items;
  few : length l.lines.items ≤ l.line;
}
