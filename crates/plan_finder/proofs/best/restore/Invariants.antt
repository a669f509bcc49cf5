use Rattle.std.proofs.Common.{◌≡◌, ℕ, ◌<◌, get_or, length}
use Rattle.plan_finder.proofs.best.restore.Given as goal

abbrev pub invariant-loop-line : goal.invariant-loop-line
invariant-loop-line l = record {
  book : l.ledger.book ≡ l.fn.ledger.book;
  count : length l.ledger.plan ≡ length l.fn.ledger.book.lines;
  plan : (k : ℕ) → k < l.line → get_or l.ledger.plan k 0 ≡ get_or l.plan k 0;
}
