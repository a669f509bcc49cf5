use Rattle.std.proofs.Common.{◌≡◌, ℕ, ◌<◌, length, get_or}
use Rattle.offer_book.specs.declared.line.Line.{Line}
use Rattle.plan_finder.specs.Ledger.{AreTerms, IsPurchase}
use Rattle.plan_finder.specs.declared.terms.Purchase.{Purchase}
use Rattle.plan_finder.proofs.account.nothing_held.Given as goal

abbrev pub invariant-loop-line : goal.invariant-loop-line
invariant-loop-line l = record {
  count : length l.held.items ≡ l.line;
  each : (n : ℕ) → AreTerms n l.book l.terms
      → (k : ℕ) (own : Purchase) → k < l.line → (line : Line) → IsPurchase n l.book.days (get_or l.book.lines k line) 0 (get_or l.held.items k own);
}
