use Rattle.std.proofs.Common.{◌≡◌, ℕ, ◌<◌, length, get_or}
use Rattle.offer_book.specs.declared.line.Line.{Line}
use Rattle.plan_finder.specs.Ledger.{IsTerms}
use Rattle.plan_finder.specs.declared.terms.LineTerms.{LineTerms}
use Rattle.plan_finder.proofs.account.terms_of.Given as goal

abbrev pub invariant-loop-line : goal.invariant-loop-line
invariant-loop-line l = record {
  count : length l.terms.items ≡ l.line;
  each : (k : ℕ) (own : LineTerms) → k < l.line → (line : Line) → IsTerms l.powers.yield_units l.book.days (get_or l.book.lines k line) (get_or l.terms.items k own);
}
