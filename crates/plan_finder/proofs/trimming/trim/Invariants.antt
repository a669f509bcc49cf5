use Rattle.std.proofs.Common.{◌≡◌}
use Rattle.offer_book.specs.Portfolio.{Meets}
use Rattle.plan_finder.proofs.trimming.trim.Given as goal

abbrev pub invariant-loop-ranked : goal.invariant-loop-ranked
invariant-loop-ranked l = record {
  book : l.ledger.book ≡ l.fn.ledger.book;
  meets : Meets l.ledger.book l.ledger.plan;
}
