use Rattle.std.proofs.Common.{◌≡◌}
use Rattle.std.specs.Prelude.{IfSome}
use Rattle.plan_finder.specs.Proposal.{IsProposal}
use Rattle.plan_finder.proofs.best.finish.Given as goal

abbrev pub invariant-loop-order : goal.invariant-loop-order
invariant-loop-order l = record {
  book : l.ledger.book ≡ l.fn.ledger.book;
  best : IfSome l.best (IsProposal l.limit.0 l.fn.ledger.book);
}
