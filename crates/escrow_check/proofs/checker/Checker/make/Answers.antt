use Rattle.std.proofs.Common.{[]}
use Rattle.escrow_check.proofs.checker.Checker.make.Goals as goal

pub invariant_of-result : goal.invariant_of-result
invariant_of-result c = record { book = c.make.ensures.book; heard = ([], λ e. c.in_ok-hearing.ensures.heard) }
