use Rattle.std.proofs.Common.{arith, length, ap}
use Rattle.plan_finder.specs.Ledger.{LedgerContents}
use Rattle.backward_build.proofs.UnitFacts.{permitted-at}
use Rattle.plan_finder.proofs.ledger.Ledger.put_plan.Goals as goal

pub put-requires-clause-permitted : goal.put-requires-clause-permitted
put-requires-clause-permitted c =
    let same = ap (λ (l : LedgerContents). length l.book.lines) c.self.view_is in
    rw c.loop-line.invariant.book (λ d. rw c.get.ensures (permitted-at c.args.self.now.book c.args.plan.now c.loop-line.line (omega (arith, c.loop-line-test.true, c.loop-line.auto.line-end, c.line_count-line-end.ensures.value, same)) c.requires d))
