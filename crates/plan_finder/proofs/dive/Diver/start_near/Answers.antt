use Rattle.std.proofs.Common.{ap, arith, length}
use Rattle.offer_book.specs.Book.{BookContents}
use Rattle.backward_build.proofs.UnitFacts.{permitted-at}
use Rattle.plan_finder.proofs.dive.Diver.start_near.Goals as goal

pub fix-requires-clause-permitted : goal.fix-requires-clause-permitted
fix-requires-clause-permitted c =
    let same = ap (λ (b : BookContents). length b.lines) c.self.view_is in
    rw c.loop-line.invariant (λ d. rw c.get.ensures (permitted-at c.args.self.now c.args.plan.now c.loop-line.line (omega (arith, c.loop-line-test.true, c.loop-line.auto.line-end, c.line_count-line-end.ensures.value, same)) c.requires.plan d))
