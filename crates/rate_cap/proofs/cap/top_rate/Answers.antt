use Rattle.std.proofs.Common.{arith}
use Rattle.rate_cap.proofs.CaseFacts.{top-end}
use Rattle.rate_cap.proofs.cap.top_rate.Goals as goal

pub returns-clause-hundredths : goal.returns-clause-hundredths
returns-clause-hundredths c = λ rates.
    top-end c.lines-lines.result.now c.args.case.now.book.lines c.loop-line.line-index c.loop-line.top c.lines-lines.ensures.value (omega arith) rates c.loop-line.invariant
