use Rattle.std.proofs.Common.{sym, arith}
use Rattle.rate_cap.proofs.CaseFacts.{top-kept, top-other, top-rises}
use Rattle.rate_cap.proofs.cap.top_with.Goals as goal

pub returns-in-None : goal.returns-in-None
returns-in-None c = λ lines h. top-other lines c.args.line.now c.args.top (sym c.in-None.ensures) h

pub returns-then-top-rate : goal.returns-then-top-rate
returns-then-top-rate c = λ lines h. top-rises lines c.args.line.now c.args.top c.in-Some.rate (sym c.in-Some.ensures) (omega arith) h

pub returns-else-top-rate : goal.returns-else-top-rate
returns-else-top-rate c = λ lines h. top-kept lines c.args.line.now c.args.top c.in-Some.rate (sym c.in-Some.ensures) (omega arith) h
