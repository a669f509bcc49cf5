use Rattle.std.proofs.Common.{subst, arith}
use Rattle.dual_tune.specs.Payers.{ArePayersByDate}
use Rattle.dual_tune.proofs.payers.payers_by_date.Goals as goal

pub returns : goal.returns
returns c =
    subst (λ count. ArePayersByDate c.args.book.now count c.loop-line.by_date.items) (omega (arith, c.loop-line.auto.line-end, c.loop-line-test.false, c.line_count-line-end.ensures.value)) c.loop-line.invariant
