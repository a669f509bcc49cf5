use Rattle.std.proofs.Common.{arith}
use Rattle.escrow_check.proofs.CloseFacts.{lows-all}
use Rattle.escrow_check.proofs.closing.put_low_ends.Goals as goal

pub returns : goal.returns
returns c =
    lows-all c.args.ranges.now.lines c.loop-line.plan (record {
      same = c.loop-line.invariant.same;
      lows = λ k d few. c.loop-line.invariant.lows k d (omega (arith, few, c.requires.ranges, c.line_count-line-end.ensures.value, c.loop-line-test.false));
    })
