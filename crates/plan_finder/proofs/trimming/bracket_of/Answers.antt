use Rattle.std.proofs.Common.{arith}
use Rattle.plan_finder.proofs.trimming.bracket_of.Goals as goal

pub loop-doublings-preserved : goal.loop-doublings-preserved
loop-doublings-preserved c = record {
  least = omega arith;
  most = omega (arith, c.loop-doublings.invariant.most);
  enough = λ d. (c.suffices.ensures d).0 c.if-suffices.true;
}
