use Rattle.std.proofs.Common.{◌∙◌, arith}
use Rattle.bound_certificate.proofs.LoopFacts.{rises-next}
use Rattle.bound_certificate.proofs.line.rises.Goals as goal

pub loop-place-preserved : goal.loop-place-preserved
loop-place-preserved c =
    rises-next c.args.prices.now c.loop-place.place c.loop-place.differences (omega arith) c.loop-place-test.true c.requires ∙ c.loop-place.invariant
