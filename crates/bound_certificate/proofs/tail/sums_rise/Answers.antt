use Rattle.std.proofs.Common.{◌∙◌, arith, sym}
use Rattle.bound_certificate.proofs.TailLoops.{sums-end}
use Rattle.bound_certificate.proofs.tail.sums_rise.Goals as goal

pub returns : goal.returns
returns c = sym (sums-end c.args.weights.now c.loop-place.place (omega arith)) ∙ c.loop-place.invariant
