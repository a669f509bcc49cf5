use Rattle.std.proofs.Common.{◌∙◌, arith, sym}
use Rattle.bound_certificate.proofs.LoopFacts.{places-end}
use Rattle.bound_certificate.proofs.taken.places_rise.Goals as goal

pub returns : goal.returns
returns c = sym (places-end c.args.changes.now c.loop-place.place (omega arith)) ∙ c.loop-place.invariant
