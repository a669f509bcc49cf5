use Rattle.std.proofs.Common.{length}
use Rattle.bound_certificate.proofs.LineFacts.{priced-range}
use Rattle.bound_certificate.proofs.taken.take_priced.Goals as goal

pub rises-requires : goal.rises-requires
rises-requires c = priced-range (length c.args.leaf.now.prices) 0 c.args.numbers.now c.requires.numbers
