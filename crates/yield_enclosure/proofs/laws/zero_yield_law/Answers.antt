use Rattle.yield_enclosure.proofs.ZeroYield.{zero_yield}
use Rattle.yield_enclosure.proofs.laws.zero_yield_law.Goals as goal

pub returns : goal.returns
returns c = zero_yield
