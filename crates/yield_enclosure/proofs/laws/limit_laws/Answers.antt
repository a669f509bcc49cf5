use Rattle.yield_enclosure.proofs.LimitFacts.{dearer_below_limit, nothing_within}
use Rattle.yield_enclosure.proofs.laws.limit_laws.Goals as goal

pub returns-clause-dearer : goal.returns-clause-dearer
returns-clause-dearer c = dearer_below_limit

pub returns-clause-nothing : goal.returns-clause-nothing
returns-clause-nothing c = nothing_within
