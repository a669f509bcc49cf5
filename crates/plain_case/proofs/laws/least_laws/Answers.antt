use Rattle.plain_case.proofs.LeastFacts.{leasts_rounding}
use Rattle.plain_case.proofs.laws.least_laws.Goals as goal

pub returns : goal.returns
returns c = leasts_rounding
