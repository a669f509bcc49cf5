use Rattle.case_maker.proofs.LengthFacts.{keeps_to_limit}
use Rattle.case_maker.proofs.files.made_from.Goals as goal

pub returns-clause-within : goal.returns-clause-within
returns-clause-within g c = keeps_to_limit g.number _ c.in_ok-issue.ensures.text c.in_ok-rates.ensures.text c.in_ok-prices.ensures
